use Rattle.std.proofs.Common.{◌≡◌, ◌+◌, ◌-◌, ℕ, List, [], get_or, sym, ap₂, subst, arith}
use Rattle.aes_block.specs.Block.{IsBlock, inverse_mix_polynomial, inverse_sub_bytes, inverse_shift_rows, round_key}
use Rattle.aes_block.specs.Words.{AreWordsOf, IsMixedBack}
use Rattle.aes_block.proofs.Cipher.{IsBlock-inverse_sub_bytes, IsBlock-inverse_shift_rows}
use Rattle.aes_block.proofs.Mixing.{mix_of_sum}
use Rattle.aes_block.proofs.inverse.InverseKeys.round_back.Goals as goal

pub returns : goal.returns
returns c b h =
    let n : ℕ = c.args.n in
    let x : List ℕ = inverse_sub_bytes (inverse_shift_rows b) in
    let is_x : IsBlock x = IsBlock-inverse_sub_bytes _ (IsBlock-inverse_shift_rows b h.block) in
    let k : List ℕ = round_key c.args.self.now n in
    let same : round_key c.self.inside.keys.now (n - 1 + 1) ≡ k =
    ap₂ (λ (key : List ℕ) (m : ℕ). round_key key m) c.self.view_is (let p : n - 1 + 1 ≡ n = omega arith in p) in
    let words : List ℕ = get_or c.self.inside.mixed (n - 1) [] in
    let mixed : IsMixedBack words k = subst (IsMixedBack words) same (c.self.invariant.each (n - 1) (omega arith)) in
    let sum = c.added.ensures _ _ (c.backward_round.ensures b h) mixed.mixed in
    subst (AreWordsOf c.added.result) (sym (mix_of_sum inverse_mix_polynomial x k is_x.count mixed.block.count)) sum
