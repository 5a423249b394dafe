use Rattle.std.proofs.Common.{◌≡◌, ◌+◌, ℕ, List, [], get_or, sym, subst, arith, below_more}
use Rattle.std.proofs.Math.ListN.{set, length-set}
use Rattle.std.proofs.lemmas.List.{get_or-set_same, get_or-set_other}
use Rattle.aes_block.specs.Block.{round_key}
use Rattle.aes_block.specs.Words.{IsMixedBack}
use Rattle.aes_block.proofs.inverse.InverseKeys.new.Goals as goal

pub loop-n-preserved : goal.loop-n-preserved
loop-n-preserved c =
    let key : List ℕ = c.args.keys.now in
    let n : ℕ = c.loop-n.n in
    let old : List (List ℕ) = c.loop-n.mixed in
    let words : List ℕ = c.inverse_mixed_words.result in
    let new : List (List ℕ) = set old n words in
    let here : IsMixedBack words (round_key key (n + 1)) =
    record { block = c.round_words.ensures.block; mixed = c.inverse_mixed_words.ensures _ c.round_words.ensures } in (
      omega (arith, length-set old n words, c.loop-n.invariant.0),
      below_more (λ m. IsMixedBack (get_or new m []) (round_key key (m + 1))) n
          (λ m h. let same : get_or new m [] ≡ get_or old m [] = get_or-set_other old n m words [] (λ e. absurd (omega arith)) in
          subst (λ (w : List ℕ). IsMixedBack w (round_key key (m + 1))) (sym same) (c.loop-n.invariant.1 m h))
          (let same : get_or new n [] ≡ words = get_or-set_same old n words [] (omega arith) in
          subst (λ (w : List ℕ). IsMixedBack w (round_key key (n + 1))) (sym same) here),
    )
