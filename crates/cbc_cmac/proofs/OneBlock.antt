-- The CMAC of a message of one whole block.
use Rattle.std.proofs.Common.{◌≡◌, ℕ, zero, suc, ◌*◌, List, [], ◌∷◌, length, drop, replicate, refl, sym, ap, ap₂, ◌∙◌, arith}
use lib.Bits.{xor_zero_l}
use Rattle.aes_block.specs.Block.{add, encrypt}
use Rattle.aes_block.proofs.Lists.{length-add}
use Rattle.cbc_cmac.specs.Cbc.{first_blocks}
use Rattle.cbc_cmac.proofs.MacBlocks.{IsBlock-doubled}
use Rattle.cbc_cmac.proofs.Macs.{masked_whole}
use Rattle.cbc_cmac.specs.Mac.{chain, zeros, before_last, first_subkey, masked, cmac}

-- adding zeros changes nothing
add_zeros : (n : ℕ) (x : List ℕ) → length x ≡ n → add (replicate n 0) x ≡ x
add_zeros zero [] h = refl
add_zeros (suc n) (b ∷ x) h = ap₂ (λ (c : ℕ) (cs : List ℕ). c ∷ cs) (xor_zero_l b) (add_zeros n x (omega arith))
add_zeros _ _ h = absurd (omega arith)

none_before : (key block : List ℕ) (n : ℕ) → n ≡ 0 → chain key zeros (first_blocks n block) ≡ zeros
unfolding chain
none_before key block zero h = refl
none_before key block (suc n) h = absurd (omega arith)

pub cmac-block : (key block subkey : List ℕ) → length block ≡ 16 → subkey ≡ first_subkey key
    → encrypt key (add block subkey) ≡ cmac key block
unfolding cmac
cmac-block key block subkey h is =
    let none : before_last block ≡ 0 = omega (arith, h) in
    let at : 16 * before_last block ≡ 0 = omega (arith, none) in
    let last : masked key (drop (16 * before_last block) block) ≡ add block subkey =
    ap (λ (n : ℕ). masked key (drop n block)) at ∙ masked_whole key block h ∙ ap (add block) (sym is) in
    let k : length subkey ≡ 16 = ap length is ∙ (IsBlock-doubled (encrypt key zeros)).count in
    let long : length (add block subkey) ≡ 16 = omega (arith, length-add block subkey, h, k) in
    sym (ap₂ (λ (x y : List ℕ). encrypt key (add x y)) (none_before key block (before_last block) none) last
    ∙ ap (encrypt key) (add_zeros 16 (add block subkey) long))
