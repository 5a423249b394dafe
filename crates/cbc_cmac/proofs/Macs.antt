-- The last block of a message, and what a CMAC is.
use Rattle.std.proofs.Common.{◌≡◌, ℕ, suc, ◌-◌, ◌<◌, List, ◌∷◌, ◌++◌, length, drop, replicate, refl, ap, ◌∙◌, arith}
use Rattle.std.proofs.Math.ListN.{set}
use Rattle.std.proofs.lemmas.List.{drop-replicate, set_at}
use Rattle.std.proofs.lemmas.Bool.{cond-true, cond-false, eq-eqb, ne_eqb}
use Rattle.aes_block.specs.Block.{add}
use Rattle.cbc_cmac.specs.Mac.{zeros, first_subkey, second_subkey, padded, masked}

pub masked_whole : (key b : List ℕ) → length b ≡ 16 → masked key b ≡ add b (first_subkey key)
unfolding masked
masked_whole key b h = cond-true _ _ _ (eq-eqb (length b) 16 h)

pub masked_short : (key b : List ℕ) → length b < 16 → masked key b ≡ add (padded b) (second_subkey key)
unfolding masked
masked_short key b h = cond-false _ _ _ (ne_eqb (length b) 16 (λ e. omega arith))

-- the code's way to pad
pub padded_is : (b : List ℕ) → length b < 16 → set (b ++ drop (length b) zeros) (length b) 0x80 ≡ padded b
padded_is b room =
    let used : ℕ = length b in
    let up : 16 - used ≡ suc (15 - used) = omega arith in
    let tail : drop used zeros ≡ 0 ∷ replicate (15 - used) 0 = drop-replicate used 16 0 ∙ ap (λ k. replicate k 0) up in
    ap (λ (x : List ℕ). set (b ++ x) used 0x80) tail ∙ set_at b 0 (replicate (15 - used) 0) 0x80 used refl
