-- A block is mixed column by column.
use Rattle.std.proofs.Common.{◌≡◌, ℕ, List, [], ◌∷◌, ◌++◌, length, get_or, refl, sym, ap, ◌∙◌}
use Rattle.aes_block.proofs.Lists.{four, sixteen}
use Rattle.aes_block.proofs.Mixing.{length-column_product}
use Rattle.aes_block.specs.Block.{column_product, mix}

-- a block is mixed by its columns, of which r0 to r3 are the products
pub mixed_block : (m s r0 r1 r2 r3 : List ℕ) → length s ≡ 16
    → r0 ≡ column_product m (get_or s 0 0 ∷ get_or s 1 0 ∷ get_or s 2 0 ∷ get_or s 3 0 ∷ [])
    → r1 ≡ column_product m (get_or s 4 0 ∷ get_or s 5 0 ∷ get_or s 6 0 ∷ get_or s 7 0 ∷ [])
    → r2 ≡ column_product m (get_or s 8 0 ∷ get_or s 9 0 ∷ get_or s 10 0 ∷ get_or s 11 0 ∷ [])
    → r3 ≡ column_product m (get_or s 12 0 ∷ get_or s 13 0 ∷ get_or s 14 0 ∷ get_or s 15 0 ∷ [])
    → get_or r0 0 0 ∷ get_or r0 1 0 ∷ get_or r0 2 0 ∷ get_or r0 3 0
    ∷ get_or r1 0 0 ∷ get_or r1 1 0 ∷ get_or r1 2 0 ∷ get_or r1 3 0
    ∷ get_or r2 0 0 ∷ get_or r2 1 0 ∷ get_or r2 2 0 ∷ get_or r2 3 0
    ∷ get_or r3 0 0 ∷ get_or r3 1 0 ∷ get_or r3 2 0 ∷ get_or r3 3 0 ∷ [] ≡ mix m s
unfolding mix
mixed_block m s r0 r1 r2 r3 h e0 e1 e2 e3 =
    let f0 = four r0 (ap length e0 ∙ length-column_product m _ refl) in
    let f1 = four r1 (ap length e1 ∙ length-column_product m _ refl) in
    let f2 = four r2 (ap length e2 ∙ length-column_product m _ refl) in
    let f3 = four r3 (ap length e3 ∙ length-column_product m _ refl) in
    let J : List ℕ → List ℕ → List ℕ → List ℕ → List ℕ = λ a b c d. a ++ (b ++ (c ++ (d ++ []))) in
    let join : (a b c d a' b' c' d' : List ℕ) → a ≡ a' → b ≡ b' → c ≡ c' → d ≡ d' → J a b c d ≡ J a' b' c' d' =
    λ a b c d a' b' c' d' p q r t. λ i. J (p i) (q i) (r i) (t i) in
    join _ _ _ _ _ _ _ _ (f0 ∙ e0) (f1 ∙ e1) (f2 ∙ e2) (f3 ∙ e3)
    ∙ ap (mix m) (sym (sixteen s h))
