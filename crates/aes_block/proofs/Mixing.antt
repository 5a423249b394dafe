-- The inverse mixing undoes the mixing, and the mixing the inverse.
use Rattle.std.proofs.Common.{◌≡◌, ℕ, suc, ◌*◌, ◌<◌, ◌&&◌, ◌++◌, Bool, true, List, [], ◌∷◌, length, map, refl, sym, ap, ap₂, ◌∙◌, bit_xor, arith}
use Rattle.std.proofs.lemmas.Bool.{and_parts}
use Rattle.std.proofs.lemmas.List.{length-append}
use Rattle.std.proofs.lemmas.List.Elements.{All-nil, All-cons, All-head, All-tail, All-append}
use lib.Bits.{xor_zero_r}
use Rattle.aes_block.proofs.Bytes.{holds_below, at_each_below}
use Rattle.aes_block.proofs.Sums.{product_of_sum}
use Rattle.aes_block.proofs.Elements.{product-lt}
use Rattle.aes_block.proofs.Lists.{AreBytes, add_swap, length-add, AreBytes-add, at_four, sixteen, same_list, same_list-true}
use Rattle.aes_block.specs.Field.{polynomial_product, remainder, product}
use Rattle.aes_block.specs.Block.{add, column, column_product, mix, mix_polynomial, inverse_mix_polynomial}

length-column_product_4 : (m : List ℕ) (a b c d : ℕ) → length (column_product m (a ∷ b ∷ c ∷ d ∷ [])) ≡ 4
unfolding column_product
length-column_product_4 [] a b c d = refl
length-column_product_4 (k ∷ m) a b c d =
    omega (
      arith,
      length-add (map (product k) (a ∷ b ∷ c ∷ d ∷ [])) (column_product m (d ∷ a ∷ b ∷ c ∷ [])),
      length-column_product_4 m d a b c,
    )

pub length-column_product : (m x : List ℕ) → length x ≡ 4 → length (column_product m x) ≡ 4
length-column_product m = at_four (λ x. length (column_product m x) ≡ 4) (length-column_product_4 m)

-- a product distributes over a sum
sum_of_fours : (m : List ℕ) (a b c d a' b' c' d' : ℕ) →
    column_product m (bit_xor a a' ∷ bit_xor b b' ∷ bit_xor c c' ∷ bit_xor d d' ∷ [])
    ≡ add (column_product m (a ∷ b ∷ c ∷ d ∷ [])) (column_product m (a' ∷ b' ∷ c' ∷ d' ∷ []))
unfolding column_product
sum_of_fours [] a b c d a' b' c' d' = refl
sum_of_fours (k ∷ m) a b c d a' b' c' d' =
    let here : map (product k) (bit_xor a a' ∷ bit_xor b b' ∷ bit_xor c c' ∷ bit_xor d d' ∷ [])
    ≡ add (map (product k) (a ∷ b ∷ c ∷ d ∷ [])) (map (product k) (a' ∷ b' ∷ c' ∷ d' ∷ [])) =
    rw (product_of_sum k a a', product_of_sum k b b', product_of_sum k c c', product_of_sum k d d') refl in
    ap₂ add here (sum_of_fours m d a b c d' a' b' c')
    ∙ (add_swap (map (product k) (a ∷ b ∷ c ∷ d ∷ [])) (map (product k) (a' ∷ b' ∷ c' ∷ d' ∷ []))
    (column_product m (d ∷ a ∷ b ∷ c ∷ [])) (column_product m (d' ∷ a' ∷ b' ∷ c' ∷ [])))

pub column_product_of_sum : (m x y : List ℕ) → length x ≡ 4 → length y ≡ 4 →
    column_product m (add x y) ≡ add (column_product m x) (column_product m y)
column_product_of_sum m x y hx hy =
    at_four (λ x. column_product m (add x y) ≡ add (column_product m x) (column_product m y))
    (λ a b c d. at_four (λ y. column_product m (add (a ∷ b ∷ c ∷ d ∷ []) y) ≡ add (column_product m (a ∷ b ∷ c ∷ d ∷ []))
    (column_product m y))
    (sum_of_fours m a b c d) y hy)
    x hx

-- n times m times a column of one byte is the column
abbrev undoes_at : List ℕ → List ℕ → List ℕ → Bool
undoes_at n m x = same_list (column_product n (column_product m x)) x

abbrev undoes : List ℕ → List ℕ → ℕ → Bool
undoes n m x =
    undoes_at n m (x ∷ 0 ∷ 0 ∷ 0 ∷ []) && (undoes_at n m (0 ∷ x ∷ 0 ∷ 0 ∷ [])
    && (undoes_at n m (0 ∷ 0 ∷ x ∷ 0 ∷ []) && undoes_at n m (0 ∷ 0 ∷ 0 ∷ x ∷ [])))

-- m undoes n on a column, by what it does on columns of one byte
module _ (n m : List ℕ) (each : holds_below 256 (undoes n m) ≡ true) where
  at_one : (x : ℕ) → x < 256 →
      (column_product n (column_product m (x ∷ 0 ∷ 0 ∷ 0 ∷ [])) ≡ x ∷ 0 ∷ 0 ∷ 0 ∷ [])
      × (column_product n (column_product m (0 ∷ x ∷ 0 ∷ 0 ∷ [])) ≡ 0 ∷ x ∷ 0 ∷ 0 ∷ [])
      × (column_product n (column_product m (0 ∷ 0 ∷ x ∷ 0 ∷ [])) ≡ 0 ∷ 0 ∷ x ∷ 0 ∷ [])
      × (column_product n (column_product m (0 ∷ 0 ∷ 0 ∷ x ∷ [])) ≡ 0 ∷ 0 ∷ 0 ∷ x ∷ [])
  at_one x h =
      let all = at_each_below 256 (undoes n m) each x h in
      let p = and_parts _ _ all in
      let q = and_parts _ _ p.1 in
      let r = and_parts _ _ q.1 in
      (same_list-true _ _ p.0, same_list-true _ _ q.0, same_list-true _ _ r.0, same_list-true _ _ r.1)

  undone_four : (a b c d : ℕ) → a < 256 → b < 256 → c < 256 → d < 256 →
      column_product n (column_product m (a ∷ b ∷ c ∷ d ∷ [])) ≡ a ∷ b ∷ c ∷ d ∷ []
  undone_four a b c d ha hb hc hd =
      let A : List ℕ = a ∷ 0 ∷ 0 ∷ 0 ∷ [] in
      let B : List ℕ = 0 ∷ b ∷ 0 ∷ 0 ∷ [] in
      let C : List ℕ = 0 ∷ 0 ∷ c ∷ 0 ∷ [] in
      let D : List ℕ = 0 ∷ 0 ∷ 0 ∷ d ∷ [] in
      let F : List ℕ → List ℕ = λ x. column_product n (column_product m x) in
      let L : (x : List ℕ) → length x ≡ 4 → length (column_product m x) ≡ 4 = length-column_product m in
      let split : add (add A B) (add C D) ≡ a ∷ b ∷ c ∷ d ∷ [] = rw (xor_zero_r a, xor_zero_r a, xor_zero_r b, xor_zero_r c) refl in
      let step : (x y : List ℕ) → length x ≡ 4 → length y ≡ 4 → F (add x y) ≡ add (F x) (F y) =
      λ x y hx hy. ap (column_product n) (column_product_of_sum m x y hx hy) ∙ column_product_of_sum n _ _ (L x hx) (L y hy) in
      ap F (sym split)
      ∙ step (add A B) (add C D) refl refl
      ∙ ap₂ add (step A B refl refl) (step C D refl refl)
      ∙ rw ((at_one a ha).0, (at_one b hb).1, (at_one c hc).2, (at_one d hd).3) split

-- ---- the two polynomials of the cipher
inverse_mix_polynomial_undoes : holds_below 256 (undoes inverse_mix_polynomial mix_polynomial) ≡ true
unfolding same_list column_product product polynomial_product remainder
inverse_mix_polynomial_undoes = refl

mix_polynomial_undoes : holds_below 256 (undoes mix_polynomial inverse_mix_polynomial) ≡ true
unfolding same_list column_product product polynomial_product remainder
mix_polynomial_undoes = refl

-- ---- whole blocks

pub AreBytes-map : (f : ℕ → ℕ) → ((x : ℕ) → x < 256 → f x < 256) → (xs : List ℕ) → AreBytes xs → AreBytes (map f xs)
AreBytes-map f low [] h = All-nil (λ x. x < 256)
AreBytes-map f low (x ∷ xs) h =
    let P : ℕ → Type 0 = λ x. x < 256 in
    All-cons P (f x) (map f xs) (low x (All-head P x xs h)) (AreBytes-map f low xs (All-tail P x xs h))

pub AreBytes-4 : (a b c d : ℕ) → a < 256 → b < 256 → c < 256 → d < 256 → AreBytes (a ∷ b ∷ c ∷ d ∷ [])
AreBytes-4 a b c d ha hb hc hd =
    let P : ℕ → Type 0 = λ x. x < 256 in
    All-cons P a (b ∷ c ∷ d ∷ []) ha (All-cons P b (c ∷ d ∷ []) hb (All-cons P c (d ∷ []) hc (All-cons P d [] hd (All-nil P))))

pub AreBytes-mix_polynomial : AreBytes mix_polynomial
AreBytes-mix_polynomial = AreBytes-4 2 1 1 3 (omega arith) (omega arith) (omega arith) (omega arith)

pub AreBytes-inverse_mix_polynomial : AreBytes inverse_mix_polynomial
AreBytes-inverse_mix_polynomial = AreBytes-4 14 9 13 11 (omega arith) (omega arith) (omega arith) (omega arith)

pub AreBytes-column_product : (m : List ℕ) (a b c d : ℕ) → AreBytes m → a < 256 → b < 256 → c < 256 → d < 256
    → AreBytes (column_product m (a ∷ b ∷ c ∷ d ∷ []))
unfolding column_product
AreBytes-column_product [] a b c d hm ha hb hc hd = AreBytes-4 0 0 0 0 (omega arith) (omega arith) (omega arith) (omega arith)
AreBytes-column_product (k ∷ m) a b c d hm ha hb hc hd =
    let Q : ℕ → Type 0 = λ x. x < 256 in
    AreBytes-add (map (product k) (a ∷ b ∷ c ∷ d ∷ [])) (column_product m (d ∷ a ∷ b ∷ c ∷ []))
    (AreBytes-map (product k) (λ x. product-lt k x (All-head Q k m hm)) (a ∷ b ∷ c ∷ d ∷ []) (AreBytes-4 a b c d ha hb hc hd))
    (AreBytes-column_product m d a b c (All-tail Q k m hm) hd ha hb hc)

mix_append : (m x y : List ℕ) → length x ≡ 4 → mix m (x ++ y) ≡ column_product m x ++ mix m y
unfolding mix
mix_append m x y = at_four (λ x. mix m (x ++ y) ≡ column_product m x ++ mix m y) (λ a b c d. refl) x

add_fours : (x y s t : List ℕ) → length x ≡ 4 → length y ≡ 4 → add (x ++ s) (y ++ t) ≡ add x y ++ add s t
add_fours x y s t hx hy =
    at_four (λ x. add (x ++ s) (y ++ t) ≡ add x y ++ add s t)
    (λ a b c d. at_four (λ y. add ((a ∷ b ∷ c ∷ d ∷ []) ++ s) (y ++ t) ≡ add (a ∷ b ∷ c ∷ d ∷ []) y ++ add s t) (λ e f g h. refl) y hy)
    x hx

-- one more column of a sum
mix_one_more : (m x y s t : List ℕ) → length x ≡ 4 → length y ≡ 4 → mix m (add s t) ≡ add (mix m s) (mix m t)
    → mix m (add (x ++ s) (y ++ t)) ≡ add (mix m (x ++ s)) (mix m (y ++ t))
mix_one_more m x y s t hx hy rest =
    ap (mix m) (add_fours x y s t hx hy)
    ∙ mix_append m (add x y) (add s t) (omega (arith, length-add x y, hx, hy))
    ∙ ap₂ (λ (p q : List ℕ). p ++ q) (column_product_of_sum m x y hx hy) rest
    ∙ sym (add_fours (column_product m x) (column_product m y) (mix m s) (mix m t) (length-column_product m x hx)
    (length-column_product m y hy))
    ∙ sym (ap₂ add (mix_append m x s hx) (mix_append m y t hy))

no_column : (m : List ℕ) → mix m (add [] []) ≡ add (mix m []) (mix m [])
unfolding mix
no_column m = refl

-- mixing distributes over a sum of blocks
pub mix_of_sum : (m x y : List ℕ) → length x ≡ 16 → length y ≡ 16 → mix m (add x y) ≡ add (mix m x) (mix m y)
mix_of_sum m x y hx hy =
    let c : List ℕ → ℕ → List ℕ = column in
    ap₂ (λ (p q : List ℕ). mix m (add p q)) (sixteen x hx) (sixteen y hy)
    ∙ mix_one_more m (c x 0) (c y 0) (c x 1 ++ (c x 2 ++ (c x 3 ++ []))) (c y 1 ++ (c y 2 ++ (c y 3 ++ []))) refl refl
    (mix_one_more m (c x 1) (c y 1) (c x 2 ++ (c x 3 ++ [])) (c y 2 ++ (c y 3 ++ [])) refl refl
    (mix_one_more m (c x 2) (c y 2) (c x 3 ++ []) (c y 3 ++ []) refl refl
    (mix_one_more m (c x 3) (c y 3) [] [] refl refl (no_column m))))
    ∙ sym (ap₂ (λ (p q : List ℕ). add (mix m p) (mix m q)) (sixteen x hx) (sixteen y hy))

-- what holds of no column, and of one more, holds of q columns
pub by_columns : (P : List ℕ → Type 0) → P [] → ((a b c d : ℕ) (s : List ℕ) → P s → P (a ∷ b ∷ c ∷ d ∷ s)) → (q : ℕ) (s : List ℕ)
    → length s ≡ 4 * q → P s
by_columns P none more q [] h = none
by_columns P none more (suc q) (a ∷ b ∷ c ∷ d ∷ s) h = more a b c d s (by_columns P none more q s (omega arith))
by_columns P none more q s h = absurd (omega arith)

-- the same of columns of bytes
by_byte_columns : (P : List ℕ → Type 0) → P []
    → ((a b c d : ℕ) (s : List ℕ) → a < 256 → b < 256 → c < 256 → d < 256 → P s → P (a ∷ b ∷ c ∷ d ∷ s)) → (q : ℕ) (s : List ℕ)
    → length s ≡ 4 * q → AreBytes s → P s
by_byte_columns P none more =
    let Q : ℕ → Type 0 = λ x. x < 256 in
    by_columns (λ s. AreBytes s → P s) (λ hs. none) (λ a b c d s rest hs.
    let h1 = All-tail Q a (b ∷ c ∷ d ∷ s) hs in
    let h2 = All-tail Q b (c ∷ d ∷ s) h1 in
    let h3 = All-tail Q c (d ∷ s) h2 in
    more a b c d s (All-head Q a (b ∷ c ∷ d ∷ s) hs) (All-head Q b (c ∷ d ∷ s) h1) (All-head Q c (d ∷ s) h2) (All-head Q d s h3)
    (rest (All-tail Q d s h3)))

-- a list of q columns is a list of bytes, and m undoes n on each
module _ (m : List ℕ) where
  same_length : (q : ℕ) (s : List ℕ) → length s ≡ 4 * q → length (mix m s) ≡ length s
  unfolding mix
  same_length =
      by_columns (λ s. length (mix m s) ≡ length s) refl
      (λ a b c d s rest.
      omega (arith, length-append (column_product m (a ∷ b ∷ c ∷ d ∷ [])) (mix m s), length-column_product_4 m a b c d, rest))

  pub length-mix : (q : ℕ) (s : List ℕ) → length s ≡ 4 * q → length (mix m s) ≡ 4 * q
  length-mix q s h = same_length q s h ∙ h

  pub AreBytes-mix : (q : ℕ) (s : List ℕ) → length s ≡ 4 * q → AreBytes m → AreBytes s → AreBytes (mix m s)
  unfolding mix
  AreBytes-mix q s h hm =
      by_byte_columns (λ s. AreBytes (mix m s)) (All-nil (λ x. x < 256))
      (λ a b c d s ha hb hc hd rest.
      All-append (λ x. x < 256) (column_product m (a ∷ b ∷ c ∷ d ∷ [])) (mix m s) (AreBytes-column_product m a b c d hm ha hb hc hd) rest)
      q s h

mix_undone : (n m : List ℕ) → holds_below 256 (undoes n m) ≡ true → (q : ℕ) (s : List ℕ) → length s ≡ 4 * q → AreBytes s
    → mix n (mix m s) ≡ s
unfolding mix
mix_undone n m each =
    by_byte_columns (λ s. mix n (mix m s) ≡ s) refl (λ a b c d s ha hb hc hd rest.
    mix_append n (column_product m (a ∷ b ∷ c ∷ d ∷ [])) (mix m s) (length-column_product_4 m a b c d)
    ∙ ap₂ (λ (x y : List ℕ). x ++ y) (undone_four n m each a b c d ha hb hc hd) rest)

pub inverse_mix-mix : (q : ℕ) (s : List ℕ) → length s ≡ 4 * q → AreBytes s → mix inverse_mix_polynomial (mix mix_polynomial s) ≡ s
inverse_mix-mix = mix_undone inverse_mix_polynomial mix_polynomial inverse_mix_polynomial_undoes

pub mix-inverse_mix : (q : ℕ) (s : List ℕ) → length s ≡ 4 * q → AreBytes s → mix mix_polynomial (mix inverse_mix_polynomial s) ≡ s
mix-inverse_mix = mix_undone mix_polynomial inverse_mix_polynomial mix_polynomial_undoes
