-- Bytes in hexadecimal, a few at a time.
use Rattle.std.proofs.Common.{◌≡◌, refl, sym, ◌∙◌, ap, take, drop}
use Rattle.std.specs.Prelude.{ℕ, List, [], ◌∷◌, ◌++◌, slice_index, ◌/◌, ◌%◌}
use Rattle.std.proofs.lemmas.List.{take-append-drop}
use Rattle.hex.specs.Hex.{encode_with, encode_lower, lower_digits}
use Rattle.paper.specs.Puts.{Puts}
use Rattle.paper.proofs.Calls.{then}

encoded_behind : (t xs ys : List ℕ) → encode_with t (xs ++ ys) ≡ encode_with t xs ++ encode_with t ys
unfolding encode_with
encoded_behind t [] ys = refl
encoded_behind t (x ∷ xs) ys = ap (λ e. slice_index t (x / 16) ∷ slice_index t (x % 16) ∷ e) (encoded_behind t xs ys)

-- the text of the first bytes, and then that of the others
pub encoded_parts : (few later bytes : List ℕ) → few ++ later ≡ bytes → encode_lower few ++ encode_lower later ≡ encode_lower bytes
encoded_parts few later bytes e = sym (encoded_behind lower_digits few later) ∙ ap (λ t. encode_lower t) e

-- the bytes before a place, and those from it on
pub cut_at : (n : ℕ) (few later bytes : List ℕ) → few ≡ take n bytes → later ≡ drop n bytes → few ++ later ≡ bytes
cut_at n few later bytes front back = rw front (rw back (take-append-drop n bytes))

-- a few bytes put, and then the others
pub parts_put : {P : Type 0} {takes : P → List ℕ → P → Type 0} {p q r : P} (few later bytes : List ℕ) → few ++ later ≡ bytes
    → Puts takes p (encode_lower few) q → Puts takes q (encode_lower later) r → Puts takes p (encode_lower bytes) r
parts_put few later bytes e one two = rw (sym (encoded_parts few later bytes e)) (then one two)
