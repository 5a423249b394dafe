-- The fields of a header: what is read of each is spelled so, and what is spelled so is read.
use Rattle.std.proofs.Common.{◌≡◌, ℕ, zero, suc, ◌+◌, ◌^◌, ◌<◌, ◌≤◌, Bool, true, false, List, [], ◌∷◌, ◌++◌, length, get_or, take, drop, Option, Some, None, is_some, refl, sym, ap, arith}
use Rattle.std.specs.Prelude.{IfSome}
use Rattle.std.proofs.lemmas.List.FromFn.{fill_by_all}
use Rattle.std.specs.Int.{w16, w32, to_le_bytes}
use Rattle.std.proofs.lemmas.List.{take-append-drop, get_or-drop, length-take}
use Rattle.std.proofs.lemmas.Nat.{le_bytes_2, le_bytes_4, from_le_bytes-to_le_bytes_2, from_le_bytes-to_le_bytes_4}
use Rattle.afl_layer.specs.Fields.{where_so, field_bytes, one_byte}
use Rattle.afl_layer.specs.Header.{byte_in, two_in, four_in, all_in}

-- eight bytes, one by one
pub eight_cells : (xs : List ℕ) → length xs ≡ 8
    → Some (get_or xs 0 0 ∷ get_or xs 1 0 ∷ get_or xs 2 0 ∷ get_or xs 3 0 ∷ get_or xs 4 0 ∷ get_or xs 5 0 ∷ get_or xs 6 0 ∷ get_or xs 7 0
    ∷ []) ≡ all_in xs
eight_cells xs len = sym (ap all_in (fill_by_all (λ i. get_or xs i 0) xs 8 0 len (λ k lt. refl)))

abbrev pub IsBytes : List ℕ → Type 0
IsBytes bytes = (i : ℕ) → get_or bytes i 0 < 256

pub IsBytes-drop : (n : ℕ) (bytes : List ℕ) → IsBytes bytes → IsBytes (drop n bytes)
IsBytes-drop n bytes h i = rw get_or-drop (h (n + i))

IsBytes-front : (xs rest : List ℕ) → IsBytes (xs ++ rest) → IsBytes xs
IsBytes-front [] rest h i = omega arith
IsBytes-front (x ∷ xs) rest h zero = h 0
IsBytes-front (x ∷ xs) rest h (suc i) = IsBytes-front xs rest (λ k. h (suc k)) i

IsBytes-take : (n : ℕ) (bytes : List ℕ) → IsBytes bytes → IsBytes (take n bytes)
IsBytes-take n bytes h = IsBytes-front (take n bytes) (drop n bytes) (rw take-append-drop h)

-- a field's bytes spell its value, which is there where the field is named
pub record IsField {A : Type 0} (spell : A → List ℕ) (named : Bool) (text : List ℕ) (v : Option A) : Type 0 where
  pub text_is : field_bytes spell v ≡ text
  pub named_is : is_some v ≡ named

pub one_is : (named : Bool) (bytes : List ℕ) → where_so named 1 ≤ length bytes
    → IsField one_byte named (take (where_so named 1) bytes) (byte_in (take (where_so named 1) bytes))
one_is true [] enough = absurd (omega arith)
one_is true (b ∷ bytes) enough = record { text_is = refl; named_is = refl }
one_is false bytes enough = record { text_is = refl; named_is = refl }

pub two_is : (named : Bool) (bytes : List ℕ) → IsBytes bytes → where_so named 2 ≤ length bytes
    → IsField (to_le_bytes w16) named (take (where_so named 2) bytes) (two_in (take (where_so named 2) bytes))
    × IfSome (two_in (take (where_so named 2) bytes)) (λ n. n < 2 ^ 16)
two_is true (a ∷ b ∷ bytes) fits enough = (
  record { text_is = le_bytes_2 (a ∷ b ∷ []) _ refl (IsBytes-take 2 (a ∷ b ∷ bytes) fits) refl; named_is = refl },
  omega (arith, fits 0, fits 1),
)
two_is true bytes fits enough = absurd (omega arith)
two_is false bytes fits enough = (record { text_is = refl; named_is = refl }, tt)

pub four_is : (named : Bool) (bytes : List ℕ) → IsBytes bytes → where_so named 4 ≤ length bytes
    → IsField (to_le_bytes w32) named (take (where_so named 4) bytes) (four_in (take (where_so named 4) bytes))
    × IfSome (four_in (take (where_so named 4) bytes)) (λ n. n < 2 ^ 32)
four_is true (a ∷ b ∷ c ∷ d ∷ bytes) fits enough = (
  record { text_is = le_bytes_4 (a ∷ b ∷ c ∷ d ∷ []) _ refl (IsBytes-take 4 (a ∷ b ∷ c ∷ d ∷ bytes) fits) refl; named_is = refl },
  omega (arith, fits 0, fits 1, fits 2, fits 3),
)
four_is true bytes fits enough = absurd (omega arith)
four_is false bytes fits enough = (record { text_is = refl; named_is = refl }, tt)

abbrev pub itself : List ℕ → List ℕ
itself xs = xs

eight_of : (xs : List ℕ) → length xs ≡ 8 → IsField itself true xs (all_in xs) × IfSome (all_in xs) (λ mac. length mac ≡ 8)
eight_of [] len = absurd (omega arith)
eight_of (a ∷ xs) len = (record { text_is = refl; named_is = refl }, len)

pub eight_is : (named : Bool) (bytes : List ℕ) → where_so named 8 ≤ length bytes
    → IsField itself named (take (where_so named 8) bytes) (all_in (take (where_so named 8) bytes))
    × IfSome (all_in (take (where_so named 8) bytes)) (λ mac. length mac ≡ 8)
eight_is true bytes enough = eight_of (take 8 bytes) (omega (arith, length-take 8 bytes))
eight_is false bytes enough = (record { text_is = refl; named_is = refl }, tt)

-- ---- and back

pub length-one : (v : Option ℕ) → length (field_bytes one_byte v) ≡ where_so (is_some v) 1
length-one None = refl
length-one (Some b) = refl

pub length-two : (v : Option ℕ) → length (field_bytes (to_le_bytes w16) v) ≡ where_so (is_some v) 2
length-two None = refl
length-two (Some n) = refl

pub length-four : (v : Option ℕ) → length (field_bytes (to_le_bytes w32) v) ≡ where_so (is_some v) 4
length-four None = refl
length-four (Some n) = refl

pub length-eight : (v : Option (List ℕ)) → IfSome v (λ mac. length mac ≡ 8) → length (field_bytes itself v) ≡ where_so (is_some v) 8
length-eight None len = refl
length-eight (Some mac) len = len

pub one_again : (v : Option ℕ) → byte_in (field_bytes one_byte v) ≡ v
one_again None = refl
one_again (Some b) = refl

pub two_again : (v : Option ℕ) → IfSome v (λ n. n < 2 ^ 16) → two_in (field_bytes (to_le_bytes w16) v) ≡ v
two_again None fits = refl
two_again (Some n) fits = ap Some (from_le_bytes-to_le_bytes_2 n fits)

pub four_again : (v : Option ℕ) → IfSome v (λ n. n < 2 ^ 32) → four_in (field_bytes (to_le_bytes w32) v) ≡ v
four_again None fits = refl
four_again (Some n) fits = ap Some (from_le_bytes-to_le_bytes_4 n fits)

all_again : (mac : List ℕ) → length mac ≡ 8 → all_in mac ≡ Some mac
all_again [] len = absurd (omega arith)
all_again (a ∷ mac) len = refl

pub eight_again : (v : Option (List ℕ)) → IfSome v (λ mac. length mac ≡ 8) → all_in (field_bytes itself v) ≡ v
eight_again None len = refl
eight_again (Some mac) len = all_again mac len
