-- Pieces of text hold no newline.
use Rattle.std.proofs.Common.{◌≡◌, ℕ, zero, suc, ◌+◌, ◌/◌, ◌%◌, ◌<◌, ◌==◌, nat_lt, Bool, true, false, cond, ◌&&◌, not, List, [], ◌∷◌}
use Rattle.std.proofs.Common.{get_or, Option, Some, None, ap, refl, arith}
use Rattle.std.specs.Prelude.{codes}
use Rattle.std.specs.List.{list_all}
use Rattle.std.specs.Fmt.{decimal, digits, digits_onto, digit_glyph}
use Rattle.std.proofs.lemmas.Bool.{and_parts, and_from, cond_both, ltb-false, ne_eqb}
use Rattle.hex.specs.Hex.{encode_with, encode_lower, lower_digits}
use Rattle.meter_address.specs.declared.address.Address.{Address}
use Rattle.meter_address.specs.Letters.{letters_of, letters_of_number, manufacturer_of, is_letter}
use Rattle.record_text.specs.Values.{hex_text}
use Rattle.paper.specs.Pieces.{optional_text, labelled, labelled_two, labelled_if, labelled_bytes, text_if}
use Rattle.layer_text.specs.Letters.{letters_text}
use Rattle.report_text.proofs.LineWalks.{Passing, IsWithout, ◌⌢◌, literal, differs}

-- ---- numbers

digits_pass : {test : ℕ → Bool} → ((d : ℕ) → d < 10 → test (48 + d) ≡ true) → (k n : ℕ) (behind : List ℕ) → Passing test behind
    → Passing test (digits_onto k 10 false n behind)
digits_pass digit zero n behind h = h
digits_pass {test} digit (suc k) n behind h =
    let one : List ℕ = digit_glyph false (n % 10) ∷ behind in
    let glyph : test (digit_glyph false (n % 10)) ≡ true =
    cond_both (nat_lt (n % 10) 10) (48 + n % 10) (87 + n % 10) (λ b. test b ≡ true) (λ _. digit (n % 10) (omega arith))
    (λ past. absurd (omega (arith, ltb-false (n % 10) 10 past))) in
    let more : Passing test one = record { passed = and_from _ _ glyph h.passed } in
    cond_both (n / 10 == 0) one (digits_onto k 10 false (n / 10) one) (Passing test) (λ _. more)
    (λ _. digits_pass digit k (n / 10) one more)

-- a number, where all digits pass
pub decimal_passes : {test : ℕ → Bool} → ((d : ℕ) → d < 10 → test (48 + d) ≡ true) → (n : ℕ) → Passing test (decimal n)
unfolding digits
decimal_passes digit n = digits_pass digit 64 n [] (literal [] refl)

byte_differs : (s b : ℕ) → (b ≡ s → ⊥) → differs s b ≡ true
byte_differs s b h = ap not (ne_eqb b s h)

-- digits stand behind the newline and the space among the codes
pub number : {s : ℕ} (n : ℕ) → s < 48 → IsWithout s (decimal n)
number {s} n low = decimal_passes (λ d few. byte_differs s (48 + d) (omega arith)) n

-- ---- hexadecimal

-- both digits of a byte pass
abbrev pub DigitsPass : (ℕ → Bool) → ℕ → Type 0
DigitsPass test b = (test (get_or lower_digits (b / 16) 0) ≡ true) × (test (get_or lower_digits (b % 16) 0) ≡ true)

pub hex_passes : {test : ℕ → Bool} (bytes : List ℕ) → ((i : ℕ) → DigitsPass test (get_or bytes i 0)) → Passing test (encode_lower bytes)
unfolding encode_with
hex_passes [] h = literal [] refl
hex_passes (b ∷ bytes) h =
    record { passed = and_from _ _ (h 0).0 (and_from _ _ (h 0).1 (hex_passes bytes (λ i. h (suc i))).passed) }

-- a byte of a table, or zero, which stands for those past its end
found_differs : (s : ℕ) (table : List ℕ) (i : ℕ) → list_all (differs s) table ≡ true → differs s 0 ≡ true
    → differs s (get_or table i 0) ≡ true
found_differs s [] i h k = k
found_differs s (x ∷ xs) zero h k = (and_parts _ _ h).0
found_differs s (x ∷ xs) (suc i) h k = found_differs s xs i (and_parts _ _ h).1 k

pub hex : (bytes : List ℕ) → IsWithout 10 (encode_lower bytes)
hex bytes = hex_passes bytes (λ i. (found_differs 10 lower_digits _ refl refl, found_differs 10 lower_digits _ refl refl))

pub hex_or_dash : (bytes : List ℕ) → IsWithout 10 (hex_text bytes)
hex_or_dash [] = literal (codes "-") refl
hex_or_dash (b ∷ bytes) = hex (b ∷ bytes)

-- ---- the letters of a manufacturer

three : (x y z : ℕ) → IsWithout 10 ((x + 64) ∷ (y + 64) ∷ (z + 64) ∷ [])
three x y z = record {
  passed =
      and_from _ _ (byte_differs 10 (x + 64) (omega arith))
      (and_from _ _ (byte_differs 10 (y + 64) (omega arith)) (and_from _ _ (byte_differs 10 (z + 64) (omega arith)) refl));
}

letters_or_dash : (b : Bool) (text : List ℕ) → IsWithout 10 text → IsWithout 10 (letters_text (cond b (Some text) None))
letters_or_dash true text h = h
letters_or_dash false text h = literal (codes "-") refl

letters_of_m : (m : ℕ) → IsWithout 10 (letters_text (letters_of_number m))
letters_of_m m = letters_or_dash (is_letter (m / 1024) && is_letter (m / 32 % 32) && is_letter (m % 32)) _
    (three (m / 1024) (m / 32 % 32) (m % 32))

pub letters : (a : Address) → IsWithout 10 (letters_text (letters_of a))
unfolding letters_of
letters a = letters_of_m (manufacturer_of a)

-- ---- words and their numbers

pub number_or_dash : (o : Option ℕ) → IsWithout 10 (optional_text o)
number_or_dash None = literal (codes "-") refl
number_or_dash (Some n) = number n (omega arith)

pub worded_number : {word : List ℕ} → IsWithout 10 word → (n : ℕ) → IsWithout 10 (labelled word n)
unfolding labelled
worded_number h n = h ⌢ number n (omega arith)

pub worded_two : {word : List ℕ} → IsWithout 10 word → (n m : ℕ) → IsWithout 10 (labelled_two word n m)
unfolding labelled_two
worded_two h n m = h ⌢ number n (omega arith) ⌢ literal (codes " ") refl ⌢ number m (omega arith)

pub worded_if : {word : List ℕ} → IsWithout 10 word → (o : Option ℕ) → IsWithout 10 (labelled_if word o)
worded_if h None = literal [] refl
worded_if h (Some n) = worded_number h n

pub worded_bytes : {word : List ℕ} → IsWithout 10 word → (bytes : List ℕ) → IsWithout 10 (labelled_bytes word bytes)
unfolding labelled_bytes
worded_bytes h bytes = h ⌢ hex bytes

pub piece_if : {A : Type 0} (text : A → List ℕ) → ((a : A) → IsWithout 10 (text a)) → (o : Option A) → IsWithout 10 (text_if text o)
piece_if text h None = literal [] refl
piece_if text h (Some a) = h a

-- that a text of such pieces holds no newline
pub ruleset pieces = (◌⌢◌, literal, hex_or_dash, number_or_dash, worded_number, worded_two, worded_if, worded_bytes)
