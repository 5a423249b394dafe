-- Texts of plain bytes: ASCII from the space on, but for the quote and the backslash, so that JSON escapes none of them.
use Rattle.std.proofs.Common.{◌≡◌, ℕ, ℤ, pos, negsuc, zero, suc, ◌-◌, ◌/◌, ◌%◌, ◌<◌, ◌==◌, nat_lt, Bool, true, false, cond, ◌&&◌, not}
use Rattle.std.proofs.Common.{List, [], ◌∷◌, ◌++◌, length, take, drop, get_or, Option, Some, None, option_map, IfSome, refl, sym, ap, ◌∙◌, subst, arith}
use Rattle.std.proofs.Common.{ap₂, ◌+◌, reverse, replicate}
use Rattle.std.specs.Prelude.{nat_le, codes}
use Rattle.std.specs.Fmt.{decimal, digits, digits_onto, digit_glyph}
use Rattle.std.specs.List.{list_all, flat_map}
use Rattle.std.proofs.lemmas.Bool.{and_parts, and_from, cond_both, ltb-false, eqb-true}
use Rattle.std.proofs.lemmas.Bool.Decides.{nat_tests}
use Rattle.std.proofs.lemmas.List.{reverse-append}
use Rattle.std.proofs.lemmas.List.Concat.{flat_map-append}
use Rattle.std.proofs.lemmas.List.Folds.{list_all-append}
use Rattle.std.proofs.lemmas.List.Sums.{AllPass-from_list_all}
use Rattle.hex.specs.Hex.{encode_with, encode_lower, lower_digits}
use Rattle.json.specs.Print.{escape}
use Rattle.json.proofs.Printed.Strings.{escape_byte_plain}

abbrev pub is_plain : ℕ → Bool
is_plain b = nat_le 32 b && (nat_lt b 128 && (not (b == 34) && not (b == 92)))

pub record IsPlain (text : List ℕ) : Type 0 where
  pub passed : list_all is_plain text ≡ true

infixl 40 ◌⌢◌
pub ◌⌢◌ : {a b : List ℕ} → IsPlain a → IsPlain b → IsPlain (a ++ b)
◌⌢◌ {a} {b} x y = record { passed = list_all-append is_plain a b ∙ and_from _ _ x.passed y.passed }

-- a text whose bytes are known
pub literal : (text : List ℕ) → list_all is_plain text ≡ true → IsPlain text
literal text h = record { passed = h }

unescaped : (text : List ℕ) → list_all is_plain text ≡ true → escape text ≡ text
unescaped [] h = refl
unescaped (b ∷ text) h =
    let parts = and_parts _ _ h in
    let plain : is_plain b ≡ true = parts.0 in
    ap₂ (λ (x y : List ℕ). x ++ y)
    (escape_byte_plain b (λ e. grind (arith, nat_tests)) (λ e. grind (arith, nat_tests)) (grind (arith, nat_tests)))
    (unescaped text parts.1)

-- JSON has a plain text as it is
pub as_it_is : {text : List ℕ} → IsPlain text → escape text ≡ text
as_it_is {text} h = unescaped text h.passed

pub choice_plain : {a b : List ℕ} (holds : Bool) → IsPlain a → IsPlain b → IsPlain (cond holds a b)
choice_plain true x y = x
choice_plain false x y = y

-- ---- parts of a plain text

taken : (n : ℕ) (text : List ℕ) → list_all is_plain text ≡ true → list_all is_plain (take n text) ≡ true
taken zero text h = refl
taken (suc n) [] h = refl
taken (suc n) (b ∷ text) h = let parts = and_parts _ _ h in and_from _ _ parts.0 (taken n text parts.1)

pub take_plain : (n : ℕ) {text : List ℕ} → IsPlain text → IsPlain (take n text)
take_plain n {text} h = record { passed = taken n text h.passed }

dropped : (n : ℕ) (text : List ℕ) → list_all is_plain text ≡ true → list_all is_plain (drop n text) ≡ true
dropped zero text h = h
dropped (suc n) [] h = refl
dropped (suc n) (b ∷ text) h = dropped n text (and_parts _ _ h).1

pub drop_plain : (n : ℕ) {text : List ℕ} → IsPlain text → IsPlain (drop n text)
drop_plain n {text} h = record { passed = dropped n text h.passed }

pub zeros_plain : (n : ℕ) → IsPlain (replicate n 48)
zeros_plain zero = literal [] refl
zeros_plain (suc n) = record { passed = (zeros_plain n).passed }

-- ---- numbers

digit_passes : (d : ℕ) → d < 10 → is_plain (48 + d) ≡ true
digit_passes d few = grind (arith, nat_tests)

digits_pass : (k n : ℕ) (behind : List ℕ) → IsPlain behind → IsPlain (digits_onto k 10 false n behind)
digits_pass zero n behind h = h
digits_pass (suc k) n behind h =
    let one : List ℕ = digit_glyph false (n % 10) ∷ behind in
    let glyph : is_plain (digit_glyph false (n % 10)) ≡ true =
    cond_both (nat_lt (n % 10) 10) (48 + n % 10) (87 + n % 10) (λ b. is_plain b ≡ true) (λ _. digit_passes (n % 10) (omega arith))
    (λ past. absurd (omega (arith, ltb-false (n % 10) 10 past))) in
    let more : IsPlain one = record { passed = and_from _ _ glyph h.passed } in
    cond_both (n / 10 == 0) one (digits_onto k 10 false (n / 10) one) IsPlain (λ _. more)
    (λ _. digits_pass k (n / 10) one more)

pub number_plain : (n : ℕ) → IsPlain (decimal n)
unfolding digits
number_plain n = digits_pass 64 n [] (literal [] refl)

-- ---- bytes in hexadecimal

-- each is a byte
pub record AreBytes (bytes : List ℕ) : Type 0 where
  pub each : (i : ℕ) → get_or bytes i 0 < 256

pub one_byte : (b : ℕ) → b < 256 → AreBytes (b ∷ [])
one_byte b small = record { each = at b small }
  where
    at : (b : ℕ) → b < 256 → (i : ℕ) → get_or (b ∷ []) i 0 < 256
    at b small zero = small
    at b small (suc i) = omega arith

take_bytes : (n : ℕ) (bytes : List ℕ) → ((i : ℕ) → get_or bytes i 0 < 256) → (i : ℕ) → get_or (take n bytes) i 0 < 256
take_bytes zero bytes h i = omega arith
take_bytes (suc n) [] h i = omega arith
take_bytes (suc n) (b ∷ bytes) h zero = h 0
take_bytes (suc n) (b ∷ bytes) h (suc i) = take_bytes n bytes (λ i. h (suc i)) i

drop_bytes : (n : ℕ) (bytes : List ℕ) → ((i : ℕ) → get_or bytes i 0 < 256) → (i : ℕ) → get_or (drop n bytes) i 0 < 256
drop_bytes zero bytes h i = h i
drop_bytes (suc n) [] h i = omega arith
drop_bytes (suc n) (b ∷ bytes) h i = drop_bytes n bytes (λ i. h (suc i)) i

pub part_bytes : (bytes : List ℕ) (place count : ℕ) → AreBytes bytes → AreBytes (take count (drop place bytes))
part_bytes bytes place count h = record { each = take_bytes count (drop place bytes) (drop_bytes place bytes h.each) }

digit_plain : (d : ℕ) → d < 16 → is_plain (get_or lower_digits d 0) ≡ true
digit_plain d few = AllPass-from_list_all is_plain lower_digits refl d 0 few

hex_passes : (bytes : List ℕ) → ((i : ℕ) → get_or bytes i 0 < 256) → IsPlain (encode_lower bytes)
unfolding encode_with
hex_passes [] h = literal [] refl
hex_passes (b ∷ bytes) h =
    let byte = h 0 in
    record {
      passed = and_from _ _ (digit_plain (b / 16) (omega arith))
          (and_from _ _ (digit_plain (b % 16) (omega arith)) (hex_passes bytes (λ i. h (suc i))).passed);
    }

pub hex_plain : {bytes : List ℕ} → AreBytes bytes → IsPlain (encode_lower bytes)
hex_plain {bytes} h = hex_passes bytes h.each

-- ---- bytes that are put one after another, the last one first

turned_plain : (text : ℕ → List ℕ) → ((b : ℕ) → b < 256 → IsPlain (text b)) → (bytes : List ℕ)
    → ((i : ℕ) → get_or bytes i 0 < 256) → IsPlain (flat_map text (reverse bytes))
turned_plain text one [] h = literal [] refl
turned_plain text one (b ∷ bytes) h =
    let turned : reverse (b ∷ bytes) ≡ reverse bytes ++ b ∷ [] = reverse-append (b ∷ []) bytes in
    subst IsPlain (sym (ap (flat_map text) turned ∙ flat_map-append text (reverse bytes) (b ∷ [])))
    (turned_plain text one bytes (λ i. h (suc i)) ⌢ (one b (h 0) ⌢ literal [] refl))

pub reversed_plain : (text : ℕ → List ℕ) → ((b : ℕ) → b < 256 → IsPlain (text b)) → {bytes : List ℕ} → AreBytes bytes
    → IsPlain (flat_map text (reverse bytes))
reversed_plain text one {bytes} h = turned_plain text one bytes h.each
