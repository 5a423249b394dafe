-- Addresses and their texts.
use Rattle.std.proofs.Common.{◌≡◌, ℕ, zero, suc, ◌+◌, ◌*◌, ◌/◌, ◌%◌, ◌^◌, ◌<◌, ◌==◌, Bool, true, List, [], ◌∷◌, length, get_or, take, map, Option, Some, None, Result, Ok, Err, MatchResult, refl, sym, ap, subst, ◌∙◌, arith, inl, inr}
use Rattle.std.specs.Char.{to_ascii_lowercase}
use Rattle.std.specs.Str.{str_to_ascii_lowercase}
use Rattle.std.proofs.lemmas.Bool.Decides.{nat_tests}
use Rattle.std.specs.Int.{w64, from_be_bytes}
use Rattle.std.proofs.lemmas.Bool.{agree_below_at, cond-true, eq-eqb, eqb-true, false≢true}
use Rattle.std.proofs.lemmas.List.{get_or-take, length-take}
use Rattle.std.proofs.lemmas.List.Elements.{All-get_or}
use Rattle.std.proofs.lemmas.Nat.{be_bytes_8, from_be_bytes-to_be_bytes_8}
use Rattle.hex.specs.Hex.{decode_of, decode_sized, decode_pairs, pair_value, value_at, digit_or_error, ◌>>=◌, encode_with, is_hex_digit, hex_digit_value, lower_digits, IsBytes}
use Rattle.hex.specs.declared.error.FromHexError.{FromHexError}
use Rattle.hex.specs.declared.error.FromHexError.TheVariants.{InvalidHexCharacter}
use Rattle.hex.proofs.HexLemmas.{decode_of-ok, decode_of-err, decode_of-same, decode_sized-twice, decode_of-encode_lower, decode_of-even}
use Rattle.meter_address.specs.declared.address.Address.{Address}
use Rattle.meter_address.specs.declared.address.AddressFault.{AddressFault}
use Rattle.meter_address.specs.declared.address.AddressFault.TheVariants as faults
use Rattle.meter_address.proofs.Keys.{where_some}
use Rattle.meter_address.specs.Address.{bytes_of, text_of, address_of, from_decoded, Spells, IsFirstOther, IsFault}

pub length-bytes_of : (a : Address) → length (bytes_of a) ≡ 8
unfolding bytes_of
length-bytes_of a = refl

-- eight bytes are bytes at each place
pub IsBytes-eight : (a b c d e f g h : ℕ) → a < 256 → b < 256 → c < 256 → d < 256 → e < 256 → f < 256 → g < 256 → h < 256
    → IsBytes (a ∷ b ∷ c ∷ d ∷ e ∷ f ∷ g ∷ h ∷ [])
IsBytes-eight a b c d e f g h la lb lc ld le lf lg lh zero = la
IsBytes-eight a b c d e f g h la lb lc ld le lf lg lh (suc zero) = lb
IsBytes-eight a b c d e f g h la lb lc ld le lf lg lh (suc (suc zero)) = lc
IsBytes-eight a b c d e f g h la lb lc ld le lf lg lh (suc (suc (suc zero))) = ld
IsBytes-eight a b c d e f g h la lb lc ld le lf lg lh (suc (suc (suc (suc zero)))) = le
IsBytes-eight a b c d e f g h la lb lc ld le lf lg lh (suc (suc (suc (suc (suc zero))))) = lf
IsBytes-eight a b c d e f g h la lb lc ld le lf lg lh (suc (suc (suc (suc (suc (suc zero)))))) = lg
IsBytes-eight a b c d e f g h la lb lc ld le lf lg lh (suc (suc (suc (suc (suc (suc (suc zero))))))) = lh
IsBytes-eight a b c d e f g h la lb lc ld le lf lg lh (suc (suc (suc (suc (suc (suc (suc (suc i)))))))) = omega arith

pub IsBytes-bytes_of : (a : Address) → IsBytes (bytes_of a)
unfolding bytes_of
IsBytes-bytes_of a =
    IsBytes-eight _ _ _ _ _ _ _ _ (omega arith) (omega arith) (omega arith) (omega arith) (omega arith) (omega arith) (omega arith)
    (omega arith)

-- the bytes of the address that is made of them
pub bytes_of-made : (bytes : List ℕ) (a : Address) → length bytes ≡ 8 → IsBytes bytes → a.0 ≡ from_be_bytes w64 bytes → bytes_of a ≡ bytes
unfolding bytes_of
bytes_of-made bytes a len fits made = be_bytes_8 bytes a.0 len fits made

-- the number of an address's bytes
pub from_be_bytes-bytes_of : (a : Address) → a.0 < 2 ^ 64 → from_be_bytes w64 (bytes_of a) ≡ a.0
unfolding bytes_of
from_be_bytes-bytes_of a fits = from_be_bytes-to_be_bytes_8 a.0 fits

-- an address is known by its bytes
pub one_address : (a b : Address) → a.0 < 2 ^ 64 → b.0 < 2 ^ 64 → bytes_of a ≡ bytes_of b → a ≡ b
one_address a b fits_a fits_b same =
    let value : a.0 ≡ b.0 = sym (from_be_bytes-bytes_of a fits_a) ∙ ap (from_be_bytes w64) same ∙ from_be_bytes-bytes_of b fits_b in
    ap (λ (n : ℕ). let made : Address = record { 0 = n } in made) value

pub spelt_once : (text : List ℕ) (a b : Address) → a.0 < 2 ^ 64 → b.0 < 2 ^ 64 → Spells text a → Spells text b → a ≡ b
spelt_once text a b fits_a fits_b ha hb = one_address a b fits_a fits_b (decode_of-same text (bytes_of a) (bytes_of b) ha hb)

pub spelt-len : (text : List ℕ) (a : Address) → Spells text a → length text ≡ 16
spelt-len text a h = omega (arith, (decode_of-ok text (bytes_of a) h).2, length-bytes_of a)

-- a place before the first other byte has a digit
before_other : (text : List ℕ) (p q : ℕ) → IsFirstOther text p → IsFirstOther text q → p < q → ⊥
before_other text p q hp hq lt =
    let in_front : p < length (take q text) = omega (arith, length-take q text, hq.within) in
    let digit = All-get_or (λ x. is_hex_digit x ≡ true) (take q text) p 0 in_front hq.before in
    false≢true (sym hp.other ∙ ap is_hex_digit (sym (get_or-take q text p 0 lt)) ∙ digit)

-- a text has at most one fault
pub one_fault : (text : List ℕ) (f g : AddressFault) → IsFault text f → IsFault text g → f ≡ g
one_fault text (faults.Length n) (faults.Length m) hf hg = ap faults.Length (hf.1 ∙ sym hg.1)
one_fault text (faults.Length n) (faults.Digit q) hf hg = absurd (hf.0 hg.0)
one_fault text (faults.Digit p) (faults.Length m) hf hg = absurd (hg.0 hf.0)
one_fault text (faults.Digit p) (faults.Digit q) hf hg =
    let below = before_other text p q hf.1 hg.1 in
    let above = before_other text q p hg.1 hf.1 in
    let same : p ≡ q = omega arith in ap faults.Digit same

-- a text that spells an address has no fault
pub spelt_no_fault : (text : List ℕ) (a : Address) (f : AddressFault) → Spells text a → IsFault text f → ⊥
spelt_no_fault text a (faults.Length n) h fault = fault.0 (spelt-len text a h)
spelt_no_fault text a (faults.Digit p) h fault =
    let digit = All-get_or (λ x. is_hex_digit x ≡ true) text p 0 fault.1.within (decode_of-ok text (bytes_of a) h).1 in
    false≢true (sym fault.1.other ∙ digit)

-- what reading a text answers
abbrev pub refusal : AddressFault → Result Address AddressFault
refusal f = Err f

abbrev pub reading : Address → Result Address AddressFault
reading a = Ok a

-- an answer that is a fault is that fault
pub fault_is : (text : List ℕ) (f g : AddressFault) → IsFault text f
    → (refusal f ≡ refusal g → IsFault text g) × (IsFault text g → refusal f ≡ refusal g)
fault_is text f g hf = (
  λ e. let same : f ≡ g = cc in subst (IsFault text) same hf,
  λ hg. ap refusal (one_fault text f g hf hg),
)

-- an answer that is an address is no fault
pub no_fault : (text : List ℕ) (a : Address) (g : AddressFault) → Spells text a
    → (reading a ≡ refusal g → IsFault text g) × (IsFault text g → reading a ≡ refusal g)
no_fault text a g h = (λ e. absurd cc, λ hg. absurd (spelt_no_fault text a g h hg))

-- an address that the text spells is the one that was read
pub read_is : (text : List ℕ) (a b : Address) → a.0 < 2 ^ 64 → b.0 < 2 ^ 64 → Spells text a → Spells text b → reading a ≡ reading b
read_is text a b fits_a fits_b ha hb = ap reading (spelt_once text a b fits_a fits_b ha hb)

-- a written text
pub written_spells : (text : List ℕ) (a : Address) → text ≡ text_of a → Spells text a
written_spells text a h = ap decode_of h ∙ decode_of-encode_lower (bytes_of a) (IsBytes-bytes_of a)

-- what a text of sixteen bytes is decoded to, by the answer and what was written
abbrev pub answered : Result Unit FromHexError → List ℕ → Result (List ℕ) FromHexError
answered (Ok done) out = Ok out
answered (Err e) out = Err e

pub decoded : (text out : List ℕ) (r : Result Unit FromHexError) → length text ≡ 16
    → MatchResult (decode_sized text 8) (λ bytes. (r ≡ Ok tt) × (out ≡ bytes)) (λ e. r ≡ Err e) → decode_of text ≡ answered r out
decoded text out r len given = sym (decode_sized-twice text 8 len) ∙ is_read (decode_sized text 8) given
  where
    is_read : (d : Result (List ℕ) FromHexError) → MatchResult d (λ bytes. (r ≡ Ok tt) × (out ≡ bytes)) (λ e. r ≡ Err e) → d ≡ answered r out
    is_read (Ok bytes) h = rw (h.0, h.1) refl
    is_read (Err e) h = rw h refl

-- a text of sixteen bytes that was refused
pub refused : (text : List ℕ) (e : FromHexError) → length text ≡ 16 → decode_of text ≡ Err e
    → (place : ℕ) × (e ≡ InvalidHexCharacter (get_or text place 0) place) × IsFirstOther text place
refused text e len is =
    elim (decode_of-err text e is) [
      | inl odd ↦ absurd (omega (arith, odd.0))
      | inr other ↦ let same : 0 + other.0 ≡ other.0 =
          omega arith in (other.0, rw same at other.1, record { within = other.2; other = other.3; before = other.4 })
    ]

-- the address of a text that decodes, or doesn't
pub address_of_decoded : (text : List ℕ) (d : Result (List ℕ) FromHexError) → length text ≡ 16 → decode_of text ≡ d
    → address_of text ≡ from_decoded d
unfolding address_of
address_of_decoded text d len is = cond-true _ _ None (eq-eqb (length text) 16 len) ∙ ap from_decoded is

-- ---- the case of the letters

-- whether a digit in lower case is the digit of its value
abbrev is_lowered : ℕ → Option ℕ → Bool
is_lowered c None = true
is_lowered c (Some v) = to_ascii_lowercase c == get_or lower_digits v 0

lowered : (c v : ℕ) → hex_digit_value c ≡ Some v → to_ascii_lowercase c ≡ get_or lower_digits v 0
lowered c v h =
    let small : c < 128 = grind (arith, nat_tests) in
    let test = agree_below_at (λ d. is_lowered d (hex_digit_value d)) (λ d. true) 128 c refl small in
    eqb-true (to_ascii_lowercase c) (get_or lower_digits v 0) (ap (is_lowered c) (sym h) ∙ test)

-- the value of a step that did not fail
bind_ok : {A B : Type 0} (r : Result A FromHexError) (f : A → Result B FromHexError) (y : B) → (r >>= f) ≡ Ok y → (x : A) × (r ≡ Ok x)
    × (f x ≡ Ok y)
bind_ok (Ok x) f y e = (x, refl, e)
bind_ok (Err d) f y e = absurd cc

digit_read : (c i : ℕ) (o : Option ℕ) (v : ℕ) → digit_or_error c i o ≡ Ok v → o ≡ Some v
digit_read c i (Some w) v h = let same : w ≡ v = cc in ap Some same
digit_read c i None v h = absurd cc

-- digits in lower case are the text of the bytes that they spell
lowered_pairs : (i : ℕ) (s bytes : List ℕ) → decode_pairs i s ≡ Ok bytes → map to_ascii_lowercase s ≡ encode_with lower_digits bytes
unfolding decode_pairs encode_with
lowered_pairs i [] bytes h = let same : [] ≡ bytes = cc in rw (← same) refl
lowered_pairs i (a ∷ []) bytes h = absurd cc
lowered_pairs i (a ∷ b ∷ rest) bytes h =
    let pair = bind_ok (pair_value a b i) _ bytes h in
    let high = bind_ok (value_at a i) _ pair.0 pair.1 in
    let low = bind_ok (value_at b (i + 1)) _ pair.0 high.2 in
    let others = bind_ok (decode_pairs (i + 2) rest) _ bytes pair.2 in
    let high_is = digit_read a i (hex_digit_value a) high.0 high.1 in
    let low_is = digit_read b (i + 1) (hex_digit_value b) low.0 low.1 in
    let small : low.0 < 16 = grind (arith, nat_tests, low_is) in
    let byte : high.0 * 16 + low.0 ≡ pair.0 = cc low.2 in
    let top : pair.0 / 16 ≡ high.0 = omega arith in
    let bottom : pair.0 % 16 ≡ low.0 = omega arith in
    let whole : pair.0 ∷ others.0 ≡ bytes = cc others.2 in
    rw (← whole, top, bottom, lowered a high.0 high_is, lowered b low.0 low_is, lowered_pairs (i + 2) rest others.0 others.1) refl

-- the texts of an address differ in the case of their letters alone
pub one_text : (text : List ℕ) (a : Address) → Spells text a → str_to_ascii_lowercase text ≡ text_of a
one_text text a h = lowered_pairs 0 text (bytes_of a) (sym (decode_of-even text (decode_of-ok text (bytes_of a) h).0) ∙ h)

-- the number of eight bytes
below_64 : (a b c d e f g h n : ℕ) → a < 256 → b < 256 → c < 256 → d < 256 → e < 256 → f < 256 → g < 256 → h < 256
    → n ≡ a + b * 256 + c * 65536 + d * 16777216 + e * 4294967296 + f * 1099511627776 + g * 281474976710656 + h * 72057594037927936
    → n < 2 ^ 64
below_64 a b c d e f g h n la lb lc ld le lf lg lh is = omega arith

made_fits : (bytes : List ℕ) → IsBytes bytes → from_be_bytes w64 bytes < 2 ^ 64
made_fits bytes h =
    below_64 (get_or bytes 7 0) (get_or bytes 6 0) (get_or bytes 5 0) (get_or bytes 4 0) (get_or bytes 3 0) (get_or bytes 2 0)
    (get_or bytes 1 0) (get_or bytes 0 0) _
    (h 7) (h 6) (h 5) (h 4) (h 3) (h 2) (h 1) (h 0) (omega arith)

-- an address that is read has eight bytes
pub read_fits : (text : List ℕ) (a : Address) → address_of text ≡ Some a → a.0 < 2 ^ 64
unfolding address_of
read_fits text a h =
    by_bytes (decode_of text) refl (where_some (length text == 16) (from_decoded (decode_of text)) a h).1
  where
    by_bytes : (d : Result (List ℕ) FromHexError) → decode_of text ≡ d → from_decoded d ≡ Some a → a.0 < 2 ^ 64
    by_bytes (Ok bytes) is made =
        let same : from_be_bytes w64 bytes ≡ a.0 = cc in
        subst (λ n. n < 2 ^ 64) same (made_fits bytes (decode_of-ok text bytes is).3)
    by_bytes (Err e) is made = absurd cc

-- the text of an address is read back
pub written_address : (a : Address) → a.0 < 2 ^ 64 → address_of (text_of a) ≡ Some a
written_address a fits =
    let spelt = written_spells (text_of a) a refl in
    let value = from_be_bytes-bytes_of a fits in
    address_of_decoded (text_of a) (Ok (bytes_of a)) (spelt-len (text_of a) a spelt) spelt
    ∙ ap (λ (n : ℕ). let made : Address = record { 0 = n } in Some made) value
