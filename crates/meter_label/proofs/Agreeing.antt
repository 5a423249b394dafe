-- Labels and addresses that say the same.
use Rattle.std.proofs.Common.{◌≡◌, ℕ, ◌+◌, ◌*◌, ◌/◌, ◌%◌, ◌^◌, ◌<◌, ◌≤◌, ◌&&◌, Bool, true, List, [], ◌∷◌, length, get_or, take, drop, Option, Some, None, refl, sym, ap, subst, ◌∙◌, arith}
use Rattle.std.specs.Prelude.{reverse, if◌then◌else◌}
use Rattle.std.specs.Int.{w16, w64, from_be_bytes, to_le_bytes}
use Rattle.std.proofs.lemmas.Bool.Decides.{nat_tests}
use Rattle.hex.specs.Hex.{IsBytes}
use Rattle.meter_address.specs.declared.address.Address.{Address}
use Rattle.meter_address.specs.Address.{bytes_of}
use Rattle.meter_address.specs.Letters.{AreLetters, IsCapital, is_letter, manufacturer_of, letters_of, letters_of_number}
use Rattle.meter_address.proofs.Texts.{length-bytes_of, IsBytes-bytes_of, bytes_of-made, from_be_bytes-bytes_of, IsBytes-eight}
use Rattle.meter_address.proofs.HeaderOrder.{Eight, eight_is}
use Rattle.meter_label.specs.declared.label.Label.{Label}
use Rattle.meter_label.specs.Label.{IsLabelOf, IsFit, is_capital, number_of, label_from, label_of, bytes_from, address_from, address_of}

-- ---- three tests, and what they let through

chosen : {A : Type 0} (a b c : Bool) (x y : A) → (if a && b && c then Some x else None) ≡ Some y → (a ≡ true) × (b ≡ true) × (c ≡ true)
    × (x ≡ y)
chosen true true true x y e = (refl, refl, refl, cc)
chosen _ _ _ x y e = absurd cc

letter_of : (n : ℕ) → is_letter n ≡ true → (1 ≤ n) × (n ≤ 26)
letter_of n e = grind (arith, nat_tests)

letter_is : (n : ℕ) → 1 ≤ n → n ≤ 26 → is_letter n ≡ true
letter_is n low high = grind (arith, nat_tests)

capital_of : (n : ℕ) → is_capital n ≡ true → IsCapital n
capital_of n e = grind (arith, nat_tests)

capital_is : (n : ℕ) → IsCapital n → is_capital n ≡ true
capital_is n is = let low = is.0 in let high = is.1 in grind (arith, nat_tests)

-- ---- the letters of M, both ways

letters_found : (m : ℕ) (letters : List ℕ) → letters_of_number m ≡ Some letters → AreLetters letters m
letters_found m letters e =
    let c = chosen (is_letter (m / 1024)) (is_letter (m / 32 % 32)) (is_letter (m % 32)) _ letters e in
    let one = letter_of (m / 1024) c.0 in
    let two = letter_of (m / 32 % 32) c.1 in
    let three = letter_of (m % 32) c.2 in record {
      first = m / 1024 + 64;
      second = m / 32 % 32 + 64;
      third = m % 32 + 64;
      capitals = ((omega arith, omega arith), (omega arith, omega arith), (omega arith, omega arith));
      text = sym c.3;
      number = omega arith;
    }

letters_only : (m : ℕ) (letters : List ℕ) → AreLetters letters m → letters_of_number m ≡ Some letters
letters_only m letters are =
    let one = are.capitals.0 in
    let two = are.capitals.1 in
    let three = are.capitals.2 in
    let number = are.number in
    let first : m / 1024 + 64 ≡ are.first = omega arith in
    let second : m / 32 % 32 + 64 ≡ are.second = omega arith in
    let third : m % 32 + 64 ≡ are.third = omega arith in
    rw (
      letter_is (m / 1024) (omega arith) (omega arith),
      letter_is (m / 32 % 32) (omega arith) (omega arith),
      letter_is (m % 32) (omega arith) (omega arith),
      first,
      second,
      third,
    )
    (ap Some (sym are.text))

number_found : (letters : List ℕ) (n : ℕ) → number_of letters ≡ Some n → AreLetters letters n
unfolding number_of
number_found (a ∷ b ∷ c ∷ []) n e =
    let test = chosen (is_capital a) (is_capital b) (is_capital c) _ n e in record {
      first = a;
      second = b;
      third = c;
      capitals = (capital_of a test.0, capital_of b test.1, capital_of c test.2);
      text = refl;
      number = sym test.3;
    }
number_found _ n e = absurd cc

number_only : (letters : List ℕ) (n : ℕ) → AreLetters letters n → number_of letters ≡ Some n
unfolding number_of
number_only letters n are =
    rw are.text
    (rw (capital_is are.first are.capitals.0, capital_is are.second are.capitals.1, capital_is are.third are.capitals.2)
    (ap Some (sym are.number)))

-- ---- a label and an address that say the same

pub named_to : (address : Address) (label : Label) → IsLabelOf address label → label_of address ≡ Some label
unfolding label_of letters_of bytes_of
named_to address label is =
    let x = eight_is (bytes_of address) (length-bytes_of address) in
    let letters : letters_of address ≡ Some label.letters = letters_only (manufacturer_of address) label.letters is.maker in
    let identification : label.identification ≡ x.f ∷ x.e ∷ x.d ∷ x.c ∷ [] =
    is.identification ∙ ap (λ b. reverse (take 4 (drop 2 b))) x.cells in
    let rest : x.g ∷ x.h ∷ [] ≡ label.version ∷ label.kind ∷ [] = sym (ap (drop 6) x.cells) ∙ is.rest in
    let version : x.g ≡ label.version = cc in
    let kind : x.h ≡ label.kind = cc in
    rw (x.cells, letters, version, kind, ← identification) refl

named_by : (address : Address) (label : Label) (x : Eight (bytes_of address)) (letters : Option (List ℕ)) → letters_of address ≡ letters
    → label_from (x.a ∷ x.b ∷ x.c ∷ x.d ∷ x.e ∷ x.f ∷ x.g ∷ x.h ∷ []) letters ≡ Some label → IsLabelOf address label
unfolding letters_of
named_by address label x (Some letters) found made =
    let told : Label = record { letters = letters; identification = x.f ∷ x.e ∷ x.d ∷ x.c ∷ []; version = x.g; kind = x.h } in
    let same : told ≡ label = cc in
    subst (IsLabelOf address) same (record {
      maker = letters_found (manufacturer_of address) letters found;
      identification = sym (ap (λ b. reverse (take 4 (drop 2 b))) x.cells);
      rest = ap (drop 6) x.cells;
    })
named_by address label x None found made = absurd cc

pub named_from : (address : Address) (label : Label) → label_of address ≡ Some label → IsLabelOf address label
unfolding label_of
named_from address label e =
    let x = eight_is (bytes_of address) (length-bytes_of address) in
    named_by address label x (letters_of address) refl (sym (ap (λ b. label_from b (letters_of address)) x.cells) ∙ e)

-- ---- the bytes of M

low_first : (m low high : ℕ) → low < 256 → high < 256 → m ≡ low + 256 * high → to_le_bytes w16 m ≡ low ∷ high ∷ []
low_first m low high fits_low fits_high is =
    let first : get_or (to_le_bytes w16 m) 0 0 ≡ low = omega arith in
    let second : get_or (to_le_bytes w16 m) 1 0 ≡ high = omega arith in
    rw (first, second) refl

pub addressed_to : (address : Address) (label : Label) → address.0 < 2 ^ 64 → label_of address ≡ Some label
    → address_of label ≡ Some address
unfolding address_of
addressed_to address label fits e =
    let is = named_from address label e in
    let x = eight_is (bytes_of address) (length-bytes_of address) in
    let number = number_only label.letters (manufacturer_of address) is.maker in
    let identification : label.identification ≡ x.f ∷ x.e ∷ x.d ∷ x.c ∷ [] =
    is.identification ∙ ap (λ b. reverse (take 4 (drop 2 b))) x.cells in
    let rest : x.g ∷ x.h ∷ [] ≡ label.version ∷ label.kind ∷ [] = sym (ap (drop 6) x.cells) ∙ is.rest in
    let version : x.g ≡ label.version = cc in
    let kind : x.h ≡ label.kind = cc in
    let bytes = IsBytes-bytes_of address in
    let low : x.a < 256 = subst (λ b. get_or b 0 0 < 256) x.cells (bytes 0) in
    let high : x.b < 256 = subst (λ b. get_or b 1 0 < 256) x.cells (bytes 1) in
    let maker = low_first (manufacturer_of address) x.a x.b low high (ap (λ b. get_or b 0 0 + 256 * get_or b 1 0) x.cells) in
    let made : bytes_from (to_le_bytes w16 (manufacturer_of address)) label.identification label.version label.kind ≡ bytes_of address =
    ap (λ m. bytes_from m label.identification label.version label.kind) maker
    ∙ ap (λ i. bytes_from (x.a ∷ x.b ∷ []) i label.version label.kind) identification
    ∙ rw (← version, ← kind) (sym x.cells) in
    let value = ap (from_be_bytes w64) made ∙ from_be_bytes-bytes_of address fits in
    ap (address_from label) number ∙ ap (λ (n : ℕ). let a : Address = record { 0 = n } in Some a) value

-- four bytes, one by one
record Four (xs : List ℕ) : Type 0 where
  a : ℕ
  b : ℕ
  c : ℕ
  d : ℕ
  cells : xs ≡ a ∷ b ∷ c ∷ d ∷ []

four_is : (xs : List ℕ) → length xs ≡ 4 → Four xs
four_is (a ∷ b ∷ c ∷ d ∷ []) len = record { a = a; b = b; c = c; d = d; cells = refl }
four_is _ len = absurd (omega arith)

-- M is a number of two bytes
small : (letters : List ℕ) (n : ℕ) → AreLetters letters n → n < 65536
small letters n are =
    let one = are.capitals.0 in
    let two = are.capitals.1 in
    let three = are.capitals.2 in
    let number = are.number in omega arith

addressed_by : (address : Address) (label : Label) (number : Option ℕ) → IsFit label → number_of label.letters ≡ number
    → address_from label number ≡ Some address → IsLabelOf address label
addressed_by address label (Some n) fit found made =
    let are = number_found label.letters n found in
    let below = small label.letters n are in
    let y = four_is label.identification fit.four in
    let low : n % 256 < 256 = omega arith in
    let high : n / 256 < 256 = omega arith in
    let maker = low_first n (n % 256) (n / 256) low high (omega arith) in
    let byte : (i : ℕ) → get_or (y.a ∷ y.b ∷ y.c ∷ y.d ∷ []) i 0 < 256 = subst IsBytes y.cells fit.identification in
    let bytes : List ℕ = n % 256 ∷ n / 256 ∷ y.d ∷ y.c ∷ y.b ∷ y.a ∷ label.version ∷ label.kind ∷ [] in
    let same : bytes_from (to_le_bytes w16 n) label.identification label.version label.kind ≡ bytes =
    ap (λ m. bytes_from m label.identification label.version label.kind) maker
    ∙ ap (λ i. bytes_from (n % 256 ∷ n / 256 ∷ []) i label.version label.kind) y.cells in
    let whole : Address = record { 0 = from_be_bytes w64 (bytes_from (to_le_bytes w16 n) label.identification label.version label.kind) } in
    let is : whole ≡ address = cc in
    let value : address.0 ≡ from_be_bytes w64 bytes = sym (ap (λ a. a.0) is) ∙ ap (from_be_bytes w64) same in
    let cells =
    bytes_of-made bytes address refl (IsBytes-eight _ _ _ _ _ _ _ _ low high (byte 3) (byte 2) (byte 1) (byte 0) fit.version fit.kind)
    value in
    let m : n ≡ manufacturer_of address = sym (ap (λ b. get_or b 0 0 + 256 * get_or b 1 0) cells ∙ omega arith) in record {
      maker = subst (AreLetters label.letters) m are;
      identification = y.cells ∙ sym (ap (λ b. reverse (take 4 (drop 2 b))) cells);
      rest = ap (drop 6) cells;
    }
addressed_by address label None fit found made = absurd cc

pub addressed_from : (address : Address) (label : Label) → IsFit label → address_of label ≡ Some address → label_of address ≡ Some label
unfolding address_of
addressed_from address label fit e = named_to address label (addressed_by address label (number_of label.letters) fit refl e)
