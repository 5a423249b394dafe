-- Keys that compare as equal are one.
use Rattle.std.proofs.Common.{◌≡◌, ℕ, List, [], ◌∷◌, Bool, true, false, not, ◌&&◌, ℤ, refl, sym, ap, ◌∙◌, inl, inr, Ordering, Less, Equal, Greater}
use Rattle.std.specs.Ordering.{is_eq, nat_cmp, int_cmp, ordering_then}
use Rattle.std.specs.Cmp.{ranked, int_ranked}
use Rattle.std.specs.Cmp.Lexicographic.{slice_cmp}
use Rattle.std.proofs.lemmas.Bool.{and_parts}
use Rattle.std.proofs.lemmas.Cmp.{tied_back, nat_list_cmp_total}
use denote.Struct.Field.{Field}
use denote.Enum.Declared.{Choice, Record}
use Rattle.record_values.specs.declared.units.Quantity.{Quantity}
use Rattle.record_values.specs.declared.units.UnitName.{UnitName}
use Rattle.record_values.specs.contracts.units.Quantity as quantities
use Rattle.record_values.specs.contracts.units.UnitName as units
use Rattle.record_text.specs.Words.{quantity_text, name_text}
use Rattle.usage_totals.specs.declared.key.UsageKey.{UsageKey}
use Rattle.usage_totals.specs.Keys.{key_cmp}

-- whether a test passes for each variant of an enum without fields
abbrev passes : (parts : List (List Field)) → (Choice parts → Bool) → Bool
passes [] test = true
passes ([] ∷ parts) test = test (inl tt) && passes parts (λ c. test (inr c))
passes ((_ ∷ _) ∷ parts) test = false

passes_at : (parts : List (List Field)) (test : Choice parts → Bool) → passes parts test ≡ true → (c : Choice parts) → test c ≡ true
passes_at [] test all c = absurd c
passes_at ([] ∷ parts) test all (inl _) = (and_parts (test (inl tt)) (passes parts (λ c. test (inr c))) all).0
passes_at ([] ∷ parts) test all (inr c) =
    passes_at parts (λ c. test (inr c)) (and_parts (test (inl tt)) (passes parts (λ c. test (inr c))) all).1 c
passes_at ((_ ∷ _) ∷ parts) test all c = absurd cc

-- whether no two variants have the same word
abbrev apart : (parts : List (List Field)) → (Choice parts → List ℕ) → Bool
apart [] word = true
apart ([] ∷ parts) word =
    passes parts (λ c. not (is_eq (slice_cmp nat_cmp (word (inl tt)) (word (inr c))))) && apart parts (λ c. word (inr c))
apart ((_ ∷ _) ∷ parts) word = false

clash : {A : Type 0} (o : Ordering) → not (is_eq o) ≡ true → o ≡ Equal → A
clash o other same = let no : not (is_eq o) ≡ false = ap (λ o. not (is_eq o)) same in absurd cc

one_choice : (parts : List (List Field)) (word : Choice parts → List ℕ) → apart parts word ≡ true → (c d : Choice parts)
    → slice_cmp nat_cmp (word c) (word d) ≡ Equal → c ≡ d
one_choice [] word all c d e = absurd c
one_choice ([] ∷ parts) word all (inl _) (inl _) e = refl
one_choice ([] ∷ parts) word all (inl _) (inr d) e = clash _ (passes_at parts _ (and_parts _ _ all).0 d) e
one_choice ([] ∷ parts) word all (inr c) (inl _) e =
    clash _ (passes_at parts _ (and_parts _ _ all).0 c) (tied_back nat_list_cmp_total (word (inr c)) (word (inl tt)) e)
one_choice ([] ∷ parts) word all (inr c) (inr d) e = ap inr (one_choice parts (λ c. word (inr c)) (and_parts _ _ all).1 c d e)
one_choice ((_ ∷ _) ∷ parts) word all c d e = absurd cc

-- variants whose words compare as equal are one
one_variant : (N : Record) (word : N.D → List ℕ) → apart N.parts (λ c. word (N.make c)) ≡ true → (x y : N.D)
    → slice_cmp nat_cmp (word x) (word y) ≡ Equal → x ≡ y
one_variant N word all x y e =
    sym (N.eta x)
    ∙ ap N.make (one_choice N.parts (λ c. word (N.make c)) all (N.as_values x) (N.as_values y)
    (ap (λ z. slice_cmp nat_cmp (word z) (word (N.make (N.as_values y)))) (N.eta x)
    ∙ ap (λ z. slice_cmp nat_cmp (word x) (word z)) (N.eta y) ∙ e)) ∙ N.eta y

number_same : (x y : ℕ) → nat_cmp x y ≡ Equal → x ≡ y
number_same x y e = ranked x y Equal (sym e)

signed_same : (x y : ℤ) → int_cmp x y ≡ Equal → x ≡ y
signed_same x y e = int_ranked x y Equal (sym e)

then_equal : (a b : Ordering) → ordering_then a b ≡ Equal → (a ≡ Equal) × (b ≡ Equal)
then_equal Less b e = absurd cc
then_equal Equal b e = (refl, e)
then_equal Greater b e = absurd cc

abbrev key_with : ℕ → ℕ → ℕ → Quantity → UnitName → ℤ → UsageKey
key_with s t u q n e = record { storage = s; tariff = t; subunit = u; quantity = q; name = n; exponent = e }

fields_same : (a b : UsageKey) → a.storage ≡ b.storage → a.tariff ≡ b.tariff → a.subunit ≡ b.subunit → a.quantity ≡ b.quantity
    → a.name ≡ b.name → a.exponent ≡ b.exponent → a ≡ b
fields_same a b s t u q n e =
    let same : key_with a.storage a.tariff a.subunit a.quantity a.name a.exponent
    ≡ key_with b.storage b.tariff b.subunit b.quantity b.name b.exponent = rw (s, t, u, q, n, e) refl in
    same

-- keys that compare as equal are the same
pub same_key : (a b : UsageKey) → key_cmp a b ≡ Equal → a ≡ b
same_key a b e =
    let five = then_equal _ _ e in
    let four = then_equal _ _ five.0 in
    let three = then_equal _ _ four.0 in
    let two = then_equal _ _ three.0 in
    let one = then_equal _ _ two.0 in
    fields_same a b (number_same _ _ one.0) (number_same _ _ one.1) (number_same _ _ two.1)
    (one_variant quantities.enum quantity_text refl _ _ three.1) (one_variant units.enum name_text refl _ _ four.1) (signed_same _ _ five.1)

equal_by : (o : Ordering) → is_eq o ≡ true → o ≡ Equal
equal_by Less e = absurd cc
equal_by Equal e = refl
equal_by Greater e = absurd cc

-- the same, by the test of a look-up
pub same_by_test : (a b : UsageKey) → is_eq (key_cmp a b) ≡ true → a ≡ b
same_by_test a b e = same_key a b (equal_by (key_cmp a b) e)
