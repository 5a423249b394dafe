-- How large the numbers of a record are.
use Rattle.std.proofs.Common.{◌≡◌, ℕ, ℤ, pos, negsuc, zero, suc, ◌+◌, ◌-◌, ◌*◌, ◌/◌, ◌%◌, ◌^◌, ◌<◌, ◌≤◌, ◌==◌, nat_lt, Bool, true, false, cond, ◌&&◌, List, length, map}
use Rattle.std.proofs.Common.{Option, Some, None, option_map, IfSome, ◌⊎◌, inl, inr, refl, sym, ap, subst, ◌∙◌, arith, unsigned_abs, neg_ℤ}
use Rattle.std.proofs.lemmas.Bool.{and_parts, cond_both, ltb-true, leb-true, cases_lt}
use Rattle.dif_vif.specs.declared.span.RecordSpan.{RecordSpan}
use Rattle.dif_vif.specs.Numbers.{low_first, storage_of, tariff_of, subunit_of}
use Rattle.dif_vif.specs.Spans.{span_of}
use Rattle.dif_vif.specs.Spelling.{DataRecord}
use Rattle.dif_vif.proofs.Digits.{number_bound, low_first-by_one}
use Rattle.full_spans.specs.Long.{IsFullSpan}
use Rattle.full_records.specs.declared.values.FullValue.{FullValue}
use Rattle.full_records.specs.declared.values.FullValue.TheVariants as values
use Rattle.full_text.specs.declared.reals.Decimal.{Decimal}
use Rattle.full_text.specs.Reals.{exponent_bits, fraction_bits, significand, power, halvings, places, size, is_told, is_negative, signed, real_decimal}
use Rattle.full_text.specs.Values.{scaled_by, real_times}
use Rattle.full_text.specs.Said.{counted}
use Rattle.full_text.proofs.Sizes.{halved_small, doubled_small, divided_small}

-- ---- the numbers of a span

pub record IsSmallSpan (span : RecordSpan) : Type 0 where
  pub storage : span.storage < 10 ^ 64
  pub tariff : span.tariff < 10 ^ 64
  pub subunit : span.subunit < 10 ^ 64

storage_small : (dif : ℕ) (difes : List ℕ) → length difes ≤ 10 → storage_of dif difes < 10 ^ 64
storage_small dif difes few =
    omega (arith, number_bound 16 1 difes 0 (low_first 16 (map (λ dife. dife % 16) difes)) (omega arith) few (sym (low_first-by_one 16 difes)))

tariff_small : (difes : List ℕ) → length difes ≤ 10 → tariff_of difes < 10 ^ 64
tariff_small difes few = omega (arith, number_bound 4 16 difes 0 (tariff_of difes) (omega arith) few refl)

subunit_small : (difes : List ℕ) → length difes ≤ 10 → subunit_of difes < 10 ^ 64
subunit_small difes few = omega (arith, number_bound 2 64 difes 0 (subunit_of difes) (omega arith) few refl)

record_small : (start : ℕ) (r : DataRecord) → length r.dib.difes ≤ 10 → IsSmallSpan (span_of start r)
record_small start r few = record {
  storage = storage_small r.dib.dif r.dib.difes few;
  tariff = tariff_small r.dib.difes few;
  subunit = subunit_small r.dib.difes few;
}

pub span_small : (bytes : List ℕ) (span : RecordSpan) → IsFullSpan bytes span → IsSmallSpan span
span_small bytes span (inl (inl s)) = subst IsSmallSpan (sym s.places) (record_small span.start s.found s.is_record.few_difes)
span_small bytes span (inl (inr s)) =
    subst IsSmallSpan (sym s.places) (record { storage = omega arith; tariff = omega arith; subunit = omega arith })
span_small bytes span (inr s) = subst IsSmallSpan (sym s.places) (record_small span.start s.found s.is_record.dib.few)

-- ---- the number that a value counts

abbrev pub IsSmall : Decimal → Type 0
IsSmall d = unsigned_abs d.whole < 10 ^ 64

significand_small : (word : ℕ) → significand word < 2 ^ 24
significand_small word = cond_both (exponent_bits word == 0) (fraction_bits word) (2 ^ 23 + fraction_bits word) (λ n. n < 2 ^ 24)
    (λ _. omega arith) (λ _. omega arith)

no_places : (word : ℕ) → 150 < power word → places word ≡ 0
no_places word above = cond_both (significand word == 0) 0 (150 - power word - halvings word) (λ n. n ≡ 0) (λ _. refl) (λ _. omega arith)

-- without a factor of two
low_small : (a b k : ℕ) → a * b < 2 ^ 127 → k ≡ 0 → a * b * 2 ^ k < 10 ^ 64
low_small a b k small is = subst (λ k. a * b * 2 ^ k < 10 ^ 64) (sym is) (omega (arith, small))

-- without a factor of five
high_small : (a k c : ℕ) → a * c < 2 ^ 127 → k ≡ 0 → a * 5 ^ k * c < 10 ^ 64
high_small a k c small is =
    let same : a * 1 ≡ a = omega arith in
    subst (λ k. a * 5 ^ k * c < 10 ^ 64) (sym is) (subst (λ x. x * c < 10 ^ 64) (sym same) (omega (arith, small)))

size_small : (word : ℕ) → power word ≤ 251 → places word ≤ 44 → size word < 10 ^ 64
size_small word few_twos few_fives =
    let a = significand word / 2 ^ halvings word in
    let small : a < 2 ^ 24 = halved_small (significand word) (2 ^ halvings word) (significand_small word) in
    elim (cases_lt 150 (power word)) [
      | inl above ↦ high_small a (places word) (2 ^ (power word - 150))
          (doubled_small a (2 ^ (power word - 150)) a (power word) refl refl small few_twos) (no_places word above)
      | inr below ↦ low_small a (5 ^ places word) (power word - 150) (divided_small a (5 ^ places word) a (places word) refl refl small few_fives)
          (omega arith)
    ]

negative_abs : (n : ℕ) → unsigned_abs (neg_ℤ (pos n)) ≡ n
negative_abs zero = refl
negative_abs (suc n) = refl

signed_small : (word n : ℕ) → n < 10 ^ 64 → unsigned_abs (signed word n) < 10 ^ 64
signed_small word n small = cond_both (is_negative word) (neg_ℤ (pos n)) (pos n) (λ z. unsigned_abs z < 10 ^ 64)
    (λ _. subst (λ m. m < 10 ^ 64) (sym (negative_abs n)) small) (λ _. small)

real_small : (bits : ℕ) (power : ℤ) → IfSome (real_times bits power) IsSmall
real_small bits scale = cond_both (is_told bits) _ _ (λ (o : Option Decimal). IfSome (option_map (scaled_by scale) o) IsSmall)
    (λ is. let parts = and_parts _ _ is in
    signed_small bits (size bits) (size_small bits (leb-true (power bits) 251 parts.0) (leb-true (places bits) 44 parts.1)))
    (λ _. tt)

pub counted_small : (v : FullValue) (unset : Bool) → IfSome (counted v unset) IsSmall
counted_small v true = tt
counted_small (values.Number whole exponent) false =
    cond_both (nat_lt (unsigned_abs whole) (10 ^ 15)) _ _ (λ (o : Option Decimal). IfSome o IsSmall)
    (λ is. omega (arith, ltb-true (unsigned_abs whole) (10 ^ 15) is)) (λ _. tt)
counted_small (values.Real bits power) false = real_small bits power
counted_small _ false = tt
