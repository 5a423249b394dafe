-- How many values a profile has at most, and how large a storage number is.
use Rattle.std.proofs.Common.{◌≡◌, ℕ, ◌+◌, ◌*◌, ◌%◌, ◌<◌, ◌≤◌, ◌^◌, ◌&&◌, List, [], ◌∷◌, length, map, Option, Some, None, Bool, true, false, eqb, ltb, cond, not, refl, sym, ap, subst, ◌∙◌, arith, inl, inr}
use Rattle.std.proofs.Math.Nat.{mul-le-mul_left}
use Rattle.std.proofs.lemmas.Bool.{ltb-true, eqb-true, lt-ltb, cond-true}
use Rattle.std.proofs.lemmas.Bool.Decides.{nat_tests}
use Rattle.lists.proofs.Choices.{some_if}
use Rattle.dif_vif.specs.declared.span.RecordSpan.{RecordSpan}
use Rattle.dif_vif.specs.Numbers.{low_first, storage_of}
use Rattle.dif_vif.specs.Spelling.{data_width}
use Rattle.dif_vif.specs.Spans.{IsSpanOf}
use Rattle.dif_vif.proofs.Digits.{number_bound, low_first-by_one}
use Rattle.full_spans.specs.Long.{IsFullSpan}
use Rattle.record_values.specs.Values.{data_of}
use Rattle.full_records.specs.Values.{is_long}
use Rattle.full_records.proofs.Plain.{width_of_data}
use Rattle.full_records.proofs.UnitPlaces.{not_long_span}
use Rattle.compact_profiles.specs.declared.kinds.ProfileKind.{ProfileKind}
use Rattle.compact_profiles.specs.declared.profiles.Profile.{Profile}
use Rattle.compact_profiles.specs.Kinds.{has_text_lvar, record_kind}
use Rattle.compact_profiles.specs.Profiles.{value_width, sized, profile_in, profile}

-- ---- storage numbers

storage_few : (dif : ℕ) (difes : List ℕ) → length difes ≤ 10 → storage_of dif difes < 2 ^ 42
storage_few dif difes few =
    let same = low_first-by_one 16 difes in
    let bound = number_bound 16 1 difes 0 (low_first 16 (map (λ x. x % 16) difes)) (omega arith) few (sym same) in
    omega (arith, bound)

-- a storage number has at most 41 bits
pub storage_below : (bytes : List ℕ) (span : RecordSpan) → IsFullSpan bytes span → span.storage < 2 ^ 42
storage_below bytes span (inl (inl s)) =
    subst (λ (x : RecordSpan). x.storage < 2 ^ 42) (sym s.places) (storage_few s.found.dib.dif s.found.dib.difes s.is_record.few_difes)
storage_below bytes span (inl (inr s)) = subst (λ (x : RecordSpan). x.storage < 2 ^ 42) (sym s.places) (omega arith)
storage_below bytes span (inr s) =
    subst (λ (x : RecordSpan). x.storage < 2 ^ 42) (sym s.places) (storage_few s.found.dib.dif s.found.dib.difes s.is_record.dib.few)

-- ---- the data of a record whose LVAR says how many bytes they are

text_not_long : (lvar : Option ℕ) → has_text_lvar lvar ≡ true → is_long lvar ≡ false
text_not_long None e = absurd cc
text_not_long (Some lvar) e = ap not (lt-ltb lvar 240 (omega (arith, ltb-true lvar 192 e)))

text_width : (dif n : ℕ) (lvar : Option ℕ) → has_text_lvar lvar ≡ true → data_width dif lvar ≡ Some n → n ≤ 191
text_width dif n None e width = absurd cc
text_width dif n (Some lvar) e width =
    let by = some_if (eqb (dif % 16) 13) lvar n (ap (λ (w : Option ℕ). cond (eqb (dif % 16) 13) w None) (sym (cond-true (ltb lvar 192) _ _ e)) ∙ width) in
    omega (arith, by.1, ltb-true lvar 192 e)

text_not_maker : (bytes : List ℕ) (span : RecordSpan) → IsSpanOf bytes span → has_text_lvar span.lvar ≡ true → span.maker ≡ false
text_not_maker bytes span (inl s) e = ap (λ (x : RecordSpan). x.maker) s.places
text_not_maker bytes span (inr s) e = absurd (let none = ap (λ (x : RecordSpan). has_text_lvar x.lvar) s.places in cc)

text_few : (bytes : List ℕ) (span : RecordSpan) → IsFullSpan bytes span → has_text_lvar span.lvar ≡ true → length (data_of bytes span) ≤ 191
text_few bytes span is e =
    let short = not_long_span bytes span is (text_not_long span.lvar e) in
    text_width span.dif (length (data_of bytes span)) span.lvar e (width_of_data bytes span short (text_not_maker bytes span short e))

pub data_few : (bytes : List ℕ) (span : RecordSpan) (kind : ProfileKind) → IsFullSpan bytes span → record_kind bytes span ≡ Some kind
    → length (data_of bytes span) ≤ 191
data_few bytes span kind is e = text_few bytes span is (by_text (has_text_lvar span.lvar) _ _ kind e) where
  by_text : (a b : Bool) (found : Option ProfileKind) (kind : ProfileKind) → cond (a && b) found None ≡ Some kind → a ≡ true
  by_text true b found kind e = refl
  by_text false b found kind e = absurd cc

-- ---- what a profile says of its data

pub record FitsData (p : Profile) (sent : List ℕ) : Type 0 where
  pub field : p.field < 16
  pub width : value_width p.field ≡ Some p.width
  pub some : 0 < p.width
  pub small : p.width ≤ 8
  pub whole : length sent ≡ p.count * p.width + 2

few_wide : (field width : ℕ) → value_width field ≡ Some width → (0 < width) × (width ≤ 8)
few_wide field width e = grind (arith, nat_tests)

sized_fits : (kind : ProfileKind) (control spacing : ℕ) (values : List ℕ) (p : Profile) (w : Option ℕ) → value_width (control % 16) ≡ w
    → sized kind control spacing (length values) w ≡ Some p → FitsData p (control ∷ spacing ∷ values)
sized_fits kind control spacing values p None is e = absurd cc
sized_fits kind control spacing values p (Some width) is e =
    let by = some_if (eqb (length values % width) 0) _ p e in
    let wide = few_wide (control % 16) width is in
    subst (λ (q : Profile). FitsData q (control ∷ spacing ∷ values)) by.1 (record {
      field = omega arith;
      width = is;
      some = wide.0;
      small = wide.1;
      whole = omega (arith, eqb-true (length values % width) 0 by.0, wide.0);
    })

pub profile_fits : (kind : Option ProfileKind) (sent : List ℕ) (p : Profile) → profile_in kind sent ≡ Some p → FitsData p sent
unfolding profile_in
profile_fits None sent p e = absurd cc
profile_fits (Some kind) [] p e = absurd cc
profile_fits (Some kind) (control ∷ []) p e = absurd cc
profile_fits (Some kind) (control ∷ spacing ∷ values) p e = sized_fits kind control spacing values p (value_width (control % 16)) refl e

pub few_values : (p : Profile) (sent : List ℕ) → FitsData p sent → length sent ≤ 191 → p.count ≤ 189
few_values p sent f few =
    let one : 1 ≤ p.width = omega (arith, f.some) in
    omega (arith, f.whole, mul-le-mul_left p.count one)

-- ---- the record's own

kind_is : (kind : Option ProfileKind) (sent : List ℕ) (p : Profile) → profile_in kind sent ≡ Some p → (k : ProfileKind) × (kind ≡ Some k)
unfolding profile_in
kind_is None sent p e = absurd cc
kind_is (Some kind) sent p e = (kind, refl)

pub count_few : (bytes : List ℕ) (span : RecordSpan) (p : Profile) → IsFullSpan bytes span → profile bytes span ≡ Some p → p.count ≤ 189
count_few bytes span p is e =
    let by = kind_is (record_kind bytes span) (data_of bytes span) p e in
    few_values p (data_of bytes span) (profile_fits (record_kind bytes span) (data_of bytes span) p e) (data_few bytes span by.0 is by.1)
