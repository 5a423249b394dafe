-- The unit of a code, wherever its modifiers stand, and the unit of a long record.
use Rattle.std.proofs.Common.{◌≡◌, ℕ, ◌+◌, ◌-◌, ◌%◌, ◌<◌, ◌≤◌, Bool, true, false, not, eqb, leb, ltb, cond, ◌||◌, ◌&&◌, List, [], ◌∷◌, Option, Some, None, refl, sym, ap, ◌∙◌, inl, inr, arith, slice_index, subst}
use Rattle.std.proofs.lemmas.Bool.Decides.{nat_tests}
use Rattle.std.proofs.lemmas.Bool.{cond-false, le-ltb, ne_eqb, both_ways}
use Rattle.dif_vif.specs.declared.span.RecordSpan.{RecordSpan}
use Rattle.dif_vif.specs.Spelling.{DataRecord}
use Rattle.dif_vif.specs.Spans.{span_of, IsSpanOf}
use Rattle.full_spans.specs.Long.{IsFullSpan, IsLongSpan}
use Rattle.full_spans.proofs.Found.{long_lvar, long_lvar_from, long_not_maker}
use Rattle.record_values.specs.declared.units.Unit.{Unit as ProfileUnit}
use Rattle.record_values.specs.declared.unit_tables.UnitRow.{UnitRow}
use Rattle.record_values.specs.Units.{after_fb, after_fd, primary, unit, unit_in}
use Rattle.full_records.specs.Profile.{coded_unit, placed}
use Rattle.full_records.specs.Values.{is_long}

by_test : (test : Bool) (b m : ℕ) (u v u' v' : ProfileUnit) → placed u b m ≡ u' → placed v b m ≡ v' → placed (cond test u v) b m ≡ cond test u' v'
by_test true b m u v u' v' p q = p
by_test false b m u v u' v' p q = q

placed_in : (rows : List UnitRow) (code a n b m : ℕ) → placed (unit_in rows code a n) b m ≡ unit_in rows code b m
placed_in [] code a n b m = refl
placed_in (r ∷ rows) code a n b m =
    by_test (leb r.first code && leb code r.last) b m _ _ _ _ refl (placed_in rows code a n b m)

pub placed_coded : (vif code a n b m : ℕ) → placed (coded_unit vif code a n) b m ≡ coded_unit vif code b m
placed_coded vif code a n b m =
    by_test (eqb vif 0xfb) b m _ _ _ _ (placed_in after_fb code a n b m)
    (by_test (eqb vif 0xfd) b m _ _ _ _ (placed_in after_fd code a n b m) (placed_in primary (vif % 128) a n b m))

other_vif : (test other : Bool) (u v w : ProfileUnit) → (test || other) ≡ false → cond test u (cond other v w) ≡ w
other_vif true other u v w e = absurd cc
other_vif false true u v w e = absurd cc
other_vif false false u v w e = refl

-- a VIF that announces no code, by its seven bits
pub primary_coded : (vif code a n b m : ℕ) → (eqb vif 0xfb || eqb vif 0xfd) ≡ false
    → placed (coded_unit (vif % 128) 0 a n) b m ≡ coded_unit vif code b m
primary_coded vif code a n b m e =
    let low : vif % 128 < 128 = omega arith in
    let own : (eqb (vif % 128) 0xfb || eqb (vif % 128) 0xfd) ≡ false =
    rw (ne_eqb (vif % 128) 0xfb (λ is. omega (arith, is, low)), ne_eqb (vif % 128) 0xfd (λ is. omega (arith, is, low))) refl in
    let same : vif % 128 % 128 ≡ vif % 128 = omega arith in
    placed_coded (vif % 128) 0 a n b m
    ∙ other_vif (eqb (vif % 128) 0xfb) (eqb (vif % 128) 0xfd) _ _ _ own
    ∙ ap (λ (c : ℕ). unit_in primary c b m) same
    ∙ sym (other_vif (eqb vif 0xfb) (eqb vif 0xfd) _ _ _ e)

-- ---- the unit of a span that isn't of manufacturer data

record_unit : (maker test other : Bool) (s u v w w' : ProfileUnit) → maker ≡ false → (test || other) ≡ true
    → cond test u (cond other v w') ≡ cond maker s (cond test u (cond other v w))
record_unit true test other s u v w w' e f = absurd cc
record_unit false true other s u v w w' e f = refl
record_unit false false true s u v w w' e f = refl
record_unit false false false s u v w w' e f = absurd cc

pub coded_is : (bytes : List ℕ) (span : RecordSpan) → span.maker ≡ false → (eqb span.vif 0xfb || eqb span.vif 0xfd) ≡ true
    → coded_unit span.vif (slice_index bytes span.vifes_at % 128) (span.vifes_at + 1) (span.vifes - 1) ≡ unit bytes span
coded_is bytes span not_maker e = record_unit span.maker (eqb span.vif 0xfb) (eqb span.vif 0xfd) _ _ _ _ _ not_maker e

pub plain_is : (bytes : List ℕ) (span : RecordSpan) → span.maker ≡ false → (eqb span.vif 0xfb || eqb span.vif 0xfd) ≡ false
    → coded_unit span.vif 0 span.vifes_at span.vifes ≡ unit bytes span
plain_is bytes span not_maker e =
    other_vif (eqb span.vif 0xfb) (eqb span.vif 0xfd) _ _ _ e
    ∙ sym (cond-false span.maker _ _ not_maker ∙ other_vif (eqb span.vif 0xfb) (eqb span.vif 0xfd) _ _ _ e)

-- ---- long spans, and the others

pub long_is : (lvar : ℕ) → 240 ≤ lvar → is_long (Some lvar) ≡ true
long_is lvar le = ap not (le-ltb lvar 240 le)

pub not_long_span : (bytes : List ℕ) (span : RecordSpan) → IsFullSpan bytes span → is_long span.lvar ≡ false → IsSpanOf bytes span
not_long_span bytes span (inl s) e = s
not_long_span bytes span (inr s) e =
    absurd (both_ways (is_long span.lvar) e (ap is_long (long_lvar bytes span s) ∙ long_is s.lvar (long_lvar_from bytes span s)))

pub long_span_maker : (bytes : List ℕ) (span : RecordSpan) → IsFullSpan bytes span → is_long span.lvar ≡ true → span.maker ≡ false
long_span_maker bytes span (inl (inl s)) e = ap (λ (x : RecordSpan). x.maker) s.places
long_span_maker bytes span (inl (inr s)) e =
    absurd (both_ways (is_long span.lvar) (ap (λ (x : RecordSpan). is_long x.lvar) s.places) e)
long_span_maker bytes span (inr s) e = long_not_maker bytes span s

-- ---- the record without data that has a code

abbrev pub bare_span : ℕ → ℕ → ℕ → RecordSpan
bare_span vif vifes_at vifes =
    record {
      start = 0;
      end = vifes_at + vifes;
      maker = false;
      dif = 0;
      function = 0;
      storage = 0;
      tariff = 0;
      subunit = 0;
      vif = vif;
      text_at = vifes_at;
      text_len = 0;
      vifes_at = vifes_at;
      vifes = vifes;
      lvar = None;
      data_at = vifes_at + vifes;
      data_len = 0;
    }

abbrev bare_record : ℕ → List ℕ → List ℕ → DataRecord
bare_record vif text vifes =
    record {
      dib = record { dif = 0; difes = [] };
      vib = record { vif = vif; text = text; vifes = vifes };
      contents = record { lvar = None; sent = [] };
    }

no_text : (vif : ℕ) → (eqb vif 0xfb || eqb vif 0xfd) ≡ true → vif % 128 ≡ 0x7c → ⊥
no_text vif e = grind (arith, nat_tests)

top_bit : (vif : ℕ) → (eqb vif 0xfb || eqb vif 0xfd) ≡ true → 128 ≤ vif
top_bit vif e = grind (arith, nat_tests)

pub extended_span : (vif code : ℕ) (span : RecordSpan) → (eqb vif 0xfb || eqb vif 0xfd) ≡ true → code < 128 → span ≡ bare_span vif 2 1
    → IsSpanOf (0 ∷ vif ∷ code ∷ []) span
extended_span vif code span e last is =
    subst (λ (s : RecordSpan). IsSpanOf (0 ∷ vif ∷ code ∷ []) s) (sym is) (inl (record {
      found = bare_record vif [] (code ∷ []);
      is_record = record {
        difes = omega arith;
        few_difes = omega arith;
        text = no_text vif e;
        vifes = (top_bit vif e, last);
        few_vifes = omega arith;
        sent = refl;
      };
      rest = [];
      spelled = refl;
      places = refl;
    }))

pub extended_is : (vif code : ℕ) → (eqb vif 0xfb || eqb vif 0xfd) ≡ true → code < 128
    → unit (0 ∷ vif ∷ code ∷ []) (bare_span vif 2 1) ≡ coded_unit vif code 3 0
extended_is vif code e last =
    let low : code % 128 ≡ code = omega (arith, last) in
    ap (λ (x : ℕ). cond (eqb vif 0xfb) (unit_in after_fb x 3 0) (cond (eqb vif 0xfd) (unit_in after_fd x 3 0) (unit_in primary (vif % 128) 2 1))) low
    ∙ sym (record_unit false (eqb vif 0xfb) (eqb vif 0xfd) (unit_in primary (vif % 128) 2 1) _ _ (unit_in primary (vif % 128) 2 1) _ refl e)

pub text_span : (span : RecordSpan) → span ≡ bare_span 0x7c 3 0 → IsSpanOf (0 ∷ 0x7c ∷ 0 ∷ []) span
text_span span is =
    subst (λ (s : RecordSpan). IsSpanOf (0 ∷ 0x7c ∷ 0 ∷ []) s) (sym is) (inl (record {
      found = bare_record 0x7c (0 ∷ []) [];
      is_record = record {
        difes = omega arith;
        few_difes = omega arith;
        text = (refl, refl);
        vifes = omega arith;
        few_vifes = omega arith;
        sent = refl;
      };
      rest = [];
      spelled = refl;
      places = refl;
    }))

pub primary_span : (code : ℕ) (span : RecordSpan) → code < 128 → (code ≡ 0x7c → ⊥) → span ≡ bare_span code 2 0
    → IsSpanOf (0 ∷ code ∷ []) span
primary_span code span last other is =
    subst (λ (s : RecordSpan). IsSpanOf (0 ∷ code ∷ []) s) (sym is) (inl (record {
      found = bare_record code [] [];
      is_record = record {
        difes = omega arith;
        few_difes = omega arith;
        text = λ e. other (omega (arith, e, last));
        vifes = last;
        few_vifes = omega arith;
        sent = refl;
      };
      rest = [];
      spelled = refl;
      places = refl;
    }))

pub primary_is : (code : ℕ) → code < 128 → unit (0 ∷ code ∷ []) (bare_span code 2 0) ≡ coded_unit code 0 2 0
primary_is code last =
    let own : (eqb code 0xfb || eqb code 0xfd) ≡ false =
    rw (ne_eqb code 0xfb (λ is. omega (arith, is, last)), ne_eqb code 0xfd (λ is. omega (arith, is, last))) refl in
    other_vif (eqb code 0xfb) (eqb code 0xfd) _ _ _ own ∙ sym (other_vif (eqb code 0xfb) (eqb code 0xfd) _ _ _ own)
