-- The value of a span before any qualifier, and the profile's.
use Rattle.std.proofs.Common.{◌≡◌, ℕ, ◌%◌, Bool, true, false, cond, List, length, drop, Some, refl, sym, ap, subst, ◌∙◌, arith, length-take, length-drop}
use Rattle.std.proofs.lemmas.Bool.{cond-true, cond-false}
use Rattle.dif_vif.specs.declared.span.RecordSpan.{RecordSpan}
use Rattle.dif_vif.specs.Spans.{IsSpanOf}
use Rattle.dif_vif.specs.Spelling.{data_width}
use Rattle.dif_vif.proofs.Spans.{LiesWithin-from_span, width_of_span}
use Rattle.record_values.specs.declared.units.Quantity.TheVariants.{Unknown, ErrorFlags}
use Rattle.record_values.specs.declared.units.Unit.{Unit as ProfileUnit}
use Rattle.record_values.specs.Units.{unit}
use Rattle.record_values.specs.Values.{data_of, value, reading_of, value_as as profile_value, unread as profile_unread}
use Rattle.full_records.specs.declared.quantities.Measure.{Measure}
use Rattle.full_records.specs.Measures.{as_profile, code_behind, measure, rows_behind}
use Rattle.full_records.specs.Readings.{reading, data_type, profile_kind}
use Rattle.full_records.specs.Values.{unread, is_long, long_value, value_as}
use Rattle.full_records.specs.Records.{Agrees, plain_value, unqualified_value}
use Rattle.full_records.proofs.WideLvars.{short_data}
use Rattle.full_records.proofs.Agreeing.{measured_is, unread_agrees, value_agrees}

-- as many bytes of data as the span says
pub length-data_of : (bytes : List ℕ) (span : RecordSpan) → IsSpanOf bytes span → length (data_of bytes span) ≡ span.data_len
length-data_of bytes span is =
    let places = LiesWithin-from_span bytes span is in
    omega (arith, length-take span.data_len (drop span.data_at bytes), length-drop span.data_at bytes, places.ends, places.within)

pub width_of_data : (bytes : List ℕ) (span : RecordSpan) → IsSpanOf bytes span → span.maker ≡ false
    → data_width span.dif span.lvar ≡ Some (length (data_of bytes span))
width_of_data bytes span is not_maker =
    width_of_span bytes span is not_maker ∙ ap (λ n. Some n) (sym (length-data_of bytes span is))

plain_by : (maker : Bool) (bytes : List ℕ) (span : RecordSpan) → span.maker ≡ maker → IsSpanOf bytes span
    → ((unit bytes span).quantity ≡ Unknown → ⊥) → ((unit bytes span).quantity ≡ ErrorFlags → ⊥)
    → Agrees (value bytes span) (unit bytes span).exponent
    (cond maker (unread (data_of bytes span))
    (cond (is_long span.lvar)
    (long_value (data_type (profile_kind (unit bytes span).quantity) (span.dif % 16) span.lvar) (data_of bytes span))
    (value_as (data_type (profile_kind (unit bytes span).quantity) (span.dif % 16) span.lvar) (unit bytes span).exponent (span.dif % 16) span.lvar
    (data_of bytes span))))
plain_by true bytes span maker is named other =
    let raw : value bytes span ≡ profile_unread (data_of bytes span) =
    ap (λ (u : ProfileUnit). profile_value (reading_of u.quantity) (span.dif % 16) span.lvar (data_of bytes span)) (cond-true span.maker _ _ maker) in
    subst (λ v. Agrees v (unit bytes span).exponent (unread (data_of bytes span))) (sym raw)
    (unread_agrees (data_of bytes span) (unit bytes span).exponent)
plain_by false bytes span maker is named other =
    subst (λ v. Agrees (value bytes span) (unit bytes span).exponent v)
    (sym (cond-false (is_long span.lvar) _ _ (short_data span.dif _ span.lvar (width_of_span bytes span is maker))))
    (value_agrees (unit bytes span).quantity span.dif span.lvar (data_of bytes span) (unit bytes span).exponent named other
    (width_of_data bytes span is maker))

pub unqualified_agrees : (bytes : List ℕ) (span : RecordSpan) → IsSpanOf bytes span → ((unit bytes span).quantity ≡ Unknown → ⊥)
    → ((unit bytes span).quantity ≡ ErrorFlags → ⊥) → Agrees (value bytes span) (unit bytes span).exponent (unqualified_value bytes span)
unqualified_agrees bytes span is named other =
    let same : measure bytes span ≡ as_profile (unit bytes span) =
    measured_is (unit bytes span) (rows_behind span.vif) (code_behind bytes span) named in
    subst (λ (m : Measure). Agrees (value bytes span) (unit bytes span).exponent
    (plain_value bytes span (data_type (reading m).kind (span.dif % 16) span.lvar) (reading m).exponent)) (sym same)
    (plain_by span.maker bytes span refl is named other)
