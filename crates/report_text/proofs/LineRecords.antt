-- The lines of records, which belong to no list of steps.
use Rattle.std.proofs.Common.{ℕ, ℤ, zero, suc, Bool, true, false, cond, List, [], ◌∷◌, Option, Some, None, Result, Ok, Err, refl}
use Rattle.std.specs.Prelude.{codes}
use Rattle.dif_vif.specs.declared.fault.RecordFault.{RecordFault}
use Rattle.dif_vif.specs.declared.fault.RecordFault.TheVariants.{Truncated}
use Rattle.dif_vif.specs.declared.span.RecordSpan.{RecordSpan}
use Rattle.dif_vif.specs.Reading.{next_of}
use Rattle.record_values.specs.declared.units.Quantity.{Quantity}
use Rattle.record_values.specs.declared.units.UnitName.{UnitName}
use Rattle.record_values.specs.declared.values.Value.{Value}
use Rattle.record_values.specs.Units.{unit}
use Rattle.record_values.specs.Values.{value}
use Rattle.record_text.specs.Lines.{bytes_at, place_text, data_text, record_line, maker_line, span_line, fault_text, fault_line}
use Rattle.record_text.specs.RecordText.{more_text, next_text, listed, records_text}
use Rattle.record_text.specs.Pieces.{register_text, unit_text}
use Rattle.report_text.proofs.LineWalks.{IsWithout, ◌⌢◌, literal, Others, no_others, ◌⨟◌, one_other}
use Rattle.paper.specs.Pieces.{labelled_bytes}
use Rattle.report_text.proofs.LinePieces.{hex_or_dash, worded_bytes, pieces}
use Rattle.report_text.proofs.PlainTexts.{in_line, signed_plain, function_plain, quantity_plain, name_plain, value_plain}

-- ---- lines

register_is : (storage tariff subunit : ℕ) → IsWithout 10 (register_text storage tariff subunit)
unfolding register_text
register_is storage tariff subunit = search pieces

place_is : (span : RecordSpan) → IsWithout 10 (place_text span)
unfolding place_text
place_is span = in_line (function_plain span.function) ⌢ register_is span.storage span.tariff span.subunit

unit_is : (quantity : Quantity) (name : UnitName) (exponent : ℤ) → IsWithout 10 (unit_text quantity name exponent)
unfolding unit_text
unit_is quantity name exponent = search (pieces, in_line, quantity_plain, name_plain, signed_plain) depth 9

data_is : (modifiers : List ℕ) (v : Value) (sent : List ℕ) → IsWithout 10 (data_text modifiers v sent)
unfolding data_text
data_is modifiers v sent = search (pieces, in_line, value_plain) depth 9

record_others : (bytes : List ℕ) (span : RecordSpan) → Others (record_line bytes span)
unfolding record_line
record_others bytes span =
    let u = unit bytes span in
    one_other _ (literal (codes "record ") refl ⌢ place_is span ⌢ unit_is u.quantity u.name u.exponent
    ⌢ data_is (bytes_at bytes u.modifiers_at u.modifiers) (value bytes span) (bytes_at bytes span.data_at span.data_len)) (search)

maker_others : (bytes : List ℕ) (span : RecordSpan) → Others (maker_line bytes span)
unfolding maker_line labelled_bytes
maker_others bytes span =
    one_other _ (worded_bytes (literal (codes "maker ") refl) (span.dif ∷ []) ⌢ literal (codes " ") refl ⌢ hex_or_dash
    (bytes_at bytes span.data_at span.data_len)) (search)

one_of : (maker : Bool) {a b : List ℕ} → Others a → Others b → Others (cond maker a b)
one_of true x y = x
one_of false x y = y

span_others : (bytes : List ℕ) (span : RecordSpan) → Others (span_line bytes span)
span_others bytes span = one_of span.maker (maker_others bytes span) (record_others bytes span)

fault_is : (fault : RecordFault) → IsWithout 10 (fault_text fault)
fault_is (Truncated place) = search pieces
fault_is _ = search pieces

fault_others : (fault : RecordFault) → Others (fault_line fault)
unfolding fault_line
fault_others fault =
    one_other _ (literal (codes "fault ") refl ⌢ fault_is fault) (search)

-- ---- listings

more_line : Others (codes "more\n")
more_line = one_other (codes "more") (literal (codes "more") refl) (search)

more_others : (next : Result (Option RecordSpan) RecordFault) → Others (more_text next)
more_others (Ok None) = no_others
more_others _ = more_line

next_others : (rest : ℕ → List ℕ) → ((from : ℕ) → Others (rest from))
    → (payload : List ℕ) (next : Result (Option RecordSpan) RecordFault) → Others (next_text rest payload next)
next_others rest h payload (Ok None) = no_others
next_others rest h payload (Ok (Some span)) = span_others payload span ⨟ h span.end
next_others rest h payload (Err fault) = fault_others fault

listed_others : (n : ℕ) (payload : List ℕ) (from : ℕ) → Others (listed n payload from)
unfolding listed
listed_others zero payload from = more_others (next_of payload from)
listed_others (suc n) payload from = next_others (listed n payload) (listed_others n payload) payload (next_of payload from)

pub records_others : (payload : List ℕ) → Others (records_text payload)
records_others payload = listed_others 256 payload 0
