-- A report of parts.
use Rattle.std.proofs.Common.{◌≡◌, ◌∙◌, ap, map}
use Rattle.std.specs.Prelude.{ℕ, List}
use Rattle.std.specs.List.{flat_map}
use Rattle.std.proofs.lemmas.List.Folds.{flat_map-map}
use Rattle.meter_slots.specs.Journal.{SlotView}
use Rattle.stranger_ring.specs.declared.strangers.Heard.{Heard}
use Rattle.report_text.specs.declared.lent.ReceiverEnd.{ReceiverEnd}
use Rattle.report_text.specs.Report.{meter_text, report_around, report_text}

-- a report of the slots' parts is the report
pub report_is : (ends : List ReceiverEnd) (parts : List (List ℕ)) (slots : List SlotView) (heard : List Heard)
    → parts ≡ map meter_text slots
    → report_around ends (flat_map (λ part. part) parts) heard ≡ report_text ends slots heard
unfolding report_text
report_is ends parts slots heard are =
    ap (λ meters. report_around ends meters heard) (ap (flat_map (λ part. part)) are ∙ flat_map-map (λ part. part) meter_text slots)
