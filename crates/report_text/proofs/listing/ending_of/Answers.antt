use Rattle.std.proofs.Common.{◌≡◌, true, false, refl, sym, ap, ◌∙◌, subst, IfSome, Ok, Err, Some, None, arith}
use Rattle.dif_vif.specs.Spans.{LiesWithin}
use Rattle.dif_vif.specs.Reading.{next_of}
use Rattle.dif_vif.proofs.Listed.{spans_done, spans_stopped}
use Rattle.report_text.specs.Readings.{more_behind}
use Rattle.report_text.proofs.ListedEnds.{at_first, none_is_few, none_is_all, one_passed, is_end, spans_full}
use Rattle.report_text.proofs.listing.ending_of.Goals as goal

pub records-init : goal.records-init
records-init c = at_first c.args.payload.now

pub records-preserved : goal.records-preserved
records-preserved c =
    let payload = c.args.payload.now in
    let is : next_of payload c.records.from ≡ Ok (Some c.in-Ok-Some.span) = sym c.in-Ok-Some.ensures.exact
    ∙ ap Ok c.in-Ok-Some.field-0-is in
    let within : LiesWithin payload c.in-Ok-Some.span =
    subst (λ next. IfSome next (LiesWithin payload)) c.in-Ok-Some.field-0-is c.in-Ok-Some.ensures.within in
    one_passed payload c.records.from c.records.left c.in-Ok-Some.span c.records.invariant
    (omega (arith, c.records-test.true)) is within.within

pub returns-in-Ok-None : goal.returns-in-Ok-None
returns-in-Ok-None c =
    let payload = c.args.payload.now in
    let is : next_of payload c.records.from ≡ Ok None = sym c.in-Ok-None.ensures.exact ∙ ap Ok c.in-Ok-None.field-0-is in
    let ends = is_end payload c.records.from c.records.left false (Ok None) c.records.invariant
    (spans_done c.records.left payload c.records.from is) (none_is_few c.records.left (omega (arith, c.records-test.true))) is in
    record { fault = c.ended_by.ensures.fault ∙ ends.fault_is; more = c.ended_by.ensures.more ∙ ends.more_is }

pub returns-in-Err : goal.returns-in-Err
returns-in-Err c =
    let payload = c.args.payload.now in
    let is : next_of payload c.records.from ≡ Err c.in-Err.fault = sym c.in-Err.ensures.exact in
    let ends = is_end payload c.records.from c.records.left false (Err c.in-Err.fault) c.records.invariant
    (spans_stopped c.records.left payload c.records.from c.in-Err.fault is)
    (none_is_few c.records.left (omega (arith, c.records-test.true))) is in
    record { fault = c.ended_by-in-Err.ensures.fault ∙ ends.fault_is; more = c.ended_by-in-Err.ensures.more ∙ ends.more_is }

pub returns : goal.returns
returns c =
    let none : c.records.left ≡ 0 = omega (arith, c.records-test.false) in
    let ends = is_end c.args.payload.now c.records.from c.records.left true _ c.records.invariant
    (spans_full c.records.left c.args.payload.now c.records.from none) (none_is_all c.records.left none) refl in
    record { fault = ends.fault_is; more = c.follows.ensures ∙ ap (more_behind true) c.next_record-2.ensures.exact ∙ ends.more_is }
