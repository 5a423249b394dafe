use Rattle.std.proofs.Common.{◌≡◌, ◌-◌, ◌<◌, map, sym, ap, ◌∙◌, subst, IfSome, Ok, Some, None, arith}
use Rattle.dif_vif.specs.Listing.{spans_from}
use Rattle.dif_vif.specs.Spans.{LiesWithin}
use Rattle.dif_vif.specs.Reading.{next_of}
use Rattle.dif_vif.proofs.Listed.{spans_done, spans_stopped}
use Rattle.report_text.specs.Readings.{listed, span_tree}
use Rattle.report_text.proofs.ListedEnds.{spans_more, spans_full}
use Rattle.report_text.proofs.TreesMade.{one_made, all_made}
use Rattle.report_text.proofs.record_trees.records_value.Goals as goal

pub records-preserved : goal.records-preserved
records-preserved c =
    let payload = c.args.payload.now in
    let span = c.in-Ok-Some.span in
    let some : 0 < c.records.left = omega (arith, c.records-test.true) in
    let is : next_of payload c.records.from ≡ Ok (Some span) = sym c.in-Ok-Some.ensures.exact ∙ ap Ok c.in-Ok-Some.field-0-is in
    let within : LiesWithin payload span = subst (λ next. IfSome next (LiesWithin payload)) c.in-Ok-Some.field-0-is c.in-Ok-Some.ensures.within in (
      within.within,
      one_made (span_tree payload) (map (span_tree payload) (listed payload)) c.records.records.items c.push.new.self.items
          c.in_ok-span_value-in-Ok-Some.field-0 span (spans_from c.records.left payload c.records.from)
          (spans_from (c.records.left - 1) payload span.end) c.in_ok-push-in-Ok-Some.ensures.items c.in_ok-span_value-in-Ok-Some.ensures
          (spans_more c.records.left payload c.records.from span some is) c.records.invariant.1,
    )

pub returns-in-Ok-None : goal.returns-in-Ok-None
returns-in-Ok-None c =
    let payload = c.args.payload.now in
    let is : next_of payload c.records.from ≡ Ok None = sym c.in-Ok-None.ensures.exact ∙ ap Ok c.in-Ok-None.field-0-is in
    c.from.ensures ∙ all_made (span_tree payload) _ c.records.records.items _ (spans_done c.records.left payload c.records.from is)
    c.records.invariant.1

pub returns-in-Err : goal.returns-in-Err
returns-in-Err c =
    let payload = c.args.payload.now in
    c.from-in-Err.ensures ∙ all_made (span_tree payload) _ c.records.records.items _
    (spans_stopped c.records.left payload c.records.from c.in-Err.field-0 (sym c.in-Err.ensures.exact)) c.records.invariant.1

pub returns : goal.returns
returns c =
    let payload = c.args.payload.now in
    c.from-2.ensures ∙ all_made (span_tree payload) _ c.records.records.items _
    (spans_full c.records.left payload c.records.from (omega (arith, c.records-test.false))) c.records.invariant.1
