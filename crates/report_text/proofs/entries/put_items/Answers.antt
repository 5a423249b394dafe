use Rattle.std.proofs.Common.{◌≡◌, ◌-◌, ◌<◌, map, sym, ap, ◌∙◌, subst, IfSome, Ok, Some, None, arith}
use Rattle.serde_json.specs.View.{items_of}
use Rattle.serde_json.specs.Written.{items_text}
use Rattle.paper.proofs.Items.{is_put}
use Rattle.dif_vif.specs.Listing.{spans_from}
use Rattle.dif_vif.specs.Spans.{LiesWithin}
use Rattle.dif_vif.specs.Reading.{next_of}
use Rattle.dif_vif.proofs.Listed.{spans_done, spans_stopped}
use Rattle.report_text.specs.Readings.{span_tree}
use Rattle.report_text.proofs.ListedEnds.{spans_more, spans_full}
use Rattle.report_text.proofs.MembersPut.{item_put}
use Rattle.report_text.proofs.entries.put_items.Goals as goal

pub records-preserved : goal.records-preserved
records-preserved g c =
    let payload = c.args.payload.now in
    let some : 0 < c.records.left = omega (arith, c.records-test.true) in
    let is : next_of payload c.records.from ≡ Ok (Some c.in-Ok-Some.span) = sym c.in-Ok-Some.ensures.exact
    ∙ ap Ok c.in-Ok-Some.field-0-is in
    let within : LiesWithin payload c.in-Ok-Some.span =
    subst (λ next. IfSome next (LiesWithin payload)) c.in-Ok-Some.field-0-is c.in-Ok-Some.ensures.within in
    let rest_of = items_of (map (span_tree payload) (spans_from (c.records.left - 1) payload c.in-Ok-Some.span.end)) in (
      within.within,
      λ q rest. c.records.invariant.1 q (is_put _ _
          (ap (λ spans. items_text c.records.later (items_of (map (span_tree payload) spans)))
          (spans_more c.records.left payload c.records.from c.in-Ok-Some.span some is))
          (item_put c.records.later (span_tree payload c.in-Ok-Some.span) rest_of c.put_comma.ensures c.put_span.ensures rest)),
    )

pub returns-in-Ok-None : goal.returns-in-Ok-None
returns-in-Ok-None g c =
    let payload = c.args.payload.now in
    let is : next_of payload c.records.from ≡ Ok None = sym c.in-Ok-None.ensures.exact ∙ ap Ok c.in-Ok-None.field-0-is in
    c.records.invariant.1 _ (is_put _ _ (ap (λ spans. items_text c.records.later (items_of (map (span_tree payload) spans)))
    (spans_done c.records.left payload c.records.from is)) c.put_text.ensures)

pub returns-in-Err : goal.returns-in-Err
returns-in-Err g c =
    let payload = c.args.payload.now in
    c.records.invariant.1 _ (is_put _ _ (ap (λ spans. items_text c.records.later (items_of (map (span_tree payload) spans)))
    (spans_stopped c.records.left payload c.records.from c.in-Err.field-0 (sym c.in-Err.ensures.exact))) c.put_text-in-Err.ensures)

pub returns : goal.returns
returns g c =
    let payload = c.args.payload.now in
    c.records.invariant.1 _ (is_put _ _ (ap (λ spans. items_text c.records.later (items_of (map (span_tree payload) spans)))
    (spans_full c.records.left payload c.records.from (omega (arith, c.records-test.false)))) c.put_text-2.ensures)
