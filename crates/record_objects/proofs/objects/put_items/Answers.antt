-- Up to the first fault each record stands behind those before it.
use Rattle.std.proofs.Common.{◌≡◌, ◌<◌, sym, ap, ◌∙◌, subst, IfSome, Ok, Err, Some, None, arith}
use Rattle.dif_vif.specs.Spans.{LiesWithin}
use Rattle.full_spans.specs.Listing.{full_spans_from}
use Rattle.full_spans.specs.Walk.{next_full_of}
use Rattle.record_objects.specs.Records.{fault_from}
use Rattle.record_objects.proofs.RecordsPut.{spans_next, fault_next, line_more, lines_end}
use Rattle.record_objects.proofs.objects.put_items.Goals as goal

pub returns-in-Err : goal.returns-in-Err
returns-in-Err g c =
    let some : 0 < c.records.left = omega (arith, c.records-test.true) in
    let is : next_full_of c.args.payload.now c.records.from ≡ Err c.in-Err.fault =
    sym c.in-Err.ensures.exact in
    record {
      text = c.records.invariant.text _ (lines_end _ c.records.left _ c.records.from _ (spans_next c.records.left _ c.records.from _ some is));
      fault = sym (fault_next c.records.left _ c.records.from _ some is) ∙ c.records.invariant.fault;
    }

pub returns-in-Ok-None : goal.returns-in-Ok-None
returns-in-Ok-None g c =
    let some : 0 < c.records.left = omega (arith, c.records-test.true) in
    let is : next_full_of c.args.payload.now c.records.from ≡ Ok None =
    sym c.in-Ok-None.ensures.exact
    ∙ ap Ok c.in-Ok-None.field-0-is in
    record {
      text = c.records.invariant.text _ (lines_end _ c.records.left _ c.records.from _ (spans_next c.records.left _ c.records.from _ some is));
      fault = sym (fault_next c.records.left _ c.records.from _ some is) ∙ c.records.invariant.fault;
    }

pub records-preserved : goal.records-preserved
records-preserved g c =
    let some : 0 < c.records.left = omega (arith, c.records-test.true) in
    let is : next_full_of c.args.payload.now c.records.from ≡ Ok (Some c.in-Ok-Some.span) =
    sym c.in-Ok-Some.ensures.exact
    ∙ ap Ok c.in-Ok-Some.field-0-is in
    let within : LiesWithin c.args.payload.now c.in-Ok-Some.span =
    subst (λ next. IfSome next (LiesWithin c.args.payload.now)) c.in-Ok-Some.field-0-is c.in-Ok-Some.ensures.within in
    record {
      within = within.within;
      counted = omega arith;
      fault = sym (fault_next c.records.left _ c.records.from _ some is) ∙ c.records.invariant.fault;
      text = λ q later. c.records.invariant.text q
          (line_more _ c.records.left _ c.records.from c.in-Ok-Some.span _ some is c.put_item.ensures later);
    }

pub returns : goal.returns
unfolding full_spans_from fault_from
returns g c =
    let none : c.records.left ≡ 0 = omega (arith, c.records-test.false) in
    record {
      text = c.records.invariant.text _
          (lines_end _ c.records.left _ c.records.from _ (ap (λ n. full_spans_from n c.args.payload.now c.records.from) none));
      fault = sym (ap (λ n. fault_from n c.args.payload.now c.records.from) none) ∙ c.records.invariant.fault;
    }
