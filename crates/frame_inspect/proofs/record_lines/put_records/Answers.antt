use Rattle.std.proofs.Common.{◌≡◌, ◌+◌, sym, ap, ◌∙◌, subst, IfSome, Ok, Err, Some, None, arith}
use Rattle.dif_vif.specs.Spans.{LiesWithin}
use Rattle.paper.proofs.Calls.{none, then}
use Rattle.paper.proofs.Items.{is_put}
use Rattle.frame_inspect.specs.RecordLines.{records_from}
use Rattle.frame_inspect.proofs.RecordsPut.{next_put}
use Rattle.frame_inspect.proofs.record_lines.put_records.Goals as goal

pub returns-in-Err : goal.returns-in-Err
returns-in-Err g c =
    c.records.invariant.text _ (next_put c.records.left c.args.payload.now _ c.records.from (Err c.in-Err.fault)
    (omega (arith, c.records-test.true)) (sym c.in-Err.ensures.exact) c.put_fault.ensures)

pub returns-in-Ok-None : goal.returns-in-Ok-None
returns-in-Ok-None g c =
    c.records.invariant.text _ (next_put c.records.left c.args.payload.now _ c.records.from (Ok None) (omega (arith, c.records-test.true))
    (sym c.in-Ok-None.ensures.exact ∙ ap Ok c.in-Ok-None.field-0-is) none)

pub records-preserved : goal.records-preserved
records-preserved g c =
    let within : LiesWithin c.args.payload.now c.in-Ok-Some.span =
    subst (λ next. IfSome next (LiesWithin c.args.payload.now)) c.in-Ok-Some.field-0-is c.in-Ok-Some.ensures.within in
    record {
      within = within.within;
      counted = omega arith;
      text = λ q later. c.records.invariant.text q
          (next_put c.records.left c.args.payload.now _ c.records.from (Ok (Some c.in-Ok-Some.span)) (omega (arith, c.records-test.true))
          (sym c.in-Ok-Some.ensures.exact ∙ ap Ok c.in-Ok-Some.field-0-is) (then c.put_record.ensures later));
    }

pub returns : goal.returns
unfolding records_from
returns g c =
    let nothing : c.records.left ≡ 0 = omega (arith, c.records-test.false) in
    c.records.invariant.text _ (is_put _ _ (ap (λ n. records_from n c.args.payload.now (c.records.listed + 1) c.records.from) nothing) none)
