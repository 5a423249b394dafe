use Rattle.std.proofs.Common.{rules, ◌≡◌, length, Ok, Some, sym, ap, ◌∙◌, subst, IfSome}
use Rattle.dif_vif.specs.Spans.{LiesWithin}
use Rattle.dif_vif.specs.Reading.{next_of}
use Rattle.dif_vif.proofs.Listed.{spans_done, spans_stopped}
use Rattle.usage_totals.specs.Amounts.{row_of, noted_if, AreSmall}
use Rattle.usage_totals.proofs.Records.{noted_from, noted_here, all_noted}
use Rattle.usage_totals.proofs.Small.{row_small}
use Rattle.usage_totals.proofs.amounts.Amounts.of_payload.Goals as goal
use Rattle.usage_totals.proofs.amounts.Amounts.of_payload.Goals.{in-Err, in-Ok-None}

pub records-init : goal.records-init
unfolding noted_from row_of
records-init c = record { within = search rules; noted = ap (noted_from c.args.payload.now 0) c.new-entries.ensures.empty }

pub records-preserved : goal.records-preserved
records-preserved c =
    let is : next_of c.args.payload.now c.records.from ≡ Ok (Some c.in-Ok-Some.span) = sym c.in-Ok-Some.ensures.exact
    ∙ ap Ok c.in-Ok-Some.field-0-is in
    let within : LiesWithin c.args.payload.now c.in-Ok-Some.span = subst (λ next. IfSome next (LiesWithin c.args.payload.now))
    c.in-Ok-Some.field-0-is c.in-Ok-Some.ensures.within in
    record {
      within = within.within;
      noted =
          ap (noted_from c.args.payload.now c.in-Ok-Some.span.end)
          (c.in_ok-note-in-Ok-Some.ensures ∙ ap (noted_if c.records.entries.entries) c.given.ensures)
          ∙ sym (noted_here c.args.payload.now c.records.from c.in-Ok-Some.span c.records.entries.entries c.records.invariant.within is)
          ∙ c.records.invariant.noted;
    }

pub returns : goal.returns
returns c =
    elim c.match-next_record.branch [
      | in-Err w ↦ all_noted c.args.payload.now c.records.from (spans_stopped (length c.args.payload.now) c.args.payload.now c.records.from
          w.in-Err._fault (sym w.in-Err.ensures.exact)) c.records.invariant.noted
      | in-Ok-None w ↦ all_noted c.args.payload.now c.records.from (spans_done (length c.args.payload.now) c.args.payload.now c.records.from
          (sym w.in-Ok-None.ensures.exact ∙ ap Ok w.in-Ok-None.field-0-is)) c.records.invariant.noted
    ]

pub invariant_of-result : goal.invariant_of-result
invariant_of-result c =
    elim c.match-next_record.branch [
      | in-Err w ↦ subst AreSmall (sym (all_noted c.args.payload.now c.records.from (spans_stopped (length c.args.payload.now)
          c.args.payload.now c.records.from w.in-Err._fault (sym w.in-Err.ensures.exact)) c.records.invariant.noted)) (row_small c.args.payload.now)
      | in-Ok-None w ↦ subst AreSmall (sym (all_noted c.args.payload.now c.records.from (spans_done (length c.args.payload.now)
          c.args.payload.now c.records.from (sym w.in-Ok-None.ensures.exact ∙ ap Ok w.in-Ok-None.field-0-is)) c.records.invariant.noted))
          (row_small c.args.payload.now)
    ]
