-- What is found of the rows that are kept holds of the rows that the edits leave.
use Rattle.std.proofs.Common.{rules, ◌∙◌, ap}
use Rattle.usage_totals.specs.Amounts.{row_of}
use Rattle.usage_totals.specs.Table.{replaced}
use Rattle.usage_totals.specs.Edits.{replacement}
use Rattle.usage_totals.proofs.Edited.{replaced_stands, ok_at, err_at}
use Rattle.usage_totals.proofs.Accepted.{accepted_by, place_fault_stands, refused_by, none_there}
use Rattle.usage_totals.proofs.totals.Totals.replace.Goals as goal
use Rattle.usage_totals.proofs.totals.Totals.replace.Goals.{in-Ok, in-Err}

pub returns-in-Some : goal.returns-in-Some
returns-in-Some c =
    refused_by (replacement c.args.address c.args.place c.args.payload.now) c.args.self.now _ c.in-Some.fault
    (place_fault_stands c.args.address c.args.place c.place_fault.ensures c.self.view_is) c.in-Some.is

pub returns : goal.returns
returns c = record {
  accepted = elim c.match-replace_row.branch [
    | in-Ok w ↦ ok_at c.match-replace_row.result (λ edits s.
        accepted_by (replacement c.args.address c.args.place c.args.payload.now) _ _
        (replaced_stands c.replace_row.new.meters.entries c.args.self.now c.args.address c.args.place c.args.payload.now
        (w.in-Ok.ensures.ok ∙ ap (λ t. replaced t c.args.address c.args.place (row_of c.args.payload.now)) c.self.view_is)) edits s)
    | in-Err w ↦ err_at _ c.match-replace_row.result _ w.result-is
  ];
  unchanged = search rules;
  refused = λ edits fault s there.
      none_there (place_fault_stands c.args.address c.args.place c.place_fault.ensures c.self.view_is edits s) c.in_default.is there;
  caused = λ edits s. search rules;
}
