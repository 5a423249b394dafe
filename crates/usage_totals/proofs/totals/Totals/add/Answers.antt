-- What is found of the rows that are kept holds of the rows that the edits leave.
use Rattle.std.proofs.Common.{rules, ◌∙◌, ap}
use Rattle.usage_totals.specs.Amounts.{row_of}
use Rattle.usage_totals.specs.Table.{added}
use Rattle.usage_totals.specs.Edits.{addition}
use Rattle.usage_totals.proofs.Edited.{added_stands, ok_at, err_at}
use Rattle.usage_totals.proofs.Accepted.{accepted_by, add_fault_stands, refused_by, none_there}
use Rattle.usage_totals.proofs.totals.Totals.add.Goals as goal
use Rattle.usage_totals.proofs.totals.Totals.add.Goals.{in-Ok, in-Err}

pub returns-in-Some : goal.returns-in-Some
returns-in-Some c =
    refused_by (addition c.args.address c.args.payload.now) c.args.self.now _ c.in-Some.fault
    (add_fault_stands c.args.address c.add_fault.ensures c.self.view_is) c.in-Some.is

pub returns : goal.returns
returns c = record {
  accepted = elim c.match-add_row.branch [
    | in-Ok w ↦ ok_at c.match-add_row.result (λ edits s.
        accepted_by (addition c.args.address c.args.payload.now) _ _ (added_stands c.add_row.new.meters.entries c.args.self.now
        c.args.address c.args.payload.now
        (w.in-Ok.ensures.ok ∙ ap (λ t. added t c.args.address (row_of c.args.payload.now)) c.self.view_is)) edits s)
    | in-Err w ↦ err_at _ c.match-add_row.result _ w.result-is
  ];
  unchanged = search rules;
  refused = λ edits fault s there.
      none_there (add_fault_stands c.args.address c.add_fault.ensures c.self.view_is edits s) c.in_default.is there;
  caused = λ edits s. search rules;
}
