-- What is found of the rows that are kept holds of the rows that the edits leave.
use Rattle.std.proofs.Common.{rules, ◌∙◌, ap}
use Rattle.usage_totals.specs.Table.{removed}
use Rattle.usage_totals.specs.Edits.{removal}
use Rattle.usage_totals.proofs.Edited.{removed_stands}
use Rattle.usage_totals.proofs.Accepted.{accepted_by, place_fault_stands, refused_by, none_there}
use Rattle.usage_totals.proofs.totals.Totals.remove.Goals as goal

pub returns-in-Some-clause-answered : goal.returns-in-Some-clause-answered
returns-in-Some-clause-answered c =
    refused_by (removal c.args.address c.args.place) c.args.self.now _ c.in-Some.fault
    (place_fault_stands c.args.address c.args.place c.place_fault.ensures c.self.view_is) c.in-Some.is

pub returns-clause-answered : goal.returns-clause-answered
returns-clause-answered c = record {
  accepted = λ edits s.
      accepted_by (removal c.args.address c.args.place) _ _ (removed_stands c.remove_row.new.meters.entries c.args.self.now
      c.args.address c.args.place (c.remove_row.ensures.removed ∙ ap (λ t. removed t c.args.address c.args.place) c.self.view_is)) edits s;
  unchanged = search rules;
  refused = λ edits fault s there.
      none_there (place_fault_stands c.args.address c.args.place c.place_fault.ensures c.self.view_is edits s) c.in_default.is there;
  caused = λ edits s. search rules;
}
