use Rattle.std.proofs.Common.{[]}
use Rattle.meter_slots.specs.Journal.{readings}
use Rattle.meter_slots.proofs.Journals.{empty_kept}
use Rattle.meter_slots.proofs.passing.PassingSlot.resume.Goals as goal

pub invariant_of-result : goal.invariant_of-result
unfolding readings
invariant_of-result c =
    let made = c.new-standing.ensures in
    rw c.of-begun.ensures (
      record {
        journal = [];
        keeps = empty_kept _ _ _ made.ready made.commission made.last made.fits made.parts made.orders;
      },
      made.reading,
    )

pub returns-clause-after : goal.returns-clause-after
unfolding readings
returns-clause-after c =
    let made = c.new-standing.ensures in
    rw c.of-begun.ensures (empty_kept c.args.start c.args.own c.new-standing.result.0 made.ready made.commission made.last made.fits made.parts made.orders)
