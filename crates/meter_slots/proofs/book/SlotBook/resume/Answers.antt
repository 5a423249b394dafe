use Rattle.meter_slots.proofs.Journals.{empty_kept}
use Rattle.meter_slots.proofs.book.SlotBook.resume.Goals as goal

pub invariant_of-result : goal.invariant_of-result
invariant_of-result c =
    let made = c.new-standing.ensures in
    rw (c.of-begun.ensures, c.new.ensures.items, c.new-2.ensures.items)
    (empty_kept c.args.start c.args.own c.new-standing.result.0 made.ready made.commission made.last made.fits made.parts made.orders, made.reading)
