use denote.Param.Send.{sendable}
use Rattle.std.proofs.Crossing.{crosses}
use Rattle.std.proofs.Common.{rules, List, map, subst, sym}
use Rattle.meter_address.specs.declared.address.Address.{Address}
use Rattle.meter_slots.specs.declared.entry.Event.{Event}
use Rattle.meter_slots.specs.declared.entry.Outcome.{Outcome}
use Rattle.meter_slots.specs.Journal.{SlotView}
use Rattle.book_cells.specs.Acts.{Shown}
use Rattle.meter_slots.specs.Acting.{opening_of, act_of, IsLegalJournal}
use Rattle.receivers.specs.Roots.{CanCloseAll, AreLeft}
use Rattle.receivers.specs.Run.{receiver_runs}
use Rattle.receivers.proofs.Collecting.{HaveRunOn, have_run_on, can_close_all, whole, collected}
use Rattle.meter_slots.proofs.Crossing.{slot_send}
use Rattle.receivers.proofs.session.collect_over.Goals as goal

pub close_each-requires : goal.close_each-requires
close_each-requires g c =
    let of = c.in_ok-run_cells.ensures.roots.0 in let many = of.as_many in let before = c.requires.cells.each_cell.as_many in
    let on = have_run_on _ _ _ _ _ _ _ c.as_slice.ensures.value c.in_ok-run_cells.ensures.roots c.in_ok-run_cells.ensures.run in
    subst (CanCloseAll c.args.fresh.cells.items)
    (sym (whole c.args.fresh.roots.len c.run_cells.new.roots c.args.fresh.roots.items (search rules) (search rules)))
    (can_close_all _ _ _ _ _ _ on).0

pub close-requires-clause-all_joined : goal.close-requires-clause-all_joined
close-requires-clause-all_joined g c =
    let on = have_run_on _ _ _ _ _ _ _ c.as_slice.ensures.value c.in_ok-run_cells.ensures.roots c.in_ok-run_cells.ensures.run in
    (can_close_all _ _ _ _ _ _ on).1.all_joined

pub returns-clause-collected : goal.returns-clause-collected
returns-clause-collected g c =
    let runs = receiver_runs g.S.Source g.K.Sink c.args.receivers.now.items c.run_cells.new.receivers.items in
    let on = have_run_on _ _ _ _ _ _ _ c.as_slice.ensures.value c.in_ok-run_cells.ensures.roots c.in_ok-run_cells.ensures.run in
    let of = c.in_ok-run_cells.ensures.roots.0 in let many = of.as_many in let before = c.requires.cells.each_cell.as_many in
    collected _ _ c.args.own c.args.starts.value.items runs _ _ _ c.close.result c.requires.apart c.requires.cells.openings
    (subst (λ (l : List Address). HaveRunOn l c.args.fresh.cells.items c.args.strangers runs c.run_cells.new.roots
    c.run_cells.new.stranger_root) c.requires.directory on)
    (subst (λ (l : List (Shown SlotView Event Outcome)). AreLeft opening_of
    (λ (b : SlotView). map act_of b.journal) IsLegalJournal c.args.fresh.cells.items l c.in_ok-slots.slots.items)
    (whole c.args.fresh.roots.len c.run_cells.new.roots c.args.fresh.roots.items (search rules) (search rules)) c.in_ok-slots.ensures)
    c.close.ensures.acts

pub run_cells-requires-send-B : goal.run_cells-requires-send-B
run_cells-requires-send-B g c κs within = search (sendable, crosses, slot_send) depth 40 fits 10000
