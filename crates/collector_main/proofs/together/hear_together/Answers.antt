use Rattle.std.proofs.Common.{◌≡◌, List, Ok, map, subst, sym}
use Rattle.meter_slots.specs.Journal.{SlotView}
use Rattle.meter_slots.specs.Resuming.{known_now}
use Rattle.roster_file.specs.Roster.{roster_of}
use Rattle.roster_file.specs.Text.{roster_text}
use Rattle.state_file.specs.Left.{left_roster, left_state}
use Rattle.state_file.specs.Rooms.{HasRoom}
use Rattle.state_file.specs.Whole.{state_of}
use Rattle.state_file.specs.Written.{state_text}
use Rattle.collector_main.proofs.ManyReceivers.{heard_is, left_have_room}
use Rattle.collector_main.proofs.together.hear_together.Goals as goal

pub show_left-requires : goal.show_left-requires
show_left-requires g c =
    subst (λ (bs : List SlotView). HasRoom (map known_now bs)) (sym c.as_slice-2.ensures.value)
    (left_have_room c.args.own c.args.starts.items _ _ c.requires.room c.in_ok-collected.ensures.collected)

pub returns : goal.returns
returns g c =
    let own = c.args.own in
    let is = c.as_slice-2.ensures.value in
    heard_is g.S.Source g.K.Sink (record { own = own; starts = c.args.starts.items }) c.args.receivers.now.items c.as_slice.result.now
    c.collect.new.receivers.items c.as_slice-3.result.now _
    (subst (λ (bs : List SlotView). state_of (state_text (left_state own bs)) ≡ Ok (left_state own bs)) is c.show_left.ensures.state)
    (subst (λ (bs : List SlotView). roster_of (roster_text (left_roster own bs)) ≡ Ok (left_roster own bs)) is c.show_left.ensures.roster)
    c.as_slice.ensures.value c.as_slice-3.ensures.value
    c.show_untaken.ensures c.in_ok-collected.ensures.collected c.in_ok-collected.ensures.as_many c.in_ok-ends.ensures
