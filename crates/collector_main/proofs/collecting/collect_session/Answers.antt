use Rattle.std.proofs.Common.{◌<◌, ◌^◌, ◌≡◌, length, refl, ap, subst, arith, rules}
use Rattle.lists.proofs.Members.{with_length}
use Rattle.outer_io.specs.Shown.{source_change, sink_change}
use Rattle.meter_address.specs.declared.address.Address.{Address}
use Rattle.state_file.specs.Whole.{Known}
use Rattle.collector_main.specs.Heard.{next_text}
use Rattle.collector_main.specs.Ready.{HaveHeard}
use Rattle.collector_main.proofs.ManyReceivers.{fresh_caused, same_keeps, wrote_same, together_run, together_heard}
use Rattle.collector_main.proofs.Runs.{unheard_run}
use Rattle.collector_main.proofs.collecting.collect_session.Goals as goal

pub returns-in-Err-clause-run : goal.returns-in-Err-clause-run
returns-in-Err-clause-run g c =
    unheard_run _ _ _ _ _ _ _ c.in-Err.status c.in-Err.ensures.refusal
    (λ told. fresh_caused g.S.Source g.K.Sink c.args.receivers.now.items c.requires.fresh)
    c.known.ensures.no_loss (λ told shown. same_keeps g.S.Source g.K.Sink c.args.receivers.now.items) (refl, (refl, (refl, tt)))

pub hear_together-requires-clause-room : goal.hear_together-requires-clause-room
hear_together-requires-clause-room g c κs within = search rules

pub first_stop-stop-requires : goal.first_stop-stop-requires
first_stop-stop-requires g c =
    let is = c.in-Ok-hear_together.ensures in
    let many = with_length _ _ _ is.receiver_ends in
    let as_many = is.as_many in
    let few = c.requires.few in
    let len = c.as_slice.ensures.len in
    omega arith

pub returns-clause-run : goal.returns-clause-run
returns-clause-run g c =
    let wrote = c.write_outputs-writes.ensures in
    let few : length c.args.receivers.now.items < 2 ^ 32 = search rules in
    let known : Known = c.in-Ok.state in
    let same : record { own = c.own-own.result; starts = c.into_starts.result.items } ≡ known =
    (λ i. record { own = c.own-own.ensures i; starts = c.into_starts.ensures.starts i }) in
    let heard = subst (λ (e : Known). HaveHeard g.S.Source g.K.Sink e c.args.receivers.now.items c.hear_together.new.receivers.items
    c.in-Ok-hear_together.heard) same c.in-Ok-hear_together.ensures in
    together_run g.S.Source g.K.Sink c.args.form _ _ _ _ known c.args.receivers.now.items c.hear_together.new.receivers.items
    c.in-Ok-hear_together.heard heard few _ _ _
    (wrote_same g.K.Sink.tells (next_text c.args.form c.own-own.result c.in-Ok-hear_together.heard.collected.slots.items)
    (next_text c.args.form known.own c.in-Ok-hear_together.heard.collected.slots.items)
    (sink_change g.K.Sink c.args.next.now c.write_outputs-writes.new.next) c.write_outputs-writes.result.next
    (ap (λ (own : Address). next_text c.args.form own c.in-Ok-hear_together.heard.collected.slots.items) c.own-own.ensures) wrote.next)
    wrote.readings wrote.report c.first_stop-stop.result (search rules) c.status_after.result c.status_after.ensures
    c.in-Ok.ensures.found c.in-Ok.ensures.read c.known.ensures.no_loss

pub returns-clause-unread : goal.returns-clause-unread
returns-clause-unread g c =
    let wrote = c.write_outputs-writes.ensures in
    let few : length c.args.receivers.now.items < 2 ^ 32 = search rules in
    let known : Known = record { own = c.own-own.result; starts = c.into_starts.result.items } in
    λ unread. absurd {A = c.hear_together.new.receivers.items ≡ c.args.receivers.now.items} (together_heard g.S.Source g.K.Sink c.args.form (source_change g.S.Source c.args.beginning.now c.known.new.source)
    (sink_change g.K.Sink c.args.next.now c.write_outputs-writes.new.next)
    (sink_change g.K.Sink c.args.readings.now c.write_outputs-writes.new.readings)
    (sink_change g.K.Sink c.args.report.now c.write_outputs-writes.new.report_sink)
    known c.args.receivers.now.items c.hear_together.new.receivers.items c.in-Ok-hear_together.heard c.in-Ok-hear_together.ensures
    few _ _ _ wrote.next wrote.readings wrote.report c.first_stop-stop.result (search rules)
    c.status_after.result c.status_after.ensures unread)
