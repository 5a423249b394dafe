-- The first receiver stops the check, or one of those behind it.
use Rattle.std.proofs.Common.{rules, ◌≡◌, List, ◌∷◌, ◌++◌, ap, ◌∙◌}
use Rattle.meter_address.specs.declared.address.Address.{Address}
use Rattle.outer_io.specs.Shown.{source_change, sink_change, sink_shown}
use Rattle.input_check.specs.Receivers.{reader_changes, bytes_of_each}
use Rattle.outer_io.proofs.Fronts.{first, first_whole, behind, both}
use Rattle.input_check.proofs.Stopping.{kept, unread, first_stops, later_stops}
use Rattle.input_check.proofs.inputs.+check_receivers.Goals as goal

pub returns-in-Err-clause-stops : goal.returns-in-Err-clause-stops
returns-in-Err-clause-stops g t c =
    let is : c.args.receivers.now ≡ c.in-Some.lines.now ∷ c.in-Some.later.now = search rules in
    rw is (first_stops g.S.Source.tells g.K.Sink.tells c.args.before
    (source_change g.S.Source c.in-Some.lines.now.source c.check_receiver.new.lines.source)
    (reader_changes g.S.Source c.in-Some.later.now c.in-Some.later.now) (g.S.Source.left c.in-Some.lines.now.source)
    (bytes_of_each g.S.Source c.in-Some.later.now) _ (sink_change g.K.Sink c.args.out.now c.check_receiver.new.out) c.in-Err.stop
    (unread g.S.Source c.in-Some.later.now) c.in-Err.ensures.stops)

pub returns-in-Err-clause-front : goal.returns-in-Err-clause-front
returns-in-Err-clause-front g t c = λ tells sinks_tell.
    let is : c.args.receivers.now ≡ c.in-Some.lines.now ∷ c.in-Some.later.now = search rules in
    rw is (first _ _ _ _ (c.in-Err.ensures.front tells sinks_tell))

pub returns-in-Err-clause-no_loss : goal.returns-in-Err-clause-no_loss
returns-in-Err-clause-no_loss g t c = λ tells.
    let is : c.args.receivers.now ≡ c.in-Some.lines.now ∷ c.in-Some.later.now = search rules in
    rw is (c.in-Err.ensures.no_loss tells, kept g.S.Source c.in-Some.later.now)

pub returns-clause-stops : goal.returns-clause-stops
returns-clause-stops g t c =
    let is : c.args.receivers.now ≡ c.in-Some.lines.now ∷ c.in-Some.later.now = search rules in
    rw is (later_stops g.S.Source.tells g.K.Sink.tells c.args.before
    (source_change g.S.Source c.in-Some.lines.now.source c.check_receiver.new.lines.source)
    (reader_changes g.S.Source c.in-Some.later.now c.check_receivers.new.receivers) (g.S.Source.left c.in-Some.lines.now.source)
    (bytes_of_each g.S.Source c.in-Some.later.now) (sink_shown g.K.Sink c.args.out.now) (sink_shown g.K.Sink c.check_receiver.new.out)
    (sink_shown g.K.Sink c.check_receivers.new.out) c.in-Err-check_receivers.stop c.in-Ok.ensures.read c.in-Ok.ensures.printed
    c.in-Ok.ensures.later c.in-Err-check_receivers.ensures.stops)

pub returns-clause-front : goal.returns-clause-front
returns-clause-front g t c = λ tells sinks_tell.
    let is : c.args.receivers.now ≡ c.in-Some.lines.now ∷ c.in-Some.later.now = search rules in
    rw is (behind _ _ _ _ _ (c.in-Ok.ensures.printed tells sinks_tell) (c.in-Err-check_receivers.ensures.front tells sinks_tell))

pub returns-in_default-add_heard-clause-front : goal.returns-in_default-add_heard-clause-front
returns-in_default-add_heard-clause-front g t c = λ tells sinks_tell.
    let is : c.args.receivers.now ≡ c.in-Some.lines.now ∷ c.in-Some.later.now = search rules in
    rw is (first_whole _ _ _ _ (c.in-Ok.ensures.printed tells sinks_tell))

pub returns-in_default-add_heard-clause-no_loss : goal.returns-in_default-add_heard-clause-no_loss
returns-in_default-add_heard-clause-no_loss g t c = λ tells.
    let is : c.args.receivers.now ≡ c.in-Some.lines.now ∷ c.in-Some.later.now = search rules in
    rw is (c.in-Ok.ensures.no_loss tells, kept g.S.Source c.in-Some.later.now)

pub returns-in-Ok-check_receivers-clause-heard : goal.returns-in-Ok-check_receivers-clause-heard
returns-in-Ok-check_receivers-clause-heard g t c = λ tells.
    let is : c.args.receivers.now ≡ c.in-Some.lines.now ∷ c.in-Some.later.now = search rules in
    rw is (both _ _ _ _ _ (◌∙◌ {A = List Address} {b = c.args.heard.now.items ++ c.in-Ok.found.heard.items} c.in-Ok-add_heard.ensures
    (ap (λ (more : List Address). c.args.heard.now.items ++ more) (c.in-Ok.ensures.heard tells)))
    (c.in-Ok-check_receivers.ensures.heard tells))

pub returns-in-Ok-check_receivers-clause-printed : goal.returns-in-Ok-check_receivers-clause-printed
returns-in-Ok-check_receivers-clause-printed g t c = λ tells sinks_tell.
    let is : c.args.receivers.now ≡ c.in-Some.lines.now ∷ c.in-Some.later.now = search rules in
    rw is (both _ _ _ _ _ (c.in-Ok.ensures.printed tells sinks_tell) (c.in-Ok-check_receivers.ensures.printed tells sinks_tell))
