-- A whole check, by where it stops.
use Rattle.std.proofs.Common.{Err, inl}
use Rattle.outer_io.specs.Shown.{sink_shown}
use Rattle.input_check.specs.Receivers.{bytes_of_each, receivers_text}
use Rattle.input_check.specs.Run.{Run, run_of, said_of_state}
use Rattle.outer_io.proofs.Fronts.{first, behind}
use Rattle.input_check.proofs.Stopping.{kept, unread}
use Rattle.input_check.proofs.Runs.{state_stops, receivers_stop, printed, printed_in_part}
use Rattle.input_check.proofs.inputs.check_all.Goals as goal

pub returns-in-Err-clause-caused : goal.returns-in-Err-clause-caused
returns-in-Err-clause-caused g c =
    let run : Run = run_of g.S.Source g.K.Sink c.args.state.now c.check_keys.new.state c.args.receivers.now c.args.receivers.now c.args.out.now
    c.check_keys.new.out (Err c.in-Err.stop) in
    state_stops run c.in-Err.stop (unread g.S.Source c.args.receivers.now) c.in-Err.ensures.stops

pub returns-in-Err-clause-front : goal.returns-in-Err-clause-front
returns-in-Err-clause-front g c = λ tells sinks_tell.
    inl (first (said_of_state (g.S.Source.left c.args.state.now)) (receivers_text 0 (bytes_of_each g.S.Source c.args.receivers.now)) _ _
    (c.in-Err.ensures.front tells sinks_tell))

pub returns-in-Err-clause-no_loss : goal.returns-in-Err-clause-no_loss
returns-in-Err-clause-no_loss g c = λ tells. kept g.S.Source c.args.receivers.now

pub returns-in-Err-check_receivers-clause-caused : goal.returns-in-Err-check_receivers-clause-caused
returns-in-Err-check_receivers-clause-caused g c =
    let run : Run = run_of g.S.Source g.K.Sink c.args.state.now c.check_keys.new.state c.args.receivers.now c.check_receivers.new.receivers
    c.args.out.now c.check_receivers.new.out (Err c.in-Err-check_receivers.stop) in
    receivers_stop run (sink_shown g.K.Sink c.check_keys.new.out) c.in-Ok.ensures.later c.in-Ok.ensures.read c.in-Ok.ensures.printed
    c.in-Err-check_receivers.stop c.in-Err-check_receivers.ensures.stops

pub returns-in-Err-check_receivers-clause-front : goal.returns-in-Err-check_receivers-clause-front
returns-in-Err-check_receivers-clause-front g c = λ tells sinks_tell.
    inl (behind (said_of_state (g.S.Source.left c.args.state.now)) (receivers_text 0 (bytes_of_each g.S.Source c.args.receivers.now)) _ _ _
    (c.in-Ok.ensures.printed tells sinks_tell) (c.in-Err-check_receivers.ensures.front tells sinks_tell))

pub returns-in-Ok-print_hearing-clause-printed : goal.returns-in-Ok-print_hearing-clause-printed
returns-in-Ok-print_hearing-clause-printed g c = λ tells sinks_tell.
    printed g.S.Source (g.S.Source.left c.args.state.now) c.args.receivers.now c.in-Ok.checked.faulty c.compares-compared.result _ _ _ _ _ _ _ _ _
    (c.in-Ok.ensures.faulty tells) c.compares-compared.ensures c.new-heard.ensures.items (c.in-Ok-check_receivers.ensures.heard tells)
    c.deref-2.ensures.value (c.in-Ok.ensures.meters tells) c.deref.ensures.value (c.in-Ok.ensures.printed tells sinks_tell)
    (c.in-Ok-check_receivers.ensures.printed tells sinks_tell) (c.in-Ok-print_hearing.ensures.printed sinks_tell)

pub returns-clause-front : goal.returns-clause-front
returns-clause-front g c = λ tells sinks_tell.
    printed_in_part g.S.Source (g.S.Source.left c.args.state.now) c.args.receivers.now c.in-Ok.checked.faulty c.compares-compared.result _ _ _ _ _ _ _ _ _
    (c.in-Ok.ensures.faulty tells) c.compares-compared.ensures c.new-heard.ensures.items (c.in-Ok-check_receivers.ensures.heard tells)
    c.deref-2.ensures.value (c.in-Ok.ensures.meters tells) c.deref.ensures.value (c.in-Ok.ensures.printed tells sinks_tell)
    (c.in-Ok-check_receivers.ensures.printed tells sinks_tell) (c.in-Err-print_hearing.ensures.front sinks_tell)
