use Rattle.std.proofs.Common.{ap, sym, ◌∙◌}
use Rattle.paper.proofs.Items.{is_put}
use Rattle.command_queue.specs.Pending.{Pending}
use Rattle.command_queue.specs.declared.window.Window.{Window}
use Rattle.meter_slots.specs.Journal.{Start}
use Rattle.state_file.specs.Recommissioning.{recommissioned}
use Rattle.state_file.specs.Printing.{readings_text, commands_text}
use Rattle.state_file.proofs.StatePieces.{block_pieces}
use Rattle.state_file.proofs.writing.put_block_as.Goals as goal

pub returns : goal.returns
returns g c =
    let known : Start = c.args.known.now in
    block_pieces (recommissioned known c.args.commission.now) c.show.ensures.short c.put_meter.ensures
    (is_put (readings_text known.reading) _ (ap readings_text (sym c.reading.ensures)) c.put_readings.ensures) c.put_marks.ensures
    (is_put (commands_text known.orders.window known.orders.queue.commands) _
    (ap (λ (w : Window). commands_text w known.orders.queue.commands) (sym c.window.ensures)
    ∙ ap (λ (q : Pending). commands_text c.window.result q.commands) (sym c.queue.ensures)) c.put_commands.ensures)
