use Rattle.std.proofs.Common.{subst, ◌∙◌, ap}
use Rattle.std.specs.Prelude.{IfSome}
use Rattle.command_queue.specs.Orders.{awaited_id}
use Rattle.step_text.specs.Numbers.{IsSmall}
use Rattle.step_text.proofs.ShownLines.{block_back}
use Rattle.step_text.proofs.block.put_block_line.Goals as goal

pub returns-clause-reads_back : goal.returns-clause-reads_back
returns-clause-reads_back g c =
    block_back c.args.known.now c.part_count-held.ensures.few
    (subst (λ o. IfSome o IsSmall) (c.awaited_id.ensures ∙ ap awaited_id c.window.ensures) c.show_number_if.ensures)
