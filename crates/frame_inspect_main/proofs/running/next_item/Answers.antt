use Rattle.std.proofs.Common.{IsTrue}
use Rattle.frame_inspect_main.proofs.Takings.{line_given, long_given}
use Rattle.frame_inspect_main.proofs.running.next_item.Goals as goal

pub returns-in-Ok-Line-clause-item : goal.returns-in-Ok-Line-clause-item
returns-in-Ok-Line-clause-item g c =
    line_given c.of_text.result _ c.args.frames.now.longest c.text.result.now _ (IsTrue g.S.Source.tells) _ _
    c.in-Ok-Line.field-0-is c.requires.longest c.in-Ok-Line.ensures.short c.text.ensures c.of_text.ensures c.in-Ok-Line.ensures.lines

pub returns-in-Ok-TooLong-clause-item : goal.returns-in-Ok-TooLong-clause-item
returns-in-Ok-TooLong-clause-item g c = λ tells.
    long_given _ c.args.frames.now.longest _ _ _ c.in-Ok-TooLong.field-0-is c.requires.longest (c.in-Ok-TooLong.ensures.lines tells)
