-- What an input's reader gives, by its answer.
use Rattle.std.proofs.Common.{Ok, ap, ◌∙◌}
use Rattle.line_merge.specs.Least.{carried}
use Rattle.line_merge.specs.Inputs.{moment_in}
use Rattle.line_merge.proofs.Heads.{gave_line, gave_none, gave_long, gave_over}
use Rattle.line_merge.proofs.inputs.next_head.Goals as goal

pub returns-in-Ok-Line-clause-given : goal.returns-in-Ok-Line-clause-given
returns-in-Ok-Line-clause-given g c =
    gave_line g.S.Source _ c.args.input.now _ c.requires.reading c.in-Ok-Line.ensures.lines c.in-Ok-Line.ensures.longest
    c.in-Ok-Line.ensures.number c.in-Ok-Line.ensures.few c.in-Ok-Line.ensures.done c.in-Ok-Line.ensures.pieces c.in-Ok-Line.ensures.bytes
    c.args.before _ c.in-Ok-Line.field-0-is
    (c.moment_of.ensures ∙ ap (carried c.args.before) (c.moment_in.ensures ∙ ap moment_in c.text.ensures))

pub returns-in-Ok-End-clause-given : goal.returns-in-Ok-End-clause-given
returns-in-Ok-End-clause-given g c =
    gave_none g.S.Source _ c.args.input.now _ c.requires.reading c.in-Ok-End.ensures.lines c.in-Ok-End.ensures.longest
    c.in-Ok-End.ensures.number c.in-Ok-End.ensures.few c.in-Ok-End.ensures.done c.in-Ok-End.ensures.pieces c.in-Ok-End.ensures.bytes
    c.args.before c.in-Ok-End.field-0-is (c.in-Ok-End.ensures.end (ap Ok c.in-Ok-End.field-0-is))

pub returns-in-Ok-TooLong-clause-fault : goal.returns-in-Ok-TooLong-clause-fault
returns-in-Ok-TooLong-clause-fault g c =
    gave_long g.S.Source _ c.args.input.now _ c.requires.reading c.in-Ok-TooLong.ensures.lines c.in-Ok-TooLong.ensures.longest
    c.in-Ok-TooLong.ensures.number c.in-Ok-TooLong.ensures.few c.in-Ok-TooLong.ensures.done c.in-Ok-TooLong.ensures.pieces
    c.in-Ok-TooLong.ensures.bytes c.in-Ok-TooLong.field-0-is

pub returns-in-Ok-Cut-clause-fault : goal.returns-in-Ok-Cut-clause-fault
returns-in-Ok-Cut-clause-fault g c =
    gave_over g.S.Source _ c.args.input.now _ c.requires.reading c.in-Ok-Cut.ensures.lines c.in-Ok-Cut.ensures.longest
    c.in-Ok-Cut.ensures.number c.in-Ok-Cut.ensures.few c.in-Ok-Cut.ensures.done c.in-Ok-Cut.ensures.pieces c.in-Ok-Cut.ensures.bytes
    (c.in-Ok-Cut.ensures.cut (ap Ok c.in-Ok-Cut.field-0-is))
