-- Where there is no memory for a line, the lines before it were told.
use Rattle.line_teller.proofs.Steps.{by_memory, before_line, before_long}
use Rattle.line_teller.proofs.hearing.hear_next.Goals as goal

pub returns-in-Ok-Line-clause-ends : goal.returns-in-Ok-Line-clause-ends
returns-in-Ok-Line-clause-ends g c =
    by_memory _ _ c.ended_by.ensures.err
    (λ tells. before_line _ _ _ _ _ _ c.in-Ok-Line.field-0-is (c.in-Ok-Line.ensures.lines tells))

pub returns-in-Ok-Line-clause-first : goal.returns-in-Ok-Line-clause-first
returns-in-Ok-Line-clause-first g c =
    by_memory _ _ c.ended_by.ensures.err
    (λ tells. before_line _ _ _ _ _ _ c.in-Ok-Line.field-0-is (c.in-Ok-Line.ensures.lines tells))

pub returns-in-Ok-TooLong-clause-ends : goal.returns-in-Ok-TooLong-clause-ends
returns-in-Ok-TooLong-clause-ends g c =
    by_memory _ _ c.ended_by-in-Ok-TooLong.ensures.err
    (λ tells. before_long _ _ _ _ _ _ c.in-Ok-TooLong.field-0-is (c.in-Ok-TooLong.ensures.lines tells))

pub returns-in-Ok-TooLong-clause-first : goal.returns-in-Ok-TooLong-clause-first
returns-in-Ok-TooLong-clause-first g c =
    by_memory _ _ c.ended_by-in-Ok-TooLong.ensures.err
    (λ tells. before_long _ _ _ _ _ _ c.in-Ok-TooLong.field-0-is (c.in-Ok-TooLong.ensures.lines tells))
