-- The half line is none, or it is cut off, or it is too long.
use Rattle.std.proofs.Common.{arith}
use Rattle.line_feed.proofs.Files.{part_same, part_cut, no_newline}
use Rattle.line_feed.proofs.cutting.cut_half_line.Goals as goal

pub returns-then-half-eq0-clause-whole : goal.returns-then-half-eq0-clause-whole
returns-then-half-eq0-clause-whole g c = λ tells.
    part_same _ _ _ (c.in-Ok.ensures.half tells) c.if-half-eq0.true (c.in-Ok.ensures.same tells)

pub returns-in-Ok-cut-clause-whole : goal.returns-in-Ok-cut-clause-whole
returns-in-Ok-cut-clause-whole g c = λ tells.
    part_cut _ _ _ _ (c.in-Ok.ensures.half tells) (omega arith) (c.in-Ok.ensures.same tells) (c.in-Ok-cut.ensures.cut tells)

pub returns-then-half-ge-HALF_MAX-clause-no_lines : goal.returns-then-half-ge-HALF_MAX-clause-no_lines
returns-then-half-ge-HALF_MAX-clause-no_lines g c = λ is tells. no_newline _ _ (c.in-Ok.ensures.half tells) (omega arith)
