-- The last newline ends the lines that end with one.
use Rattle.std.proofs.Common.{subst}
use Rattle.memchr.specs.Find.{is_byte, IsLastByte}
use Rattle.reading_list.proofs.PageLines.{ends_behind, ends_nowhere}
use Rattle.reading_list.proofs.page.ended_len.Goals as goal

pub returns-in-Some-clause-ends : goal.returns-in-Some-clause-ends
returns-in-Some-clause-ends c =
    ends_behind c.args.bytes.now c.in-Some.place (subst (λ r. IsLastByte (is_byte 10) c.args.bytes.now r) c.in-Some.is c.memrchr.ensures)

pub returns-in-None-clause-ends : goal.returns-in-None-clause-ends
returns-in-None-clause-ends c =
    ends_nowhere c.args.bytes.now (subst (λ r. IsLastByte (is_byte 10) c.args.bytes.now r) c.in-None.is c.memrchr.ensures)
