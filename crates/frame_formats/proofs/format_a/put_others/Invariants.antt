use Rattle.std.proofs.Common.{length}
use Rattle.frame_formats.proofs.Writing.{Written}
use Rattle.frame_formats.proofs.format_a.put_others.Given as goal

abbrev pub invariant-cutting : goal.invariant-cutting
invariant-cutting l = Written l.at l.bytes l.fn.out l.end l.rest l.out

abbrev pub decreases-cutting : goal.decreases-cutting
decreases-cutting l = length l.rest
