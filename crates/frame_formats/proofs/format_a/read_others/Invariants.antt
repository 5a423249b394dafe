use Rattle.std.proofs.Common.{◌+◌, ◌-◌, ◌/◌, length}
use Rattle.frame_formats.specs.Decoding.{content_of, cut}
use Rattle.frame_formats.proofs.Reading.{IsSoFar}
use Rattle.frame_formats.proofs.format_a.read_others.Given as goal

-- what was read, and what reading the rest gives, are what reading all gives
abbrev pub invariant-loop-len : goal.invariant-loop-len
invariant-loop-len l = IsSoFar (content_of 2 (cut ((length l.fn.into + 15) / 16) 18 l.bytes)) l.into l.rest l.len l.number

abbrev pub decreases-loop-len : goal.decreases-loop-len
decreases-loop-len l = length l.into - l.len
