use Rattle.std.proofs.Common.{◌≤◌, ◌-◌, length, take}
use Rattle.line_feed.specs.Files.{AreWholeLines}
use Rattle.line_feed.proofs.cutting.half_len.Given as goal

abbrev pub invariant-lines : goal.invariant-lines
invariant-lines l = record {
  within : l.at ≤ length l.bytes;
  whole : AreWholeLines (take l.at l.bytes);
}

abbrev pub decreases-lines : goal.decreases-lines
decreases-lines l = length l.bytes - l.at
