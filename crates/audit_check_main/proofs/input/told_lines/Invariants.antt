use Rattle.std.proofs.Common.{◌≡◌, ◌++◌, map, length}
use Rattle.std.specs.Str.Lines.{lines}
use Rattle.receivers.specs.Told.{told_of}
use Rattle.audit_check_main.proofs.input.told_lines.Given as goal

-- the lines so far were told, and the rest is left
abbrev pub invariant-lines : goal.invariant-lines
invariant-lines l = map told_of (lines l.text) ≡ l.told ++ map told_of l.texts

abbrev pub decreases-lines : goal.decreases-lines
decreases-lines l = length l.texts
