use Rattle.std.proofs.Common.{◌≡◌, [], length}
use Rattle.line_accept.specs.SendersFile.{senders_from}
use Rattle.line_accept.proofs.reader.read_lines.Given as goal

abbrev pub invariant-lines : goal.invariant-lines
invariant-lines l = (senders_from [] l.initial.entries.entries l.initial.entries.end ≡ senders_from l.senders l.entries.entries l.entries.end)

abbrev pub decreases-lines : goal.decreases-lines
decreases-lines l = length l.entries.entries
