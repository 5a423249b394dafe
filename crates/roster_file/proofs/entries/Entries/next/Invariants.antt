use Rattle.std.proofs.Common.{◌≡◌, ◌+◌, length}
use Rattle.roster_file.specs.Roster.{entries_from}
use Rattle.roster_file.proofs.entries.Entries.next.Given as goal

abbrev pub invariant-loop-text : goal.invariant-loop-text
invariant-loop-text l =
    (l.self-inside.line + length l.self-inside.lines ≡ l.initial.self-inside.line + length l.initial.self-inside.lines)
    × (entries_from (l.self-inside.line + 1) l.self-inside.lines ≡ entries_from
    (l.initial.self-inside.line + 1) l.initial.self-inside.lines)

abbrev pub decreases-loop-text : goal.decreases-loop-text
decreases-loop-text l = length l.self-inside.lines
