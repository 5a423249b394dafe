use Rattle.std.proofs.Common.{◌≡◌, drop}
use Rattle.full_records.specs.Readings.{reading, reading_after}
use Rattle.full_records.proofs.readings.reading_of.Given as goal

abbrev pub invariant-loop-qualifier : goal.invariant-loop-qualifier
invariant-loop-qualifier l =
    reading_after l.reading (drop l.qualifier-index l.qualifiers) ≡ reading_after (reading l.fn.measure) l.qualifiers
