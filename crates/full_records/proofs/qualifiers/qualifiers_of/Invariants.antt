use Rattle.std.proofs.Common.{◌≡◌, ◌++◌, drop, length, take}
use Rattle.full_records.specs.Qualifiers.{qualifiers_from}
use Rattle.full_records.proofs.qualifiers.qualifiers_of.Given as goal

abbrev pub invariant-loop-index : goal.invariant-loop-index
invariant-loop-index l =
    (length l.found ≡ 10)
    × (take l.index l.found ++ qualifiers_from l.place (drop l.index l.vifes) ≡ qualifiers_from l.fn.first l.vifes)
