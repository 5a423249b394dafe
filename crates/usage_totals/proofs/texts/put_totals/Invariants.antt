use Rattle.std.proofs.Common.{take}
use Rattle.std.specs.List.{flat_map}
use Rattle.paper.specs.Puts.{Puts}
use Rattle.usage_totals.specs.Sums.{total_at}
use Rattle.usage_totals.specs.Texts.{total_line}
use Rattle.usage_totals.proofs.texts.put_totals.Given as goal

abbrev pub invariant-loop-key : goal.invariant-loop-key
invariant-loop-key g l = Puts g.P.Paper.takes l.initial.paper
    (flat_map (λ key. total_line key (total_at key l.totals)) (take l.key-index l.keys)) l.paper
