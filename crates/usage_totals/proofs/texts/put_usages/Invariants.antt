use Rattle.std.proofs.Common.{take}
use Rattle.std.specs.List.{flat_map}
use Rattle.paper.specs.Puts.{Puts}
use Rattle.paper.specs.Pieces.{text_if}
use Rattle.usage_totals.specs.Usage.{usage_at}
use Rattle.usage_totals.specs.Table.{rows_at}
use Rattle.usage_totals.specs.Texts.{usage_line}
use Rattle.usage_totals.proofs.texts.put_usages.Given as goal

abbrev pub invariant-loop-key : goal.invariant-loop-key
invariant-loop-key g l = Puts g.P.Paper.takes l.initial.paper
    (flat_map (λ key. text_if (usage_line l.meter key) (usage_at key (rows_at l.address l.totals))) (take l.key-index l.keys)) l.paper
