use Rattle.std.proofs.Common.{drop, map, false}
use Rattle.serde_json.specs.View.{items_of}
use Rattle.serde_json.specs.Written.{items_text}
use Rattle.paper.specs.Puts.{Puts}
use Rattle.report_text.specs.Readings.{meter_tree}
use Rattle.report_text.proofs.readings.put_items.Given as goal

-- once the meters that are left are put, all are
abbrev pub invariant-loop-slot : goal.invariant-loop-slot
invariant-loop-slot g l = (q : g.row.P.Denot)
    → Puts g.P.Paper.takes l.paper (items_text l.later (items_of (map meter_tree (drop l.slot-index l.slots)))) q
    → Puts g.P.Paper.takes l.initial.paper (items_text false (items_of (map meter_tree l.slots))) q
