use Rattle.std.proofs.Common.{◌≡◌, ◌+◌, ◌++◌, drop}
use Rattle.frame_inspect_main.specs.Looks.{shown_from}
use Rattle.frame_inspect_main.proofs.inspecting.look_at_each.Given as goal

abbrev pub invariant-loop-item : goal.invariant-loop-item
invariant-loop-item g l = (l.next ≡ l.number + l.item-index)
    × (l.all.items ++ shown_from (g.L.Look.meaning l.look) l.next (drop l.item-index l.items)
    ≡ shown_from (g.L.Look.meaning l.look) l.number l.items)
