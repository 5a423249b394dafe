use Rattle.std.proofs.Common.{◌≤◌, length, map, false}
use Rattle.serde_json.specs.View.{items_of}
use Rattle.serde_json.specs.Written.{items_text}
use Rattle.paper.specs.Puts.{Puts}
use Rattle.dif_vif.specs.Listing.{spans_from}
use Rattle.report_text.specs.Readings.{listed, span_tree}
use Rattle.report_text.proofs.entries.put_items.Given as goal

-- once the records that are left are put, all are
abbrev pub invariant-records : goal.invariant-records
invariant-records g l = (l.from ≤ length l.payload) × ((q : g.row.P.Denot)
    → Puts g.P.Paper.takes l.paper (items_text l.later (items_of (map (span_tree l.payload) (spans_from l.left l.payload l.from)))) q
    → Puts g.P.Paper.takes l.initial.paper (items_text false (items_of (map (span_tree l.payload) (listed l.payload)))) q)

abbrev pub decreases-records : goal.decreases-records
decreases-records g l = l.left
