use Rattle.std.proofs.Common.{◌≡◌, ◌≤◌, ◌++◌, length, map}
use Rattle.serde_json.specs.View.{view}
use Rattle.dif_vif.specs.Listing.{spans_from}
use Rattle.report_text.specs.Readings.{listed, span_tree}
use Rattle.report_text.proofs.record_trees.records_value.Given as goal

-- the records found so far, and those that are left, are all
abbrev pub invariant-records : goal.invariant-records
invariant-records l = (l.from ≤ length l.payload)
    × (map view l.records.items ++ map (span_tree l.payload) (spans_from l.left l.payload l.from)
    ≡ map (span_tree l.payload) (listed l.payload))

abbrev pub decreases-records : goal.decreases-records
decreases-records l = l.left
