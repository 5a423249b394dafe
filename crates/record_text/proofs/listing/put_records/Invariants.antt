use Rattle.std.proofs.Common.{◌≤◌, length}
use Rattle.paper.specs.Puts.{Puts}
use Rattle.record_text.specs.RecordText.{listed, records_text}
use Rattle.record_text.proofs.listing.put_records.Given as goal

-- Once what is left is listed, the whole listing is.
abbrev pub invariant-records : goal.invariant-records
invariant-records g l = (l.from ≤ length l.payload)
    × ((q : g.row.P.Denot) → Puts g.P.Paper.takes l.paper (listed l.left l.payload l.from) q
    → Puts g.P.Paper.takes l.initial.paper (records_text l.payload) q)

abbrev pub decreases-records : goal.decreases-records
decreases-records g l = l.left
