use Rattle.std.proofs.Common.{◌≡◌, ◌+◌, ◌≤◌, length}
use Rattle.std.specs.List.{flat_map, enumerate_from}
use Rattle.full_spans.specs.Listing.{full_spans_from}
use Rattle.paper.specs.Puts.{Puts}
use Rattle.record_objects.specs.Records.{fault_from, fault_of}
use Rattle.record_objects.specs.Words.{item_words, items_words}
use Rattle.record_objects.proofs.objects.put_items.Given as goal

-- Once what is left is put, all records are; and the fault is that of what is left.
abbrev pub invariant-records : goal.invariant-records
invariant-records g l = record {
  within : l.from ≤ length l.payload;
  counted : l.listed + l.left ≡ length l.payload;
  fault : fault_from l.left l.payload l.from ≡ fault_of l.payload;
  text : (q : g.row.P.Denot) → Puts g.P.Paper.takes l.paper
      (flat_map (item_words l.payload) (enumerate_from (l.listed + 1) (full_spans_from l.left l.payload l.from))) q
      → Puts g.P.Paper.takes l.initial.paper (items_words l.payload) q;
}

abbrev pub decreases-records : goal.decreases-records
decreases-records g l = l.left
