use Rattle.std.proofs.Common.{◌≡◌, ◌+◌, ◌≤◌, length}
use Rattle.std.specs.List.{flat_map, enumerate_from}
use Rattle.full_spans.specs.Listing.{full_spans_from}
use Rattle.paper.specs.Puts.{Puts}
use Rattle.reading_list.specs.Said.{step_read}
use Rattle.reading_list.specs.RecordLines.{record_line, records_text, fault_from, fault_of}
use Rattle.reading_list.proofs.record_lines.put_records.Given as goal

-- Once what is left is listed, all records are; and the fault is that of what is left.
abbrev pub invariant-records : goal.invariant-records
invariant-records g l = record {
  within : l.from ≤ length l.step.payload.items;
  counted : l.listed + l.left ≡ length l.step.payload.items;
  fault : fault_from l.left l.step.payload.items l.from ≡ fault_of l.step.payload.items;
  text : (q : g.row.P.Denot) → Puts g.P.Paper.takes l.paper
      (flat_map (record_line l.form l.address (step_read l.step))
      (enumerate_from (l.listed + 1) (full_spans_from l.left l.step.payload.items l.from))) q
      → Puts g.P.Paper.takes l.initial.paper (records_text l.form l.address (step_read l.step)) q;
}

abbrev pub decreases-records : goal.decreases-records
decreases-records g l = l.left
