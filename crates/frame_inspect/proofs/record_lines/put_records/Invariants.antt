use Rattle.std.proofs.Common.{◌≡◌, ◌+◌, ◌≤◌, length}
use Rattle.paper.specs.Puts.{Puts}
use Rattle.frame_inspect.specs.RecordLines.{records_from, records_text}
use Rattle.frame_inspect.proofs.record_lines.put_records.Given as goal

-- once what is left is put, all records are
abbrev pub invariant-records : goal.invariant-records
invariant-records g l = record {
  within : l.from ≤ length l.payload;
  counted : l.listed + l.left ≡ length l.payload;
  text : (q : g.row.P.Denot) → Puts g.P.Paper.takes l.paper (records_from l.left l.payload (l.listed + 1) l.from) q
      → Puts g.P.Paper.takes l.initial.paper (records_text l.payload) q;
}

abbrev pub decreases-records : goal.decreases-records
decreases-records g l = l.left
