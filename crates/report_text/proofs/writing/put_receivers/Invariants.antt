use Rattle.std.proofs.Common.{◌+◌, drop}
use Rattle.std.specs.List.{flat_map, enumerate_from}
use Rattle.paper.specs.Puts.{Puts}
use Rattle.report_text.specs.Report.{receiver_text}
use Rattle.report_text.proofs.writing.put_receivers.Given as goal

-- once the receivers that are left are put, all are
abbrev pub invariant-loop-place : goal.invariant-loop-place
invariant-loop-place g l = (q : g.row.P.Denot)
    → Puts g.P.Paper.takes l.paper (flat_map receiver_text (enumerate_from (l.place + 1) (drop l.place l.ends))) q
    → Puts g.P.Paper.takes l.initial.paper (flat_map receiver_text (enumerate_from 1 l.ends)) q
