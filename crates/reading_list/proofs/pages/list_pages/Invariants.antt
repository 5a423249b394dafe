use Rattle.std.proofs.Common.{◌≡◌, ◌≤◌, ◌+◌, ◌-◌, ◌++◌, [], length, IsTrue}
use Rattle.outer_io.specs.Shown.{sink_change}
use Rattle.reading_list.specs.Pages.{Stands}
use Rattle.reading_list.proofs.pages.list_pages.Given as goal

-- all lines of what was read are listed, but for one that isn't at its end
abbrev pub invariant-reads : goal.invariant-reads
invariant-reads g l = record {
  few : l.count + length l.page ≤ l.taken;
  kept : length l.page ≤ 8194;
  within : l.taken ≤ 1073741824;
  no_text : l.text.text ≡ [];
  no_note : l.note.text ≡ [];
  stands : IsTrue g.S.Source.tells → Stands l.initial.lister l.lister l.count (g.S.Source.taken l.report) l.page l.taken
      g.K.Sink.tells (sink_change g.K.Sink l.initial.out l.out) g.E.Sink.tells (sink_change g.E.Sink l.initial.notes l.notes);
  later : g.S.Source.faults l.initial.report ≤ g.S.Source.faults l.report;
  later_out : g.K.Sink.faults l.initial.out ≤ g.K.Sink.faults l.out;
  later_notes : g.E.Sink.faults l.initial.notes ≤ g.E.Sink.faults l.notes;
  bytes : IsTrue g.S.Source.tells → g.S.Source.taken l.report ++ g.S.Source.left l.report
      ≡ g.S.Source.taken l.initial.report ++ g.S.Source.left l.initial.report;
}

abbrev pub decreases-reads : goal.decreases-reads
decreases-reads g l = 1073741824 - l.taken
