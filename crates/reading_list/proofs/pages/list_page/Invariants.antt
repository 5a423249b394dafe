use Rattle.std.proofs.Common.{◌≡◌, ◌≤◌, [], length}
use Rattle.std.specs.Str.Lines.{lines}
use Rattle.outer_io.specs.Shown.{sink_change}
use Rattle.reading_list.specs.Pages.{IsAmid}
use Rattle.reading_list.proofs.pages.list_page.Given as goal

-- the lines so far are listed, and the others are left
abbrev pub invariant-lines : goal.invariant-lines
invariant-lines g l = record {
  no_note : l.note.text ≡ [];
  amid : IsAmid l.initial.lister l.lister l.count l.now (lines l.page) l.texts g.K.Sink.tells
      (sink_change g.K.Sink l.initial.out l.out) l.text.text g.E.Sink.tells (sink_change g.E.Sink l.initial.notes l.notes);
  later_out : g.K.Sink.faults l.initial.out ≤ g.K.Sink.faults l.out;
  later_notes : g.E.Sink.faults l.initial.notes ≤ g.E.Sink.faults l.notes;
}

abbrev pub decreases-lines : goal.decreases-lines
decreases-lines g l = length l.texts
