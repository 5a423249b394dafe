use Rattle.std.proofs.Common.{take, flat_map}
use Rattle.paper.specs.Puts.{Puts}
use Rattle.input_check.specs.Hints.{note_text}
use Rattle.input_check.proofs.hints.put_notes.Given as goal

abbrev pub invariant-loop-note : goal.invariant-loop-note
invariant-loop-note g l = Puts g.P.Paper.takes l.initial.paper (flat_map note_text (take l.note-index l.notes)) l.paper
