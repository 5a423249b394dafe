use Rattle.paper.proofs.Items.{one_at}
use Rattle.input_check.specs.Hints.{note_text}
use Rattle.input_check.proofs.hints.put_notes.Goals as goal

pub loop-note-preserved : goal.loop-note-preserved
loop-note-preserved g c = one_at note_text c.args.notes.now _ _ c.loop-note-test.true c.loop-note.invariant c.put_note.ensures
