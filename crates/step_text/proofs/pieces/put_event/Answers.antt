use Rattle.step_text.specs.Lines.{event_word}
use Rattle.step_text.proofs.Words.{as_found}
use Rattle.step_text.proofs.pieces.put_event.Goals as goal

pub returns : goal.returns
returns g c = as_found (event_word c.args.event.now) c.event_word.ensures.word c.event_word.ensures.plain c.put_text.ensures
