-- A line is told and written, or told and not written, or there is no memory.
use Rattle.std.proofs.Common.{refl}
use Rattle.line_teller.proofs.Keeping.{poured_whole}
use Rattle.line_teller.proofs.Steps.{by_write, ok_both}
use Rattle.line_feed.proofs.StreamReads.{line_told, line_unwritten, line_without_memory, not_read}
use Rattle.line_feed.proofs.streaming.tell_line.Goals as goal

pub returns-in-Ok-clause-told : goal.returns-in-Ok-clause-told
returns-in-Ok-clause-told g c =
    ok_both c.pass_both.result _ _ _ c.pass_both.ensures.text c.pass_both.ensures.all (λ poured all line keeps.
    line_told g.T.StreamTeller.tells c.requires.no_text c.requires.no_note c.in-Ok.ensures.sound.0
    c.in-Ok.ensures.sound.1 (c.in-Ok.ensures.heard line keeps)
    (λ on. poured_whole _ _ _ _ (poured on) (all refl)) c.pass_both.ensures.noted)

pub returns-in-Ok-clause-ended : goal.returns-in-Ok-clause-ended
returns-in-Ok-clause-ended g c =
    by_write c.pass_both.result _ _ _ c.pass_both.ensures.write c.pass_both.ensures.front (λ front line keeps.
    line_unwritten g.T.StreamTeller.tells c.requires.no_text c.requires.no_note c.in-Ok.ensures.sound.0
    c.in-Ok.ensures.sound.1 (c.in-Ok.ensures.heard line keeps) front c.pass_both.ensures.noted)

pub returns-in-Ok-clause-read : goal.returns-in-Ok-clause-read
returns-in-Ok-clause-read g c = not_read c.pass_both.result _ c.pass_both.ensures.write

pub returns-in-Err-clause-ended : goal.returns-in-Err-clause-ended
returns-in-Err-clause-ended g c = λ line keeps.
    line_without_memory g.T.StreamTeller.tells c.in-Err.ensures.memory
