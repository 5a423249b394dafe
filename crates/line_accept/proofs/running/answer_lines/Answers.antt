-- The answers by how the lines ended, and whether what moved is written.
use Rattle.std.proofs.Common.{◌++◌, List, sym, ap, ◌∙◌, subst}
use Rattle.outer_io.specs.Bytes.{AppendsFront}
use Rattle.line_accept.specs.Senders.{Sender}
use Rattle.line_accept.specs.Answers.{moved_text}
use Rattle.line_accept.proofs.Runs.{none_answered, cut_answers, whole_answers, unwritten_answers}
use Rattle.line_accept.proofs.running.answer_lines.Goals as goal

pub returns-in_default-clause-answered : goal.returns-in_default-clause-answered
returns-in_default-clause-answered g c = λ tells. none_answered c.args.senders _ g.K.Sink.tells _ c.requires.empty

pub returns-then-not-is_whole-clause-answered : goal.returns-then-not-is_whole-clause-answered
returns-then-not-is_whole-clause-answered g c = λ tells.
    cut_answers (c.tell_lines-end.ensures.ended tells) c.in-Ok.ensures c.requires.empty c.of_lines.ensures
    (sym c.is_whole.ensures ∙ c.if-not-is_whole.true)

pub returns-in-Ok-write-clause-answered : goal.returns-in-Ok-write-clause-answered
returns-in-Ok-write-clause-answered g c = λ tells.
    whole_answers (c.tell_lines-end.ensures.ended tells) (c.as_slice.ensures.value ∙ c.in-Ok.ensures) c.requires.empty
    (sym c.is_whole.ensures ∙ c.if-not-is_whole.false) c.of_lines-in-Ok-write.ensures
    (λ on. c.in-Ok-write.ensures.ok on
    ∙ ap (λ (ss : List Sender). g.K.Sink.written c.tell_lines-end.new.out ++ moved_text c.as_slice.result.now ss) c.accepting.view_is)

pub returns-clause-answered : goal.returns-clause-answered
returns-clause-answered g c = λ tells.
    unwritten_answers (c.tell_lines-end.ensures.ended tells) (c.as_slice.ensures.value ∙ c.in-Ok.ensures) c.requires.empty
    (sym c.is_whole.ensures ∙ c.if-not-is_whole.false)
    (λ on. subst (λ (ss : List Sender). AppendsFront (moved_text c.as_slice.result.now ss) (g.K.Sink.written c.tell_lines-end.new.out)
    (g.K.Sink.written c.write.new.sink)) c.accepting.view_is (c.in-Err.ensures.err on))
