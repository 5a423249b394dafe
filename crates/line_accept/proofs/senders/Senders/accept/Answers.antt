-- The sender is unknown, or its fence passes the message.
use Rattle.line_accept.proofs.Places.{none_answered, none_passed, one_answered, one_passed}
use Rattle.line_accept.proofs.Fronts.{stands_more}
use Rattle.line_accept.proofs.senders.Senders.accept.Goals as goal

pub returns-in_default-clause-answer : goal.returns-in_default-clause-answer
returns-in_default-clause-answer c =
    none_answered (λ k. k.items) c.args.name.now c.args.message.now c.self.inside.fences.entries c.args.self.now c.self.view_is
    c.in_default.ensures.found

pub returns-in_default-clause-after : goal.returns-in_default-clause-after
returns-in_default-clause-after c =
    none_passed (λ k. k.items) c.args.name.now c.args.message.now c.self.inside.fences.entries c.args.self.now c.self.view_is
    c.in_default.ensures.found

pub returns-in_default-clause-stands : goal.returns-in_default-clause-stands
returns-in_default-clause-stands c = λ told first before content s n.
    stands_more told first before (record { sender = c.args.name.now; message = c.args.message.now; content = content }) c.args.self.now _
    (returns-in_default-clause-after c) s n

pub returns-clause-answer : goal.returns-clause-answer
returns-clause-answer c =
    one_answered (λ k. k.items) c.args.name.now c.args.message.now c.self.inside.fences.entries c.args.self.now c.self.view_is
    c.in-Some.place c.index.result.now c.index.ensures c.in-Some.ensures.value c.accept-answer.result c.accept-answer.ensures.answer

pub returns-clause-after : goal.returns-clause-after
returns-clause-after c =
    one_passed (λ k. k.items) c.args.name.now c.args.message.now c.self.inside.fences.entries c.args.self.now c.self.view_is
    c.in-Some.place c.index.result.now c.accept-answer.new.self c.in-Some.ensures.index c.index.ensures c.accept-answer.ensures.after

pub returns-clause-stands : goal.returns-clause-stands
returns-clause-stands c = λ told first before content s n.
    stands_more told first before (record { sender = c.args.name.now; message = c.args.message.now; content = content }) c.args.self.now _
    (returns-clause-after c) s n
