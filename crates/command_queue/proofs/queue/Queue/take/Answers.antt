-- What `take` answers and leaves.
use Rattle.std.proofs.Common.{sym}
use Rattle.command_queue.proofs.Moves.{left_fit, none_answered, none_left_out, taken_waiting}
use Rattle.command_queue.proofs.queue.Queue.take.Goals as goal

pub returns-in_default-clause-answer : goal.returns-in_default-clause-answer
returns-in_default-clause-answer c = sym (none_answered c.args.id c.args.self.now c.in_default.ensures.none)

pub returns-in_default-clause-after : goal.returns-in_default-clause-after
returns-in_default-clause-after c = none_left_out c.args.id c.args.self.now c.in_default.ensures.none

pub invariant_of-self : goal.invariant_of-self
invariant_of-self c =
    let inside = c.self.inside in
    let t = taken_waiting c.args.id inside.ids inside.count inside.commands c.take_at-command.new.commands c.args.self.now c.in-Some.place
    c.take_at-command.result c.self.invariant.0 c.self.invariant.1 c.self.view_is c.in-Some.ensures.within c.in-Some.ensures.found
    c.take_at-command.ensures.value c.take_at-command.ensures.len c.take_at-command.ensures.others in
    (left_fit inside.commands c.take_at-command.new.commands inside.count c.self.invariant.0 c.take_at-command.ensures.len, t.sound)

pub returns-clause-answer : goal.returns-clause-answer
returns-clause-answer c =
    let inside = c.self.inside in
    (taken_waiting c.args.id inside.ids inside.count inside.commands c.take_at-command.new.commands c.args.self.now c.in-Some.place
    c.take_at-command.result c.self.invariant.0 c.self.invariant.1 c.self.view_is c.in-Some.ensures.within c.in-Some.ensures.found
    c.take_at-command.ensures.value c.take_at-command.ensures.len c.take_at-command.ensures.others).answer

pub returns-clause-after : goal.returns-clause-after
returns-clause-after c =
    let inside = c.self.inside in
    (taken_waiting c.args.id inside.ids inside.count inside.commands c.take_at-command.new.commands c.args.self.now c.in-Some.place
    c.take_at-command.result c.self.invariant.0 c.self.invariant.1 c.self.view_is c.in-Some.ensures.within c.in-Some.ensures.found
    c.take_at-command.ensures.value c.take_at-command.ensures.len c.take_at-command.ensures.others).after
