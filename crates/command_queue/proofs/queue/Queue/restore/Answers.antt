-- A restored command finds a place, and leaves a sound queue.
use Rattle.std.proofs.Common.{rules, sym, ◌∙◌}
use Rattle.command_queue.proofs.Moves.{followed}
use Rattle.command_queue.proofs.queue.Queue.restore.Goals as goal

pub bounds-self-inside-self-inside : goal.bounds-self-inside-self-inside
bounds-self-inside-self-inside c =
    let inside = c.self.inside in
    (followed inside.ids inside.count inside.commands c.args.self.now c.args.command (search rules) c.self.invariant.0
    c.self.invariant.1 c.self.view_is (sym c.may_follow.ensures ∙ c.if-not-may_follow.false)).free

pub listed : goal.listed
listed c =
    let inside = c.self.inside in
    let f = followed inside.ids inside.count inside.commands c.args.self.now c.args.command (search rules) c.self.invariant.0
    c.self.invariant.1 c.self.view_is (sym c.may_follow.ensures ∙ c.if-not-may_follow.false) in
    let free = f.free in
    search rules

pub invariant_of-self : goal.invariant_of-self
invariant_of-self c =
    let inside = c.self.inside in
    let f = followed inside.ids inside.count inside.commands c.args.self.now c.args.command (search rules) c.self.invariant.0
    c.self.invariant.1 c.self.view_is (sym c.may_follow.ensures ∙ c.if-not-may_follow.false) in
    (f.fits, f.sound)

pub returns-clause-after : goal.returns-clause-after
returns-clause-after c =
    let inside = c.self.inside in
    (followed inside.ids inside.count inside.commands c.args.self.now c.args.command (search rules) c.self.invariant.0
    c.self.invariant.1 c.self.view_is (sym c.may_follow.ensures ∙ c.if-not-may_follow.false)).after
