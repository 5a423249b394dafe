use Rattle.std.proofs.Common.{ap, sym, ◌∙◌, arith}
use Rattle.afl_fragments.specs.Places.{held_with}
use Rattle.afl_fragments.proofs.Holding.{held-piece, held-too_many}
use Rattle.afl_fragments.proofs.Room.{held_with_room}
use Rattle.afl_fragments.proofs.parts.Parts.hold.Goals as goal

pub returns-then-fid-gt-PARTS_MAX-clause-held : goal.returns-then-fid-gt-PARTS_MAX-clause-held
returns-then-fid-gt-PARTS_MAX-clause-held c told h =
    h ∙ sym (held-too_many c.args.part told (omega (arith, ap (λ a. a.fid) c.afl-fid.ensures.header)))

pub returns-clause-held : goal.returns-clause-held
returns-clause-held c told h =
    c.put.ensures.held ∙ ap (held_with c.args.part) (c.self.view_is ∙ h)
    ∙ sym (held-piece c.args.part told (omega (arith, ap (λ a. a.fid) c.afl-fid.ensures.header)))

pub returns-clause-room : goal.returns-clause-room
returns-clause-room c = rw (c.put.ensures.held, c.self.view_is) (held_with_room c.args.part c.args.self.now)
