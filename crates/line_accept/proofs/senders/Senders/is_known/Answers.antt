use Rattle.line_accept.proofs.Places.{known_is}
use Rattle.line_accept.proofs.senders.Senders.is_known.Goals as goal

pub returns : goal.returns
returns c =
    known_is (λ k. k.items) c.args.name.now (record { epoch = 0; number = 0 }) c.self.inside.fences.entries c.args.self.now c.self.view_is
    c.contains_key.result c.contains_key.ensures
