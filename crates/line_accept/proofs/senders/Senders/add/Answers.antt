use Rattle.indexmap.proofs.CallerLemmas.{insert_entry-new}
use Rattle.std.proofs.Common.{◌∙◌, nat_eq}
use Rattle.std.specs.Cmp.Lexicographic.{pointwise}
use Rattle.line_accept.proofs.Places.{one_more, unknown}
use Rattle.line_accept.proofs.senders.Senders.add.Goals as goal

pub returns-clause-added : goal.returns-clause-added
returns-clause-added c =
    one_more (λ k. k.items) c.self.inside.fences.entries c.insert.new.self.entries c.args.self.now c.args.name c.args.fence c.self.view_is
    (c.in_ok-insert.ensures.entries ∙ insert_entry-new (λ x y. pointwise nat_eq x.items y.items) c.self.inside.fences c.args.name c.args.fence
    (unknown (λ k. k.items) c.args.name.items (record { epoch = 0; number = 0 }) c.self.inside.fences.entries c.args.self.now c.self.view_is
    c.requires))
