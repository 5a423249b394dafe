use Rattle.std.proofs.Common.{ap, sym, ◌∙◌}
use Rattle.receivers.specs.Receiver.{Receiving}
use Rattle.receivers.proofs.receiver.Receiver.hear_all.Goals as goal

pub hear_lines-ended-requires-clause-fresh : goal.hear_lines-ended-requires-clause-fresh
hear_lines-ended-requires-clause-fresh g c =
    (c.self.invariant (ap (λ (r : Receiving _ _). r.ended) c.self.view_is ∙ c.requires.fresh)).no_line

pub hear_lines-ended-requires-clause-goes_on : goal.hear_lines-ended-requires-clause-goes_on
hear_lines-ended-requires-clause-goes_on g c =
    (c.self.invariant (ap (λ (r : Receiving _ _). r.ended) c.self.view_is ∙ c.requires.fresh)).goes_on

pub hear_lines-ended-requires-clause-counts : goal.hear_lines-ended-requires-clause-counts
hear_lines-ended-requires-clause-counts g c =
    (c.self.invariant (ap (λ (r : Receiving _ _). r.ended) c.self.view_is ∙ c.requires.fresh)).counted

pub returns-clause-heard : goal.returns-clause-heard
returns-clause-heard g c = rw (sym c.self.view_is) c.hear_lines-ended.ensures.heard

pub returns-clause-untaken : goal.returns-clause-untaken
returns-clause-untaken g c = rw (sym c.self.view_is)
    (c.self.invariant (ap (λ (r : Receiving _ _). r.ended) c.self.view_is ∙ c.requires.fresh)).nothing_taken
