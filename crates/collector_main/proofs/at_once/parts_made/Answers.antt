use Rattle.std.proofs.Common.{sym, ◌∙◌}
use Rattle.std.proofs.lemmas.List.{same_lists}
use Rattle.collector_main.proofs.at_once.parts_made.Goals as goal

pub returns : goal.returns
returns g c =
    sym (same_lists c.in-Ok.parts.items c.make_each.new.parts.items (sym c.make_each.ensures.as_many)
    (λ k d l. sym (c.make_each.ensures.each k d l)))
    ∙ c.in-Ok.ensures
