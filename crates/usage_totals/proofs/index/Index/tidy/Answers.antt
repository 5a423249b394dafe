use Rattle.std.proofs.Common.{◌≡◌, Some, [], ap, ◌∙◌}
use Rattle.std.specs.Map.{lookup}
use Rattle.std.specs.BTreeMap.{is_at}
use Rattle.usage_totals.specs.declared.key.UsageKey.{UsageKey}
use Rattle.usage_totals.specs.Keys.{key_cmp}
use Rattle.usage_totals.specs.Indexed.{indexed}
use Rattle.usage_totals.proofs.Walks.{tidied}
use Rattle.usage_totals.proofs.index.Index.tidy.Goals as goal
use Rattle.usage_totals.proofs.index.Index.tidy.Goals.{in-Some-1, in-None-1}

pub returns-then-is_bare : goal.returns-then-is_bare
returns-then-is_bare c =
    let key = c.args.key.now in
    let old = c.self.inside.by_key.entries in
    let bare : lookup (is_at (key_cmp key)) old ≡ Some [] =
    ap (lookup (is_at (key_cmp key))) c.self.view_is ∙ c.is_bare.ensures c.if-is_bare.true in
    let same : (q : UsageKey) → indexed q c.remove.new.self.entries ≡ indexed q c.args.self.now =
    λ q. tidied key q old c.remove.new.self.entries bare (c.remove.ensures.updates.0 q) ∙ ap (indexed q) c.self.view_is in
    elim c.match-remove.branch [
      | in-Some-1 w ↦ λ q. ap (indexed q) w.self-is ∙ same q
      | in-None-1 w ↦ λ q. ap (indexed q) w.self-is ∙ same q
    ]
