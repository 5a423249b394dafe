use Rattle.std.proofs.Common.{ap, length, drop, ◌∙◌}
use Rattle.record_values.specs.Values.{data_of}
use Rattle.compact_profiles.specs.Values.{values_in}
use Rattle.compact_profiles.proofs.Bounds.{profile_fits}
use Rattle.compact_profiles.proofs.Summing.{length-values}
use Rattle.compact_profiles.proofs.laws.values_are_counted.Goals as goal

pub returns : goal.returns
returns c bytes span base p e = (
  ap (λ q. length (values_in q span.storage base (drop 2 (data_of bytes span)))) e ∙ length-values p span.storage base p.count _,
  (profile_fits _ (data_of bytes span) p e).whole,
)
