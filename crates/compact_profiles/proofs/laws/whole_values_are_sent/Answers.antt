use Rattle.std.proofs.Common.{ap, sym, drop, slice_get, ◌∙◌}
use Rattle.record_values.specs.Values.{data_of}
use Rattle.compact_profiles.specs.Values.{values_in}
use Rattle.compact_profiles.proofs.Summing.{sent_whole}
use Rattle.compact_profiles.proofs.laws.whole_values_are_sent.Goals as goal

pub returns : goal.returns
returns c bytes span base p place v e mode there =
    sent_whole p span.storage base p.count (drop 2 (data_of bytes span)) place v mode
    (sym (ap (λ q. slice_get (values_in q span.storage base (drop 2 (data_of bytes span))) place) e) ∙ there)
