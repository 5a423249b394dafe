use Rattle.std.proofs.Common.{◌≡◌, ◌%◌, refl, sym, subst}
use Rattle.full_records.specs.Measures.{measure}
use Rattle.full_records.specs.Readings.{reading, reading_after, data_type}
use Rattle.full_records.specs.Powers.{value_after}
use Rattle.full_records.specs.Records.{plain_value, unqualified_value}
use Rattle.full_records.proofs.laws.values_without_qualifiers.Goals as goal

pub returns : goal.returns
returns c = λ bytes span none.
    subst (λ qs.
    let r = reading_after (reading (measure bytes span)) qs in
    value_after (plain_value bytes span (data_type r.kind (span.dif % 16) span.lvar) r.exponent) qs ≡ unqualified_value bytes span
    ) (sym none) refl
