use Rattle.full_records.proofs.Plain.{unqualified_agrees}
use Rattle.full_records.proofs.laws.values_are_the_profiles.Goals as goal

pub returns : goal.returns
returns c = λ bytes span is named other. unqualified_agrees bytes span is named other
