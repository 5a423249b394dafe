use Rattle.dif_vif.proofs.Digits.{low_first-reverse}
use Rattle.dif_vif.proofs.laws.digits_in_reverse.Goals as goal

pub returns : goal.returns
returns c = low_first-reverse
