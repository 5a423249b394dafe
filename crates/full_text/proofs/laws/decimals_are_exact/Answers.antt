use Rattle.full_text.proofs.Exact.{decimals_exact}
use Rattle.full_text.proofs.laws.decimals_are_exact.Goals as goal

pub returns : goal.returns
returns c = decimals_exact
