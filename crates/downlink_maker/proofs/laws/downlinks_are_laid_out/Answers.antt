-- Every downlink is laid out.
use Rattle.downlink_maker.proofs.ReadBack.{is_laid_out}
use Rattle.downlink_maker.proofs.laws.downlinks_are_laid_out.Goals as goal

pub returns : goal.returns
returns c = is_laid_out
