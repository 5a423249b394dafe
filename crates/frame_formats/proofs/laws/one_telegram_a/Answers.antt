use Rattle.frame_formats.specs.declared.format.Format.TheVariants as formats
use Rattle.frame_formats.proofs.EitherFormat.{one_telegram}
use Rattle.frame_formats.proofs.laws.one_telegram_a.Goals as goal

pub returns : goal.returns
returns c = one_telegram formats.A
