use Rattle.message_check.proofs.LayerLaws.{one_reading}
use Rattle.message_check.proofs.laws.a_telegram_has_one_reading.Goals as goal

pub returns : goal.returns
returns c = one_reading
