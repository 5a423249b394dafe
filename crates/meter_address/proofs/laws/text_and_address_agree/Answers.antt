use Rattle.meter_address.proofs.Texts.{spelt_once, one_text}
use Rattle.meter_address.proofs.laws.text_and_address_agree.Goals as goal

pub returns-clause-one_address : goal.returns-clause-one_address
returns-clause-one_address c = spelt_once

pub returns-clause-one_text : goal.returns-clause-one_text
returns-clause-one_text c = one_text
