use Rattle.meter_side_main.proofs.Genuineness.{contents_are_payloads}
use Rattle.meter_side_main.proofs.laws.contents_are_payloads.Goals as goal

pub returns : goal.returns
returns c = contents_are_payloads
