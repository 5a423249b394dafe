use Rattle.meter_label.proofs.Agreeing.{named_to, named_from, addressed_to, addressed_from}
use Rattle.meter_label.proofs.laws.labels_and_addresses_agree.Goals as goal

pub returns-clause-named : goal.returns-clause-named
returns-clause-named c address label = (named_to address label, named_from address label)

pub returns-clause-addressed : goal.returns-clause-addressed
returns-clause-addressed c address label fits fit = (addressed_to address label fits, addressed_from address label fit)
