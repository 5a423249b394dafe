use Rattle.std.proofs.Common.{◌∙◌, ap}
use Rattle.receivers.specs.Told.{told_by_reading, told_of}
use Rattle.address_list.proofs.telling.told_in.Goals as goal

pub returns-in-Ok : goal.returns-in-Ok
unfolding told_of
returns-in-Ok c = c.tell.ensures ∙ ap told_by_reading c.in-Ok.ensures

pub returns-in-Err : goal.returns-in-Err
unfolding told_of
returns-in-Err c = ap told_by_reading c.in-Err.ensures
