use Rattle.std.proofs.Common.{refl, ap}
use Rattle.paper.proofs.Calls.{none}
use Rattle.line_teller.proofs.Keeping.{told_by}
use Rattle.address_list.specs.Addresses.{line_text}
use Rattle.address_list.proofs.telling.AddressesTeller.tell.Goals as goal

pub returns : goal.returns
returns c =
    told_by _ _ _ _ _ _ _ _ c.put_line.ensures none (record { text_is = ap line_text c.told_in.ensures; note_is = refl })
