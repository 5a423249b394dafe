use Rattle.std.proofs.Common.{refl, ap, sym}
use Rattle.paper.proofs.Calls.{none}
use Rattle.line_reader.proofs.LinesLemmas.{too_long}
use Rattle.line_teller.proofs.Keeping.{told_by}
use Rattle.receivers.specs.Told.{told_by_reading, told_of}
use Rattle.address_list.specs.Addresses.{line_text}
use Rattle.address_list.proofs.telling.AddressesTeller.tell_long.Goals as goal

pub returns : goal.returns
unfolding told_of
returns c = λ line long.
    told_by _ _ _ _ _ _ _ _ c.put_line.ensures none (record { text_is = ap (λ l. line_text (told_by_reading l)) (sym (too_long line long)); note_is = refl })
