-- Words of contracts of one line.
use Rattle.std.specs.Prelude.{ℕ, ◌≡◌, List, []}
use Rattle.receivers.specs.Told.{told_of}
use Rattle.address_list.specs.declared.telling.Addresses.{Addresses}
use Rattle.address_list.specs.Addresses.{line_text}

-- of a line this is printed, and nothing is noted
pub record TellsAddress (old : Addresses) (number : ℕ) (line text note : List ℕ) (new : Addresses) : Type 0 where
  pub text_is : text ≡ line_text (told_of line)
  pub note_is : note ≡ []
