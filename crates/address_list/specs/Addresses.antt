-- What is printed of lines.
use Rattle.std.specs.Prelude.{ℕ, List, [], ◌∷◌, ◌++◌, codes}
use Rattle.meter_address.specs.Address.{text_of}
use Rattle.receivers.specs.declared.told.Told.{Told}
use Rattle.receivers.specs.declared.told.Told.TheVariants as told
use Rattle.receivers.specs.Told.{told_of}

-- the address of the meter that an event is for, in sixteen digits; a dash for bytes that are no frame and for a line outside the grammar
abbrev pub told_text : Told → List ℕ
told_text (told.Event address event) = text_of address
told_text told.Unframed = codes "-"
told_text told.Bad = codes "-"

-- what is printed of a line, without its newline
abbrev pub address_text : List ℕ → List ℕ
address_text line = told_text (told_of line)

-- what is printed of a line that tells this
unfoldable pub line_text : Told → List ℕ
line_text told = told_text told ++ codes "\n"

-- what is printed of lines, one after another
abbrev pub addresses_text : List (List ℕ) → List ℕ
addresses_text [] = []
addresses_text (line ∷ lines) = line_text (told_of line) ++ addresses_text lines
