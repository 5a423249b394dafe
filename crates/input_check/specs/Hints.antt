-- What is said of a meter.
use Rattle.std.specs.Prelude.{ℕ, List, [], ◌++◌, codes, Option, Some, None}
use Rattle.std.specs.List.{flat_map}
use Rattle.hex.specs.Hex.{encode_lower}
use Rattle.meter_address.specs.declared.address.Address.{Address}
use Rattle.meter_address.specs.Address.{bytes_of}
use Rattle.meter_label.specs.declared.label.Label.{Label}
use Rattle.meter_label.specs.Label.{label_of}
use Rattle.meter_label.specs.Texts.{label_text}
use Rattle.meter_label.specs.DeviceTypes.{word_of}
use Rattle.input_check.specs.declared.hints.Hint.{Hint}
use Rattle.input_check.specs.declared.hints.Hint.TheVariants as hints
use Rattle.input_check.specs.declared.hints.Note.{Note}
use Rattle.input_check.specs.Texts.{between}

unfoldable pub turned_text : Address → List ℕ
turned_text turned =
    codes "it was not heard, but with its bytes turned round it is " ++ encode_lower (bytes_of turned)
    ++ codes ", which was heard or stands in the roster: write that in its place?"

unfoldable pub shared_text : Address → List ℕ
shared_text other =
    codes "it has the same key as meter " ++ encode_lower (bytes_of other) ++ codes ": one of the two may have been copied wrongly"

abbrev pub hint_text : Hint → List ℕ
hint_text hints.EqualBytes = codes "its key is sixteen equal bytes: ask the maker for the right one"
hint_text (hints.SharedKey other) = shared_text other
hint_text hints.Unheard = codes "it was not heard: is it in reach, and is its address that of the label (meter_name)?"
hint_text (hints.Turned turned) = turned_text turned
hint_text (hints.Stranger count) = between (codes "it is not in the roster, and was heard ") count (codes " times")

unfoldable pub name_text : Label → List ℕ
name_text label = codes " (" ++ label_text label ++ codes " " ++ word_of label.kind ++ codes ")"

-- what stands on the label, where the address has one
abbrev pub name_text_if : Option Label → List ℕ
name_text_if None = []
name_text_if (Some label) = name_text label

unfoldable pub note_text : Note → List ℕ
note_text note =
    codes "meter " ++ encode_lower (bytes_of note.address) ++ name_text_if (label_of note.address) ++ codes ": " ++ hint_text note.hint
    ++ codes "\n"

abbrev pub notes_text : List Note → List ℕ
notes_text notes = flat_map note_text notes
