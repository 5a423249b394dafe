-- A label as text.
use Rattle.std.specs.Prelude.{ℕ, List, [], ◌∷◌, ◌++◌, codes}
use Rattle.hex.specs.Hex.{encode_lower}
use Rattle.meter_label.specs.declared.label.Label.{Label}

-- two bytes in hexadecimal, each behind a space
unfoldable pub bytes_behind : ℕ → ℕ → List ℕ
bytes_behind first second = codes " " ++ encode_lower (first ∷ []) ++ codes " " ++ encode_lower (second ∷ [])

-- the four words of a label, with spaces between them
unfoldable pub label_text : Label → List ℕ
label_text label = label.letters ++ codes " " ++ encode_lower label.identification ++ bytes_behind label.version label.kind
