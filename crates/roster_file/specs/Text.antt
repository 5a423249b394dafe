-- The text of a roster, in version 2.
use Rattle.std.specs.Prelude.{ℕ, List, [], ◌∷◌, ◌++◌, codes, Option, Some, None}
use Rattle.std.specs.List.{flat_map, join_with_byte}
use Rattle.std.specs.Fmt.{decimal}
use Rattle.hex.specs.Hex.{encode_lower}
use Rattle.meter_address.specs.declared.commission.Mode.{Mode}
use Rattle.meter_address.specs.declared.commission.Mode.TheVariants.{Five, Seven}
use Rattle.meter_address.specs.declared.address.Address.{Address}
use Rattle.meter_address.specs.Address.{text_of}
use Rattle.meter_address.specs.Commission.{Commissioned}
use Rattle.roster_file.specs.Roster.{Enrolled}

-- fields with one space between two of them, and a newline
abbrev pub line_of : List (List ℕ) → List ℕ
line_of fields = join_with_byte 32 fields ++ codes "\n"

abbrev pub mode_text : Mode → List ℕ
mode_text Five = codes "5"
mode_text Seven = codes "7"

abbrev pub other_text : Option (List ℕ) → List ℕ
other_text None = codes "-"
other_text (Some key) = encode_lower key

abbrev pub last_text : Option ℕ → List ℕ
last_text None = codes "-"
last_text (Some n) = decimal n

-- the fields of a meter's line
abbrev pub meter_fields : Commissioned → List (List ℕ)
meter_fields c =
    codes "meter" ∷ text_of c.address ∷ mode_text c.mode ∷ encode_lower c.key ∷ other_text c.other ∷ last_text c.last
    ∷ decimal c.down ∷ decimal c.ids ∷ []

unfoldable pub meter_text : Commissioned → List ℕ
meter_text c = line_of (meter_fields c)

unfoldable pub own_text : Address → List ℕ
own_text own = line_of (codes "own" ∷ text_of own ∷ [])

-- the head, the own line, and a line for each meter
unfoldable pub roster_text : Enrolled → List ℕ
roster_text r = codes "wmbus-roster 2\n" ++ own_text r.own ++ flat_map meter_text r.meters
