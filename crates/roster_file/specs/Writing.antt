-- Words of private contracts: the line of a meter in three pieces.
use Rattle.std.specs.Prelude.{ℕ, List, ◌++◌, codes}
use Rattle.std.specs.Fmt.{decimal}
use Rattle.hex.specs.Hex.{encode_lower}
use Rattle.meter_address.specs.Address.{text_of}
use Rattle.meter_address.specs.Commission.{Commissioned}
use Rattle.roster_file.specs.Text.{mode_text, other_text, last_text}

unfoldable pub name_text : Commissioned → List ℕ
name_text c = codes "meter " ++ text_of c.address ++ codes " " ++ mode_text c.mode ++ codes " "

unfoldable pub keys_text : Commissioned → List ℕ
keys_text c = encode_lower c.key ++ codes " " ++ other_text c.other ++ codes " "

unfoldable pub counts_text : Commissioned → List ℕ
counts_text c = last_text c.last ++ codes " " ++ decimal c.down ++ codes " " ++ decimal c.ids ++ codes "\n"
