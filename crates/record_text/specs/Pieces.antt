-- The register and the unit of a record, as text.
use Rattle.std.specs.Prelude.{ℕ, ℤ, List, ◌++◌, codes}
use Rattle.std.specs.Fmt.{signed_decimal}
use Rattle.paper.specs.Pieces.{labelled}
use Rattle.record_values.specs.declared.units.Quantity.{Quantity}
use Rattle.record_values.specs.declared.units.UnitName.{UnitName}
use Rattle.record_text.specs.Words.{quantity_text, name_text}

-- what the DIF and its extensions say: the storage number, the tariff and the subunit
unfoldable pub register_text : ℕ → ℕ → ℕ → List ℕ
register_text storage tariff subunit = labelled (codes " ") storage ++ labelled (codes " ") tariff ++ labelled (codes " ") subunit

-- what the VIF says: the quantity, the unit and the power of ten
unfoldable pub unit_text : Quantity → UnitName → ℤ → List ℕ
unit_text quantity name exponent =
    codes " " ++ quantity_text quantity ++ codes " " ++ name_text name ++ codes " " ++ signed_decimal exponent
