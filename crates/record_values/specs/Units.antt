-- The quantity and the unit of a record, by the tables of VIF codes (EN 13757-3, 6.4).
use Rattle.std.specs.Prelude.{◌≡◌, ◌≤◌, Some, slice_get, ℕ, ◌+◌, ◌-◌, ◌%◌, Bool, ◌&&◌, List, [], ◌∷◌, ℤ, pos, neg_ℤ, ◌+ℤ◌, int_le, nat_le, ◌==◌, if◌then◌else◌, slice_index}
use Rattle.dif_vif.specs.declared.span.RecordSpan.{RecordSpan}
use Rattle.record_values.specs.declared.units.Quantity.{Quantity}
use Rattle.record_values.specs.declared.units.Quantity.TheVariants.{Energy, Volume, Mass, OnTime, OperatingTime, Power, Flow, MassFlow, FlowTemperature, ReturnTemperature, TemperatureDifference, ExternalTemperature, Pressure, Date, DateTime, Hca, AveragingDuration, ActualityDuration, Fabrication, Identification, Address, Plain, Any, Manufacturer, AccessNumber, ErrorFlags, Voltage, Current, Unknown}
use Rattle.record_values.specs.declared.units.UnitName.{UnitName}
use Rattle.record_values.specs.declared.units.UnitName.TheVariants.{WattHour, Joule, CubicMetre, Kilogram, Second, Minute, Hour, Day, Watt, JoulePerHour, CubicMetrePerHour, CubicMetrePerMinute, CubicMetrePerSecond, KilogramPerHour, Celsius, Kelvin, Bar, Volt, Ampere, MegawattHour, Gigajoule, NoUnit}
use Rattle.record_values.specs.declared.units.Unit.{Unit}
use Rattle.record_values.specs.declared.unit_tables.UnitRow.{UnitRow}

abbrev minus : ℕ → ℤ
minus n = neg_ℤ (pos n)

-- the codes from first to last: the first has the least exponent, each other one has one more
abbrev row : ℕ → ℕ → Quantity → UnitName → ℤ → UnitRow
row first last quantity name least = record { first = first; last = last; quantity = quantity; name = name; least = least }

-- the codes of a VIF
abbrev pub primary : List UnitRow
primary =
    row 0x00 0x07 Energy WattHour (minus 3) ∷
    row 0x08 0x0f Energy Joule (pos 0) ∷
    row 0x10 0x17 Volume CubicMetre (minus 6) ∷
    row 0x18 0x1f Mass Kilogram (minus 3) ∷
    row 0x20 0x20 OnTime Second (pos 0) ∷
    row 0x21 0x21 OnTime Minute (pos 0) ∷
    row 0x22 0x22 OnTime Hour (pos 0) ∷
    row 0x23 0x23 OnTime Day (pos 0) ∷
    row 0x24 0x24 OperatingTime Second (pos 0) ∷
    row 0x25 0x25 OperatingTime Minute (pos 0) ∷
    row 0x26 0x26 OperatingTime Hour (pos 0) ∷
    row 0x27 0x27 OperatingTime Day (pos 0) ∷
    row 0x28 0x2f Power Watt (minus 3) ∷
    row 0x30 0x37 Power JoulePerHour (pos 0) ∷
    row 0x38 0x3f Flow CubicMetrePerHour (minus 6) ∷
    row 0x40 0x47 Flow CubicMetrePerMinute (minus 7) ∷
    row 0x48 0x4f Flow CubicMetrePerSecond (minus 9) ∷
    row 0x50 0x57 MassFlow KilogramPerHour (minus 3) ∷
    row 0x58 0x5b FlowTemperature Celsius (minus 3) ∷
    row 0x5c 0x5f ReturnTemperature Celsius (minus 3) ∷
    row 0x60 0x63 TemperatureDifference Kelvin (minus 3) ∷
    row 0x64 0x67 ExternalTemperature Celsius (minus 3) ∷
    row 0x68 0x6b Pressure Bar (minus 3) ∷
    row 0x6c 0x6c Date NoUnit (pos 0) ∷
    row 0x6d 0x6d DateTime NoUnit (pos 0) ∷
    row 0x6e 0x6e Hca NoUnit (pos 0) ∷
    row 0x70 0x70 AveragingDuration Second (pos 0) ∷
    row 0x71 0x71 AveragingDuration Minute (pos 0) ∷
    row 0x72 0x72 AveragingDuration Hour (pos 0) ∷
    row 0x73 0x73 AveragingDuration Day (pos 0) ∷
    row 0x74 0x74 ActualityDuration Second (pos 0) ∷
    row 0x75 0x75 ActualityDuration Minute (pos 0) ∷
    row 0x76 0x76 ActualityDuration Hour (pos 0) ∷
    row 0x77 0x77 ActualityDuration Day (pos 0) ∷
    row 0x78 0x78 Fabrication NoUnit (pos 0) ∷
    row 0x79 0x79 Identification NoUnit (pos 0) ∷
    row 0x7a 0x7a Address NoUnit (pos 0) ∷
    row 0x7c 0x7c Plain NoUnit (pos 0) ∷
    row 0x7e 0x7e Any NoUnit (pos 0) ∷
    row 0x7f 0x7f Manufacturer NoUnit (pos 0) ∷
    []

-- the codes of the first VIFE after the VIF FD
abbrev pub after_fd : List UnitRow
after_fd =
    row 0x08 0x08 AccessNumber NoUnit (pos 0) ∷
    row 0x17 0x17 ErrorFlags NoUnit (pos 0) ∷
    row 0x40 0x4f Voltage Volt (minus 9) ∷
    row 0x50 0x5f Current Ampere (minus 12) ∷
    []

-- the codes of the first VIFE after the VIF FB
abbrev pub after_fb : List UnitRow
after_fb =
    row 0x00 0x01 Energy MegawattHour (minus 1) ∷
    row 0x08 0x09 Energy Gigajoule (minus 1) ∷
    []

-- the unit of a code by its row
abbrev pub unit_by : UnitRow → ℕ → ℕ → ℕ → Unit
unit_by r code modifiers_at modifiers =
    record {
      quantity = r.quantity;
      name = r.name;
      exponent = r.least +ℤ pos (code - r.first);
      modifiers_at = modifiers_at;
      modifiers = modifiers;
    }

-- the unit of a code by a table: unknown where no row has it
abbrev pub unit_in : List UnitRow → ℕ → ℕ → ℕ → Unit
unit_in [] code modifiers_at modifiers =
    record { quantity = Unknown; name = NoUnit; exponent = pos 0; modifiers_at = modifiers_at; modifiers = modifiers }
unit_in (r ∷ rows) code modifiers_at modifiers =
    if nat_le r.first code && nat_le code r.last
    then unit_by r code modifiers_at modifiers
    else unit_in rows code modifiers_at modifiers

-- Each code of each row has the unit of that row, whatever rows stand before it.
abbrev pub EachRowCounts : List UnitRow → Type 0
EachRowCounts rows =
    (place : ℕ) (r : UnitRow) (code modifiers_at modifiers : ℕ) → slice_get rows place ≡ Some r → r.first ≤ code → code ≤ r.last
    → unit_in rows code modifiers_at modifiers ≡ unit_by r code modifiers_at modifiers

-- The exponents of a row are small.
abbrev pub is_scaled : UnitRow → Bool
is_scaled r = nat_le r.last (r.first + 15) && (int_le (minus 12) r.least && int_le r.least (pos 0))

-- The unit of a span: by the code of its VIF, or after FB and FD by that of its first VIFE, which then is no modifier.
-- Manufacturer data have no unit.
abbrev pub unit : List ℕ → RecordSpan → Unit
unit bytes span =
    if span.maker
    then record { quantity = Manufacturer; name = NoUnit; exponent = pos 0; modifiers_at = span.vifes_at; modifiers = span.vifes }
    else
    (if span.vif == 0xfb then unit_in after_fb (slice_index bytes span.vifes_at % 128) (span.vifes_at + 1) (span.vifes - 1) else
    (if span.vif == 0xfd then unit_in after_fd (slice_index bytes span.vifes_at % 128) (span.vifes_at + 1) (span.vifes - 1) else
    unit_in primary (span.vif % 128) span.vifes_at span.vifes))
