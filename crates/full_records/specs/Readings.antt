-- How the data of a record are read: by its quantity, by its qualifiers, and by its data field (EN 13757-3, 6.3, 6.4 and annex A).
use Rattle.std.specs.Prelude.{ℕ, Bool, ◌||◌, List, [], ◌∷◌, Option, Some, None, pos, nat_lt, nat_le, ◌==◌, if◌then◌else◌}
use Rattle.record_values.specs.declared.units.Quantity.{Quantity}
use Rattle.record_values.specs.declared.units.Quantity.TheVariants as profile
use Rattle.record_values.specs.declared.units.UnitName.{UnitName}
use Rattle.record_values.specs.declared.units.UnitName.TheVariants as names
use Rattle.full_records.specs.declared.quantities.FullQuantity.{FullQuantity}
use Rattle.full_records.specs.declared.quantities.FullQuantity.TheVariants as quantities
use Rattle.full_records.specs.declared.quantities.FullUnitName.TheVariants as units
use Rattle.full_records.specs.declared.quantities.Measure.{Measure}
use Rattle.full_records.specs.declared.qualifiers.Effect.{Effect}
use Rattle.full_records.specs.declared.qualifiers.Effect.TheVariants as effects
use Rattle.full_records.specs.declared.qualifiers.Qualifier.{Qualifier}
use Rattle.full_records.specs.declared.readings.Kind.{Kind}
use Rattle.full_records.specs.declared.readings.Kind.TheVariants as kinds
use Rattle.full_records.specs.declared.readings.Reading.{Reading}
use Rattle.full_records.specs.declared.readings.DataType.{DataType}
use Rattle.full_records.specs.declared.readings.DataType.TheVariants as types

-- how the data of a quantity are read
abbrev pub profile_kind : Quantity → Kind
profile_kind profile.Unknown = kinds.Opaque
profile_kind profile.Manufacturer = kinds.Opaque
profile_kind profile.Date = kinds.Moment
profile_kind profile.DateTime = kinds.Moment
profile_kind profile.ErrorFlags = kinds.Bits
profile_kind _ = kinds.Number

abbrev pub kind_of : FullQuantity → Kind
kind_of (quantities.Profile quantity) = profile_kind quantity
kind_of quantities.ErrorMask = kinds.Bits
kind_of quantities.DigitalOutput = kinds.Bits
kind_of quantities.DigitalInput = kinds.Bits
kind_of quantities.TariffStart = kinds.Moment
kind_of quantities.BatteryChange = kinds.Moment
kind_of quantities.DaylightSaving = kinds.DaylightSaving
kind_of quantities.ListeningWindow = kinds.ListeningWindow
kind_of quantities.UserAccessCode = kinds.Withheld
kind_of quantities.OperatorAccessCode = kinds.Withheld
kind_of quantities.SystemOperatorAccessCode = kinds.Withheld
kind_of quantities.DeveloperAccessCode = kinds.Withheld
kind_of quantities.Password = kinds.Withheld
kind_of quantities.SecurityKey = kinds.Withheld
kind_of quantities.RadioContainer = kinds.Opaque
kind_of quantities.ManufacturerContainer = kinds.Opaque
kind_of _ = kinds.Number

-- how a measure is read, before any qualifier
abbrev pub reading : Measure → Reading
reading m = record { kind = kind_of m.quantity; unit = m.unit; exponent = m.exponent }

abbrev pub bare : Kind → UnitName → Reading
bare kind unit = record { kind = kind; unit = units.Profile unit; exponent = pos 0 }

-- what a qualifier makes of it
abbrev pub turned_by : Effect → Reading → Reading
turned_by effects.Stays r = r
turned_by effects.Dated r = bare kinds.Moment names.NoUnit
turned_by effects.Counted r = bare kinds.Number names.NoUnit
turned_by (effects.Lasts unit) r = bare kinds.Number unit
turned_by effects.Opaque r = bare kinds.Opaque names.NoUnit
turned_by effects.OtherUnit r = record { kind = r.kind; unit = units.NonMetric; exponent = r.exponent }
turned_by (effects.Scaled power) r = r
turned_by (effects.Added power) r = r

-- What nobody is to see stays so, whatever its qualifiers say.
abbrev pub turned_as : Kind → Effect → Reading → Reading
turned_as kinds.Withheld effect r = r
turned_as _ effect r = turned_by effect r

abbrev pub turned : Reading → Effect → Reading
turned r effect = turned_as r.kind effect r

abbrev pub reading_after : Reading → List Qualifier → Reading
reading_after r [] = r
reading_after r (q ∷ qualifiers) = reading_after (turned r q.effect) qualifiers

-- the type of a number, by its data field or its LVAR
abbrev pub number_type : ℕ → Option ℕ → DataType
number_type field None =
    if field == 0 then types.Untyped else
    (if field == 5 then types.Real else
    (if nat_le field 7 then types.Integer else
    types.Digits))
number_type field (Some lvar) =
    if nat_lt lvar 0xc0 then types.Text else
    (if nat_lt lvar 0xe0 then types.Digits else
    (if nat_lt lvar 0xf0 then types.Integer else
    types.Untyped))

-- whether there are no data, by the data field or by the LVAR
abbrev pub is_empty : ℕ → Option ℕ → Bool
is_empty field None = field == 0
is_empty field (Some lvar) = lvar == 0 || lvar == 0xc0 || lvar == 0xd0 || lvar == 0xe0

-- the type of data that are kept as bytes, if there are any
abbrev pub kept_type : DataType → ℕ → Option ℕ → DataType
kept_type type field lvar = if is_empty field lvar then types.Untyped else type

-- the type of a date or a time, by its data field
abbrev pub moment_type : ℕ → Option ℕ → DataType
moment_type field None =
    if field == 2 then types.Date else
    (if field == 3 then types.TimeOfDay else
    (if field == 4 then types.DateTime else
    (if field == 6 then types.DateTimeSeconds else
    types.Untyped)))
moment_type field (Some lvar) = kept_type types.ZonedDateTime field (Some lvar)

-- bits where the data are an integer
abbrev pub bits_type : DataType → DataType
bits_type types.Integer = types.BitArray
bits_type other = other

-- the type of data that are read as such
abbrev pub data_type : Kind → ℕ → Option ℕ → DataType
data_type kinds.Number field lvar = number_type field lvar
data_type kinds.Bits field lvar = bits_type (number_type field lvar)
data_type kinds.Moment field lvar = moment_type field lvar
data_type kinds.DaylightSaving field lvar = kept_type types.DaylightSaving field lvar
data_type kinds.ListeningWindow field lvar = kept_type types.ListeningWindow field lvar
data_type kinds.Withheld field lvar = kept_type types.Withheld field lvar
data_type kinds.Opaque field lvar = types.Untyped
