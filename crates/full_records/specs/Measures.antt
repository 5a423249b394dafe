-- What a record measures and in which unit, by all codes of a VIF and of its first VIFE (EN 13757-3, 6.4).
use Rattle.std.specs.Prelude.{Option, Some, None, ℕ, ◌+◌, ◌-◌, ◌%◌, Bool, true, ◌&&◌, ◌||◌, List, [], ◌∷◌, ℤ, pos, neg_ℤ, ◌+ℤ◌, int_le, nat_le, ◌==◌, if◌then◌else◌, slice_index}
use Rattle.dif_vif.specs.declared.span.RecordSpan.{RecordSpan}
use Rattle.record_values.specs.declared.units.Quantity.{Quantity}
use Rattle.record_values.specs.declared.units.Quantity.TheVariants as profile
use Rattle.record_values.specs.declared.units.UnitName.TheVariants as names
use Rattle.record_values.specs.declared.units.Unit.{Unit}
use Rattle.record_values.specs.Units.{unit}
use Rattle.full_records.specs.declared.quantities.FullQuantity.{FullQuantity}
use Rattle.full_records.specs.declared.quantities.FullQuantity.TheVariants as quantities
use Rattle.full_records.specs.declared.quantities.FullUnitName.{FullUnitName}
use Rattle.full_records.specs.declared.quantities.FullUnitName.TheVariants as units
use Rattle.full_records.specs.declared.quantities.Measure.{Measure}
use Rattle.full_records.specs.declared.further_tables.FurtherRow.{FurtherRow}

abbrev minus : ℕ → ℤ
minus n = neg_ℤ (pos n)

-- the codes from first to last: the first has the least exponent, each other one has one more
abbrev row : ℕ → ℕ → FullQuantity → FullUnitName → ℤ → FurtherRow
row first last quantity unit least = record { first = first; last = last; quantity = quantity; unit = unit; least = least }

-- the codes of the first VIFE after the VIF FD that the profile leaves out
abbrev pub further_fd : List FurtherRow
further_fd =
    row 0x00 0x03 quantities.Credit units.Currency (minus 3) ∷
    row 0x04 0x07 quantities.Debit units.Currency (minus 3) ∷
    row 0x09 0x09 quantities.DeviceType (units.Profile names.NoUnit) (pos 0) ∷
    row 0x0a 0x0a quantities.ManufacturerCode (units.Profile names.NoUnit) (pos 0) ∷
    row 0x0b 0x0b quantities.ParameterSet (units.Profile names.NoUnit) (pos 0) ∷
    row 0x0c 0x0c quantities.ModelVersion (units.Profile names.NoUnit) (pos 0) ∷
    row 0x0d 0x0d quantities.HardwareVersion (units.Profile names.NoUnit) (pos 0) ∷
    row 0x0e 0x0e quantities.FirmwareVersion (units.Profile names.NoUnit) (pos 0) ∷
    row 0x0f 0x0f quantities.SoftwareVersion (units.Profile names.NoUnit) (pos 0) ∷
    row 0x10 0x10 quantities.CustomerLocation (units.Profile names.NoUnit) (pos 0) ∷
    row 0x11 0x11 quantities.Customer (units.Profile names.NoUnit) (pos 0) ∷
    row 0x12 0x12 quantities.UserAccessCode (units.Profile names.NoUnit) (pos 0) ∷
    row 0x13 0x13 quantities.OperatorAccessCode (units.Profile names.NoUnit) (pos 0) ∷
    row 0x14 0x14 quantities.SystemOperatorAccessCode (units.Profile names.NoUnit) (pos 0) ∷
    row 0x15 0x15 quantities.DeveloperAccessCode (units.Profile names.NoUnit) (pos 0) ∷
    row 0x16 0x16 quantities.Password (units.Profile names.NoUnit) (pos 0) ∷
    row 0x18 0x18 quantities.ErrorMask (units.Profile names.NoUnit) (pos 0) ∷
    row 0x19 0x19 quantities.SecurityKey (units.Profile names.NoUnit) (pos 0) ∷
    row 0x1a 0x1a quantities.DigitalOutput (units.Profile names.NoUnit) (pos 0) ∷
    row 0x1b 0x1b quantities.DigitalInput (units.Profile names.NoUnit) (pos 0) ∷
    row 0x1c 0x1c quantities.BaudRate units.Baud (pos 0) ∷
    row 0x1d 0x1d quantities.ResponseDelay units.BitTime (pos 0) ∷
    row 0x1e 0x1e quantities.Retries (units.Profile names.NoUnit) (pos 0) ∷
    row 0x1f 0x1f quantities.RemoteControl (units.Profile names.NoUnit) (pos 0) ∷
    row 0x20 0x20 quantities.FirstStorage (units.Profile names.NoUnit) (pos 0) ∷
    row 0x21 0x21 quantities.LastStorage (units.Profile names.NoUnit) (pos 0) ∷
    row 0x22 0x22 quantities.StorageBlockSize (units.Profile names.NoUnit) (pos 0) ∷
    row 0x23 0x23 quantities.TariffDescriptor (units.Profile names.NoUnit) (pos 0) ∷
    row 0x24 0x24 quantities.StorageInterval (units.Profile names.Second) (pos 0) ∷
    row 0x25 0x25 quantities.StorageInterval (units.Profile names.Minute) (pos 0) ∷
    row 0x26 0x26 quantities.StorageInterval (units.Profile names.Hour) (pos 0) ∷
    row 0x27 0x27 quantities.StorageInterval (units.Profile names.Day) (pos 0) ∷
    row 0x28 0x28 quantities.StorageInterval units.Month (pos 0) ∷
    row 0x29 0x29 quantities.StorageInterval units.Year (pos 0) ∷
    row 0x2a 0x2a quantities.OperatorData (units.Profile names.NoUnit) (pos 0) ∷
    row 0x2b 0x2b quantities.TimePointSecond (units.Profile names.NoUnit) (pos 0) ∷
    row 0x2c 0x2c quantities.ReadoutAge (units.Profile names.Second) (pos 0) ∷
    row 0x2d 0x2d quantities.ReadoutAge (units.Profile names.Minute) (pos 0) ∷
    row 0x2e 0x2e quantities.ReadoutAge (units.Profile names.Hour) (pos 0) ∷
    row 0x2f 0x2f quantities.ReadoutAge (units.Profile names.Day) (pos 0) ∷
    row 0x30 0x30 quantities.TariffStart (units.Profile names.NoUnit) (pos 0) ∷
    row 0x31 0x31 quantities.TariffDuration (units.Profile names.Minute) (pos 0) ∷
    row 0x32 0x32 quantities.TariffDuration (units.Profile names.Hour) (pos 0) ∷
    row 0x33 0x33 quantities.TariffDuration (units.Profile names.Day) (pos 0) ∷
    row 0x34 0x34 quantities.TariffPeriod (units.Profile names.Second) (pos 0) ∷
    row 0x35 0x35 quantities.TariffPeriod (units.Profile names.Minute) (pos 0) ∷
    row 0x36 0x36 quantities.TariffPeriod (units.Profile names.Hour) (pos 0) ∷
    row 0x37 0x37 quantities.TariffPeriod (units.Profile names.Day) (pos 0) ∷
    row 0x38 0x38 quantities.TariffPeriod units.Month (pos 0) ∷
    row 0x39 0x39 quantities.TariffPeriod units.Year (pos 0) ∷
    row 0x3a 0x3a quantities.Dimensionless (units.Profile names.NoUnit) (pos 0) ∷
    row 0x3b 0x3b quantities.RadioContainer (units.Profile names.NoUnit) (pos 0) ∷
    row 0x3c 0x3c quantities.TransmissionPeriod (units.Profile names.Second) (pos 0) ∷
    row 0x3d 0x3d quantities.TransmissionPeriod (units.Profile names.Minute) (pos 0) ∷
    row 0x3e 0x3e quantities.TransmissionPeriod (units.Profile names.Hour) (pos 0) ∷
    row 0x3f 0x3f quantities.TransmissionPeriod (units.Profile names.Day) (pos 0) ∷
    row 0x60 0x60 quantities.ResetCounter (units.Profile names.NoUnit) (pos 0) ∷
    row 0x61 0x61 quantities.CumulationCounter (units.Profile names.NoUnit) (pos 0) ∷
    row 0x62 0x62 quantities.ControlSignal (units.Profile names.NoUnit) (pos 0) ∷
    row 0x63 0x63 quantities.DayOfWeek (units.Profile names.NoUnit) (pos 0) ∷
    row 0x64 0x64 quantities.WeekNumber (units.Profile names.NoUnit) (pos 0) ∷
    row 0x65 0x65 quantities.DayChangeTime (units.Profile names.NoUnit) (pos 0) ∷
    row 0x66 0x66 quantities.ParameterActivation (units.Profile names.NoUnit) (pos 0) ∷
    row 0x67 0x67 quantities.SupplierInformation (units.Profile names.NoUnit) (pos 0) ∷
    row 0x68 0x68 quantities.CumulationAge (units.Profile names.Hour) (pos 0) ∷
    row 0x69 0x69 quantities.CumulationAge (units.Profile names.Day) (pos 0) ∷
    row 0x6a 0x6a quantities.CumulationAge units.Month (pos 0) ∷
    row 0x6b 0x6b quantities.CumulationAge units.Year (pos 0) ∷
    row 0x6c 0x6c quantities.BatteryOperatingTime (units.Profile names.Hour) (pos 0) ∷
    row 0x6d 0x6d quantities.BatteryOperatingTime (units.Profile names.Day) (pos 0) ∷
    row 0x6e 0x6e quantities.BatteryOperatingTime units.Month (pos 0) ∷
    row 0x6f 0x6f quantities.BatteryOperatingTime units.Year (pos 0) ∷
    row 0x70 0x70 quantities.BatteryChange (units.Profile names.NoUnit) (pos 0) ∷
    row 0x71 0x71 quantities.RadioLevel units.DecibelMilliwatt (pos 0) ∷
    row 0x72 0x72 quantities.DaylightSaving (units.Profile names.NoUnit) (pos 0) ∷
    row 0x73 0x73 quantities.ListeningWindow (units.Profile names.NoUnit) (pos 0) ∷
    row 0x74 0x74 quantities.RemainingBatteryLife (units.Profile names.Day) (pos 0) ∷
    row 0x75 0x75 quantities.StopCount (units.Profile names.NoUnit) (pos 0) ∷
    row 0x76 0x76 quantities.ManufacturerContainer (units.Profile names.NoUnit) (pos 0) ∷
    []

-- the codes of the first VIFE after the VIF FB that the profile leaves out
abbrev pub further_fb : List FurtherRow
further_fb =
    row 0x02 0x03 quantities.ReactiveEnergy units.KilovarHour (pos 0) ∷
    row 0x04 0x05 quantities.ApparentEnergy units.KilovoltAmpereHour (pos 0) ∷
    row 0x0c 0x0f (quantities.Profile profile.Energy) units.Megacalorie (minus 1) ∷
    row 0x10 0x11 (quantities.Profile profile.Volume) (units.Profile names.CubicMetre) (pos 2) ∷
    row 0x14 0x17 quantities.ReactivePower units.Kilovar (minus 3) ∷
    row 0x18 0x19 (quantities.Profile profile.Mass) units.Tonne (pos 2) ∷
    row 0x1a 0x1b quantities.RelativeHumidity units.Percent (minus 1) ∷
    row 0x20 0x20 (quantities.Profile profile.Volume) units.CubicFoot (pos 0) ∷
    row 0x21 0x21 (quantities.Profile profile.Volume) units.CubicFoot (minus 1) ∷
    row 0x28 0x29 (quantities.Profile profile.Power) units.Megawatt (minus 1) ∷
    row 0x2a 0x2a quantities.VoltagePhase units.Degree (minus 1) ∷
    row 0x2b 0x2b quantities.CurrentPhase units.Degree (minus 1) ∷
    row 0x2c 0x2f quantities.Frequency units.Hertz (minus 3) ∷
    row 0x30 0x31 (quantities.Profile profile.Power) units.GigajoulePerHour (minus 1) ∷
    row 0x34 0x37 quantities.ApparentPower units.KilovoltAmpere (minus 3) ∷
    row 0x74 0x77 quantities.TemperatureLimit (units.Profile names.Celsius) (minus 3) ∷
    row 0x78 0x7f quantities.CumulatedMaximumPower (units.Profile names.Watt) (minus 3) ∷
    []

-- what a code stands for by its row
abbrev pub measure_by : FurtherRow → ℕ → Measure
measure_by r code = record { quantity = r.quantity; unit = r.unit; exponent = r.least +ℤ pos (code - r.first) }

-- a quantity that isn't in the standard
abbrev pub unknown : Measure
unknown = record { quantity = quantities.Profile profile.Unknown; unit = units.Profile names.NoUnit; exponent = pos 0 }

-- what a code stands for by a table
abbrev pub measure_in : List FurtherRow → ℕ → Measure
measure_in [] code = unknown
measure_in (r ∷ rows) code =
    if nat_le r.first code && nat_le code r.last
    then measure_by r code
    else measure_in rows code

-- Each row begins at a code or behind it, and the next ones behind its last: no code is in two rows, so that each row holds as it stands.
abbrev pub ascends : ℕ → List FurtherRow → Bool
ascends next [] = true
ascends next (r ∷ rows) = nat_le next r.first && (nat_le r.first r.last && ascends (r.last + 1) rows)

-- The exponents of a row are small.
abbrev pub is_scaled : FurtherRow → Bool
is_scaled r = nat_le r.last (r.first + 15) && (int_le (minus 12) r.least && int_le r.least (pos 2))

-- what the profile says
abbrev pub as_profile : Unit → Measure
as_profile u = record { quantity = quantities.Profile u.quantity; unit = units.Profile u.name; exponent = u.exponent }

-- what the profile says where it names a quantity, and else what stands in the further table
abbrev pub named_or : Quantity → Measure → Measure → Measure
named_or profile.Unknown named further = further
named_or _ named further = named

-- the VIFs whose code stands in the first VIFE
abbrev pub announces_code : ℕ → Bool
announces_code vif = vif == 0xfb || vif == 0xfd

-- the code in the first VIFE
abbrev pub code_behind : List ℕ → RecordSpan → Option ℕ
code_behind bytes span =
    if span.maker then None else
    (if announces_code span.vif then Some (slice_index bytes span.vifes_at % 128) else
    None)

abbrev pub rows_behind : ℕ → List FurtherRow
rows_behind vif = if vif == 0xfb then further_fb else further_fd

abbrev pub measured : Unit → List FurtherRow → Option ℕ → Measure
measured u rows None = as_profile u
measured u rows (Some code) = named_or u.quantity (as_profile u) (measure_in rows code)

-- what a span measures, before any qualifier
abbrev pub measure : List ℕ → RecordSpan → Measure
measure bytes span = measured (unit bytes span) (rows_behind span.vif) (code_behind bytes span)
