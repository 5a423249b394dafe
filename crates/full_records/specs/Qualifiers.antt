-- What the further VIFEs say of a record (EN 13757-3, 6.4).
use Rattle.std.specs.Prelude.{ℕ, ◌+◌, ◌%◌, Bool, true, ◌&&◌, nat_le, ◌||◌, List, [], ◌∷◌, ℤ, pos, neg_ℤ, ◌==◌, if◌then◌else◌}
use Rattle.record_values.specs.declared.units.UnitName.TheVariants as names
use Rattle.full_records.specs.declared.qualifiers.QualifierName.{QualifierName}
use Rattle.full_records.specs.declared.qualifiers.QualifierName.TheVariants as qualifiers
use Rattle.full_records.specs.declared.qualifiers.Effect.{Effect}
use Rattle.full_records.specs.declared.qualifiers.Effect.TheVariants as effects
use Rattle.full_records.specs.declared.qualifiers.Qualifier.{Qualifier}
use Rattle.full_records.specs.declared.qualifiers.VifePlace.{VifePlace}
use Rattle.full_records.specs.declared.qualifiers.VifePlace.TheVariants.{Combinable, Extension, Own}

abbrev minus : ℕ → ℤ
minus n = neg_ℤ (pos n)

abbrev qualifier : ℕ → QualifierName → Effect → Qualifier
qualifier code name effect = record { code = code; name = name; effect = effect }

-- the combinable VIFEs, and what a meter reports of a record
abbrev pub combinable : List Qualifier
combinable =
    qualifier 0x01 qualifiers.TooManyDifes effects.Stays ∷
    qualifier 0x02 qualifiers.StorageNotImplemented effects.Stays ∷
    qualifier 0x03 qualifiers.UnitNotImplemented effects.Stays ∷
    qualifier 0x04 qualifiers.TariffNotImplemented effects.Stays ∷
    qualifier 0x05 qualifiers.FunctionNotImplemented effects.Stays ∷
    qualifier 0x06 qualifiers.DataClassNotImplemented effects.Stays ∷
    qualifier 0x07 qualifiers.DataSizeNotImplemented effects.Stays ∷
    qualifier 0x0b qualifiers.TooManyVifes effects.Stays ∷
    qualifier 0x0c qualifiers.IllegalVifGroup effects.Stays ∷
    qualifier 0x0d qualifiers.IllegalVifExponent effects.Stays ∷
    qualifier 0x0e qualifiers.VifDifMismatch effects.Stays ∷
    qualifier 0x0f qualifiers.ActionNotImplemented effects.Stays ∷
    qualifier 0x12 qualifiers.Average effects.Stays ∷
    qualifier 0x13 qualifiers.InverseCompactProfile effects.Opaque ∷
    qualifier 0x14 qualifiers.RelativeDeviation effects.Stays ∷
    qualifier 0x15 qualifiers.NoData effects.Stays ∷
    qualifier 0x16 qualifiers.DataOverflow effects.Stays ∷
    qualifier 0x17 qualifiers.DataUnderflow effects.Stays ∷
    qualifier 0x18 qualifiers.DataError effects.Stays ∷
    qualifier 0x1c qualifiers.PrematureEnd effects.Stays ∷
    qualifier 0x1d qualifiers.StandardConform effects.Stays ∷
    qualifier 0x1e qualifiers.NumberedCompactProfile effects.Opaque ∷
    qualifier 0x1f qualifiers.CompactProfile effects.Opaque ∷
    qualifier 0x20 qualifiers.PerSecond effects.Stays ∷
    qualifier 0x21 qualifiers.PerMinute effects.Stays ∷
    qualifier 0x22 qualifiers.PerHour effects.Stays ∷
    qualifier 0x23 qualifiers.PerDay effects.Stays ∷
    qualifier 0x24 qualifiers.PerWeek effects.Stays ∷
    qualifier 0x25 qualifiers.PerMonth effects.Stays ∷
    qualifier 0x26 qualifiers.PerYear effects.Stays ∷
    qualifier 0x27 qualifiers.PerRevolution effects.Stays ∷
    qualifier 0x28 qualifiers.PerInputPulse0 effects.Stays ∷
    qualifier 0x29 qualifiers.PerInputPulse1 effects.Stays ∷
    qualifier 0x2a qualifiers.PerOutputPulse0 effects.Stays ∷
    qualifier 0x2b qualifiers.PerOutputPulse1 effects.Stays ∷
    qualifier 0x2c qualifiers.PerLitre effects.Stays ∷
    qualifier 0x2d qualifiers.PerCubicMetre effects.Stays ∷
    qualifier 0x2e qualifiers.PerKilogram effects.Stays ∷
    qualifier 0x2f qualifiers.PerKelvin effects.Stays ∷
    qualifier 0x30 qualifiers.PerKilowattHour effects.Stays ∷
    qualifier 0x31 qualifiers.PerGigajoule effects.Stays ∷
    qualifier 0x32 qualifiers.PerKilowatt effects.Stays ∷
    qualifier 0x33 qualifiers.PerKelvinLitre effects.Stays ∷
    qualifier 0x34 qualifiers.PerVolt effects.Stays ∷
    qualifier 0x35 qualifiers.PerAmpere effects.Stays ∷
    qualifier 0x36 qualifiers.TimesSecond effects.Stays ∷
    qualifier 0x37 qualifiers.TimesSecondPerVolt effects.Stays ∷
    qualifier 0x38 qualifiers.TimesSecondPerAmpere effects.Stays ∷
    qualifier 0x39 qualifiers.StartOf effects.Dated ∷
    qualifier 0x3a qualifiers.Uncorrected effects.Stays ∷
    qualifier 0x3b qualifiers.Forward effects.Stays ∷
    qualifier 0x3c qualifiers.Backward effects.Stays ∷
    qualifier 0x3d qualifiers.NonMetric effects.OtherUnit ∷
    qualifier 0x3e qualifiers.AtBaseConditions effects.Stays ∷
    qualifier 0x3f qualifiers.ObisDeclaration effects.Opaque ∷
    qualifier 0x40 qualifiers.LowerLimit effects.Stays ∷
    qualifier 0x41 qualifiers.LowerExceeds effects.Counted ∷
    qualifier 0x42 qualifiers.FirstLowerExceedBegin effects.Dated ∷
    qualifier 0x43 qualifiers.FirstLowerExceedEnd effects.Dated ∷
    qualifier 0x46 qualifiers.LastLowerExceedBegin effects.Dated ∷
    qualifier 0x47 qualifiers.LastLowerExceedEnd effects.Dated ∷
    qualifier 0x48 qualifiers.UpperLimit effects.Stays ∷
    qualifier 0x49 qualifiers.UpperExceeds effects.Counted ∷
    qualifier 0x4a qualifiers.FirstUpperExceedBegin effects.Dated ∷
    qualifier 0x4b qualifiers.FirstUpperExceedEnd effects.Dated ∷
    qualifier 0x4e qualifiers.LastUpperExceedBegin effects.Dated ∷
    qualifier 0x4f qualifiers.LastUpperExceedEnd effects.Dated ∷
    qualifier 0x50 qualifiers.FirstLowerExceedDuration (effects.Lasts names.Second) ∷
    qualifier 0x51 qualifiers.FirstLowerExceedDuration (effects.Lasts names.Minute) ∷
    qualifier 0x52 qualifiers.FirstLowerExceedDuration (effects.Lasts names.Hour) ∷
    qualifier 0x53 qualifiers.FirstLowerExceedDuration (effects.Lasts names.Day) ∷
    qualifier 0x54 qualifiers.LastLowerExceedDuration (effects.Lasts names.Second) ∷
    qualifier 0x55 qualifiers.LastLowerExceedDuration (effects.Lasts names.Minute) ∷
    qualifier 0x56 qualifiers.LastLowerExceedDuration (effects.Lasts names.Hour) ∷
    qualifier 0x57 qualifiers.LastLowerExceedDuration (effects.Lasts names.Day) ∷
    qualifier 0x58 qualifiers.FirstUpperExceedDuration (effects.Lasts names.Second) ∷
    qualifier 0x59 qualifiers.FirstUpperExceedDuration (effects.Lasts names.Minute) ∷
    qualifier 0x5a qualifiers.FirstUpperExceedDuration (effects.Lasts names.Hour) ∷
    qualifier 0x5b qualifiers.FirstUpperExceedDuration (effects.Lasts names.Day) ∷
    qualifier 0x5c qualifiers.LastUpperExceedDuration (effects.Lasts names.Second) ∷
    qualifier 0x5d qualifiers.LastUpperExceedDuration (effects.Lasts names.Minute) ∷
    qualifier 0x5e qualifiers.LastUpperExceedDuration (effects.Lasts names.Hour) ∷
    qualifier 0x5f qualifiers.LastUpperExceedDuration (effects.Lasts names.Day) ∷
    qualifier 0x60 qualifiers.FirstDuration (effects.Lasts names.Second) ∷
    qualifier 0x61 qualifiers.FirstDuration (effects.Lasts names.Minute) ∷
    qualifier 0x62 qualifiers.FirstDuration (effects.Lasts names.Hour) ∷
    qualifier 0x63 qualifiers.FirstDuration (effects.Lasts names.Day) ∷
    qualifier 0x64 qualifiers.LastDuration (effects.Lasts names.Second) ∷
    qualifier 0x65 qualifiers.LastDuration (effects.Lasts names.Minute) ∷
    qualifier 0x66 qualifiers.LastDuration (effects.Lasts names.Hour) ∷
    qualifier 0x67 qualifiers.LastDuration (effects.Lasts names.Day) ∷
    qualifier 0x68 qualifiers.DuringLowerExceed effects.Stays ∷
    qualifier 0x69 qualifiers.Leakage effects.Stays ∷
    qualifier 0x6a qualifiers.FirstBegin effects.Dated ∷
    qualifier 0x6b qualifiers.FirstEnd effects.Dated ∷
    qualifier 0x6c qualifiers.DuringUpperExceed effects.Stays ∷
    qualifier 0x6d qualifiers.Overflow effects.Stays ∷
    qualifier 0x6e qualifiers.LastBegin effects.Dated ∷
    qualifier 0x6f qualifiers.LastEnd effects.Dated ∷
    qualifier 0x70 qualifiers.Factor (effects.Scaled (minus 6)) ∷
    qualifier 0x71 qualifiers.Factor (effects.Scaled (minus 5)) ∷
    qualifier 0x72 qualifiers.Factor (effects.Scaled (minus 4)) ∷
    qualifier 0x73 qualifiers.Factor (effects.Scaled (minus 3)) ∷
    qualifier 0x74 qualifiers.Factor (effects.Scaled (minus 2)) ∷
    qualifier 0x75 qualifiers.Factor (effects.Scaled (minus 1)) ∷
    qualifier 0x76 qualifiers.Factor (effects.Scaled (pos 0)) ∷
    qualifier 0x77 qualifiers.Factor (effects.Scaled (pos 1)) ∷
    qualifier 0x78 qualifiers.Constant (effects.Added (minus 3)) ∷
    qualifier 0x79 qualifiers.Constant (effects.Added (minus 2)) ∷
    qualifier 0x7a qualifiers.Constant (effects.Added (minus 1)) ∷
    qualifier 0x7b qualifiers.Constant (effects.Added (pos 0)) ∷
    qualifier 0x7c qualifiers.Extension effects.Stays ∷
    qualifier 0x7d qualifiers.Factor (effects.Scaled (pos 3)) ∷
    qualifier 0x7e qualifiers.Future effects.Stays ∷
    qualifier 0x7f qualifiers.MakersOwn effects.Opaque ∷
    []

-- Each code stands behind those before it, so that none is there twice.
abbrev pub codes_ascend : ℕ → List Qualifier → Bool
codes_ascend next [] = true
codes_ascend next (q ∷ rows) = nat_le next q.code && codes_ascend (q.code + 1) rows

-- a code that has no meaning here
abbrev pub kept : ℕ → Qualifier
kept code = qualifier code qualifiers.Kept effects.Stays

abbrev pub qualifier_in : List Qualifier → ℕ → Qualifier
qualifier_in [] code = kept code
qualifier_in (q ∷ rows) code = if q.code == code then q else qualifier_in rows code

-- A code of the combinable extension is kept as such, and so is one of the manufacturer's own.
abbrev pub qualifier_at : VifePlace → ℕ → Qualifier
qualifier_at Combinable code = qualifier_in combinable code
qualifier_at Extension code = qualifier code qualifiers.Extended effects.Stays
qualifier_at Own code = kept code

-- Behind 7C stands one code of the extension, and behind 7F everything is the manufacturer's own.
abbrev pub place_behind : VifePlace → ℕ → VifePlace
place_behind Combinable code = if code == 0x7c then Extension else (if code == 0x7f then Own else Combinable)
place_behind Extension code = Combinable
place_behind Own code = Own

-- what further VIFEs say, one behind another
abbrev pub qualifiers_from : VifePlace → List ℕ → List Qualifier
qualifiers_from place [] = []
qualifiers_from place (vife ∷ vifes) = qualifier_at place (vife % 128) ∷ qualifiers_from (place_behind place (vife % 128)) vifes

-- Behind the VIF 7F all is the manufacturer's own, and behind 6F that of a table which is reserved.
abbrev pub first_place : ℕ → VifePlace
first_place vif = if vif % 128 == 0x6f || vif % 128 == 0x7f then Own else Combinable
