-- What the VIF alone makes of data that a further VIFE calls the manufacturer's own (EN 13757-3, 6.4).
use Rattle.std.specs.Prelude.{Bool, true, false, List, Option, Some, None, if◌then◌else◌}
use Rattle.std.specs.List.{list_any}
use Rattle.full_records.specs.declared.makers_own.PlainValue.{PlainValue}
use Rattle.full_records.specs.declared.qualifiers.Qualifier.{Qualifier}
use Rattle.full_records.specs.declared.qualifiers.QualifierName.{QualifierName}
use Rattle.full_records.specs.declared.qualifiers.QualifierName.TheVariants as qualifiers
use Rattle.full_records.specs.declared.quantities.FullUnitName.{FullUnitName}
use Rattle.full_records.specs.declared.values.FullValue.{FullValue}
use Rattle.full_records.specs.declared.values.FullValue.TheVariants as values

abbrev pub is_makers_own : QualifierName → Bool
is_makers_own qualifiers.MakersOwn = true
is_makers_own name = false

-- whether one of the further VIFEs says that the data are the manufacturer's own
abbrev pub are_makers_own : List Qualifier → Bool
are_makers_own qualifiers = list_any (λ q. is_makers_own q.name) qualifiers

-- whether there is something to tell of a value
abbrev pub is_told : FullValue → Bool
is_told values.Nothing = false
is_told values.Withheld = false
is_told values.Raw = false
is_told value = true

abbrev pub told_plain : FullValue → FullUnitName → Option PlainValue
told_plain value unit = if is_told value then Some (record { value = value; unit = unit }) else None

-- the value before any qualifier, where the qualifiers say that the data are the manufacturer's own
abbrev pub plain_behind : List Qualifier → FullValue → FullUnitName → Option PlainValue
plain_behind qualifiers value unit = if are_makers_own qualifiers then told_plain value unit else None
