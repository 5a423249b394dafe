-- Factors and constants, exactly (EN 13757-3, 6.4): what qualifiers make of a number.
use Rattle.std.specs.Prelude.{ℕ, ◌^◌, List, [], ◌∷◌, Option, Some, None, ℤ, pos, negsuc, ◌+ℤ◌, ◌-ℤ◌, ◌*ℤ◌, unsigned_abs, int_le, nat_lt, if◌then◌else◌}
use Rattle.full_records.specs.declared.qualifiers.Effect.{Effect}
use Rattle.full_records.specs.declared.qualifiers.Effect.TheVariants as effects
use Rattle.full_records.specs.declared.qualifiers.Qualifier.{Qualifier}
use Rattle.full_records.specs.declared.values.FullValue.{FullValue}
use Rattle.full_records.specs.declared.values.FullValue.TheVariants as values
use Rattle.full_records.specs.Moments.{◌>>=◌}

-- a number that has at most 128 bits in two's complement, or none
abbrev pub short : ℤ → Option ℤ
short (pos n) = if nat_lt n (2 ^ 127) then Some (pos n) else None
short (negsuc n) = if nat_lt n (2 ^ 127) then Some (negsuc n) else None

-- a number plus a power of ten, the number counting ones
unfoldable pub plus_higher : ℤ → ℕ → Option ℤ
plus_higher whole gap = do
  power ← short (pos (10 ^ gap))
  short (whole +ℤ power)

-- a number plus one, the number counting a power of ten
unfoldable pub plus_lower : ℤ → ℕ → Option ℤ
plus_lower whole gap = do
  power ← short (pos (10 ^ gap))
  raised ← short (whole *ℤ power)
  short (raised +ℤ pos 1)

abbrev pub number_or_raw : ℤ → Option ℤ → FullValue
number_or_raw exponent (Some whole) = values.Number whole exponent
number_or_raw exponent None = values.Raw

-- Ten to a power is added, at the lower one of both powers: a sum of more than 128 bits is raw, and so is one with a real number.
abbrev pub increased : FullValue → ℤ → FullValue
increased (values.Number whole exponent) power =
    if int_le exponent power
    then number_or_raw exponent (plus_higher whole (unsigned_abs (power -ℤ exponent)))
    else number_or_raw power (plus_lower whole (unsigned_abs (power -ℤ exponent)))
increased (values.Real bits exponent) power = values.Raw
increased value power = value

-- multiplied by ten to a power
abbrev pub scaled : FullValue → ℤ → FullValue
scaled (values.Number whole exponent) power = values.Number whole (exponent +ℤ power)
scaled (values.Real bits exponent) power = values.Real bits (exponent +ℤ power)
scaled value power = value

-- what a qualifier makes of a value
abbrev pub changed : FullValue → Effect → FullValue
changed value (effects.Scaled power) = scaled value power
changed value (effects.Added power) = increased value power
changed value _ = value

-- a value behind its qualifiers, one after another
abbrev pub value_after : FullValue → List Qualifier → FullValue
value_after value [] = value
value_after value (q ∷ qualifiers) = value_after (changed value q.effect) qualifiers

-- the power of ten of a number
abbrev pub power_in : FullValue → ℤ
power_in (values.Number whole exponent) = exponent
power_in (values.Real bits exponent) = exponent
power_in value = pos 0
