-- The decimal text of a number is that number.
use Rattle.std.specs.Prelude.{ℕ, ℤ, ◌≡◌, ◌*◌, ◌^◌, ◌<◌, List, [], ◌∷◌, ◌++◌, length, unsigned_abs, int_lt, pos, codes, if◌then◌else◌}
use Rattle.std.specs.Str.Parse.{digits_value}
use Rattle.full_text.specs.Decimals.{sign_of, decimal_text}

-- the power of ten by which an exponent multiplies, and the one by which it divides
abbrev pub above : ℤ → ℕ
above exponent = if int_lt exponent (pos 0) then 0 else unsigned_abs exponent

abbrev pub below : ℤ → ℕ
below exponent = if int_lt exponent (pos 0) then unsigned_abs exponent else 0

-- what stands behind the whole digits: a point and further ones, or nothing
abbrev pub behind_point : List ℕ → List ℕ
behind_point [] = []
behind_point (digit ∷ digits) = codes "." ++ digit ∷ digits

-- A text writes a number times ten to the power of an exponent: behind the sign stand digits, which without the point among them write
-- the number
-- times ten to the power that multiplies; and as many stand behind the point as the power that divides says.
pub record Writes (text : List ℕ) (number exponent : ℤ) : Type 0 where
  pub whole : List ℕ
  pub behind : List ℕ
  pub text_is : text ≡ sign_of number ++ (whole ++ behind_point behind)
  pub some : 0 < length whole
  pub value : digits_value 10 (whole ++ behind) ≡ unsigned_abs number * 10 ^ above exponent
  pub places : length behind ≡ below exponent

-- the decimal text of every number of at most 64 digits, which all numbers of 128 bits are
abbrev pub DecimalsAreExact : Type 0
DecimalsAreExact = (number exponent : ℤ) → unsigned_abs number < 10 ^ 64 → Writes (decimal_text number exponent) number exponent
