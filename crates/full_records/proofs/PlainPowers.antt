-- The power of ten of a value before any qualifier is that of its unit, or 0.
use Rattle.std.proofs.Common.{◌≡◌, ℕ, ◌≤◌, Bool, eqb, leb, cond, List, length, Option, Some, None, arith, ℤ, pos, negsuc, unsigned_abs, FitsSigned, w8}
use Rattle.std.proofs.lemmas.Bool.{cond_both}
use Rattle.dif_vif.specs.Numbers.{low_first}
use Rattle.record_values.specs.declared.values.Value.{Value}
use Rattle.record_values.specs.declared.values.Value.TheVariants as profile
use Rattle.record_values.specs.Values.{number_value}
use Rattle.full_records.specs.declared.readings.DataType.{DataType}
use Rattle.full_records.specs.declared.readings.DataType.TheVariants as types
use Rattle.full_records.specs.declared.values.FullValue.{FullValue}
use Rattle.full_records.specs.declared.values.FullValue.TheVariants as values
use Rattle.full_records.specs.Moments.{day_in, time_in, moment_in, long_moment_in}
use Rattle.full_records.specs.Values.{unread, numbered, found, value_as}
use Rattle.full_records.specs.Powers.{power_in}

-- no power of ten, or that of the unit
abbrev IsPlain : ℤ → FullValue → Type 0
IsPlain exponent v = unsigned_abs (power_in v) ≤ unsigned_abs exponent

nothing : (exponent : ℤ) → 0 ≤ unsigned_abs exponent
nothing exponent = omega arith

either : (test : Bool) (exponent : ℤ) (v w : FullValue) → IsPlain exponent v → IsPlain exponent w → IsPlain exponent (cond test v w)
either test exponent v w p q = cond_both test v w (IsPlain exponent) (λ _. p) (λ _. q)

numbered_is : (exponent : ℤ) (v : Value) → IsPlain exponent (numbered exponent v)
numbered_is exponent (profile.Whole n) = omega arith
numbered_is exponent _ = nothing exponent

found_is : {A : Type 0} (exponent : ℤ) (value : A → FullValue) (x : Option A) → ((y : A) → IsPlain exponent (value y))
    → IsPlain exponent (found value x)
found_is exponent value (Some x) p = p x
found_is exponent value None p = nothing exponent

module _ (exponent : ℤ) (sent : List ℕ) where
  unread_is : IsPlain exponent (unread sent)
  unread_is = either (eqb (length sent) 0) exponent values.Nothing values.Raw (nothing exponent) (nothing exponent)

  if_read : (test : Bool) (v : FullValue) → IsPlain exponent v → IsPlain exponent (cond test v (unread sent))
  if_read test v p = either test exponent v (unread sent) p unread_is

  value_is : (type : DataType) (field : ℕ) (lvar : Option ℕ) → IsPlain exponent (value_as type exponent field lvar sent)
  value_is types.Digits field lvar = numbered_is exponent (number_value field lvar sent)
  value_is types.Integer field lvar = numbered_is exponent (number_value field lvar sent)
  value_is types.Text field lvar = numbered_is exponent (number_value field lvar sent)
  value_is types.BitArray field lvar = if_read (leb (length sent) 15) (values.Bits (low_first 256 sent)) (nothing exponent)
  value_is types.Real field lvar = if_read (eqb (length sent) 4) (values.Real (low_first 256 sent) exponent) (omega arith)
  value_is types.Date field lvar =
      if_read (eqb (length sent) 2) _ (found_is exponent values.Day (day_in (low_first 256 sent) 0 0) (λ y. nothing exponent))
  value_is types.TimeOfDay field lvar =
      if_read (eqb (length sent) 3) _ (found_is exponent values.Time (time_in (low_first 256 sent)) (λ y. nothing exponent))
  value_is types.DateTime field lvar =
      if_read (eqb (length sent) 4) _ (found_is exponent values.Moment (moment_in (low_first 256 sent)) (λ y. nothing exponent))
  value_is types.DateTimeSeconds field lvar =
      if_read (eqb (length sent) 6) _ (found_is exponent values.LongMoment (long_moment_in (low_first 256 sent)) (λ y. nothing exponent))
  value_is types.Withheld field lvar =
      either (eqb (length sent) 0) exponent values.Nothing values.Withheld (nothing exponent) (nothing exponent)
  value_is _ field lvar = unread_is

-- a power of ten of eight bits is small
abs_small : (z : ℤ) → FitsSigned w8 z → unsigned_abs z ≤ 128
abs_small (pos n) fits = omega (arith, fits.sfits)
abs_small (negsuc n) fits = omega (arith, fits.sfits)

pub is_small : (v : FullValue) (type : DataType) (exponent said : ℤ) (field : ℕ) (lvar : Option ℕ) (sent : List ℕ)
    → v ≡ value_as type said field lvar sent → said ≡ exponent → FitsSigned w8 exponent → unsigned_abs (power_in v) ≤ 128
is_small v type exponent said field lvar sent is same fits =
    rw (is, same) (omega (arith, value_is exponent sent type field lvar, abs_small exponent fits))
