-- Words of private contracts: an input that was taken in.
use Rattle.std.specs.Prelude.{ℕ, ◌≡◌, Bool, false, List, map}
use Rattle.std.specs.Str.Lines.{lines}
use Rattle.line_reader.specs.Lines.{is_over}
use Rattle.receivers.specs.declared.told.Told.{Told}
use Rattle.receivers.specs.Told.{told_of}

-- it is known whether it goes past the limits, and if not, what each of its lines told
pub record IsTakenIn (text : List ℕ) (over : Bool) (told : List Told) : Type 0 where
  pub over_is : over ≡ is_over text
  pub told_is : over ≡ false → told ≡ map told_of (lines text)
