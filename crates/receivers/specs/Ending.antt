-- How a receiver's run ends.
use Rattle.std.specs.Prelude.{ℕ, ◌≡◌, ◌<◌, List, [], ◌∷◌, ◌++◌, take, length}
use Rattle.line_reader.specs.Lines.{all_lines}
use Rattle.line_reader.specs.Reader.{IsAtEnd, IsPastLimit, IsBrokenOff}
use Rattle.meter_slots.specs.declared.counts.Ended.{Ended}
use Rattle.meter_slots.specs.declared.counts.Ended.TheVariants as ends
use Rattle.receivers.specs.declared.told.Told.{Told}
use Rattle.receivers.specs.Told.{told_of}

-- one more line was given, and it tells this
pub record TellsNext (told : Told) (old new : List (List ℕ)) : Type 0 where
  pub text : List ℕ
  pub more : new ≡ old ++ text ∷ []
  pub tells : told_of text ≡ told

-- the first lines of the bytes taken were heard, and the downlink of the last one couldn't be written
pub record IsUnsent (taken : List ℕ) (lines : List (List ℕ)) : Type 0 where
  pub first_ones : lines ≡ take (length lines) (all_lines taken)
  pub some : 0 < length lines

-- the first lines of the bytes taken were heard, and there was no memory for the next one
pub record IsUnkept (taken : List ℕ) (lines : List (List ℕ)) : Type 0 where
  pub first_ones : lines ≡ take (length lines) (all_lines taken)
  pub one_more : length lines < length (all_lines taken)

-- what an end says of the bytes taken, of those that are left, and of the lines heard
abbrev pub IsEnding : Ended → (taken left : List ℕ) → List (List ℕ) → Type 0
IsEnding ends.End taken left lines = IsAtEnd taken left lines
IsEnding ends.Cut taken left lines = IsPastLimit taken left lines
IsEnding ends.ReadFault taken left lines = IsBrokenOff taken lines
IsEnding ends.TxFault taken left lines = IsUnsent taken lines
IsEnding ends.Memory taken left lines = IsUnkept taken lines
