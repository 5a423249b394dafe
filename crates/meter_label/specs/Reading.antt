-- A label from its words.
use Rattle.std.specs.Prelude.{ℕ, ◌&&◌, List, [], ◌∷◌, Option, Some, None, Result, Ok, Err, if◌then◌else◌}
use Rattle.std.specs.Result.{result_ok}
use Rattle.hex.specs.Hex.{decode_sized}
use Rattle.lists.specs.Steps.{◌>>=◌}
use Rattle.meter_label.specs.declared.label.Label.{Label}
use Rattle.meter_label.specs.declared.reading.LabelFault.{LabelFault}
use Rattle.meter_label.specs.declared.reading.LabelFault.TheVariants as faults
use Rattle.meter_label.specs.Label.{is_capital}

abbrev pub or_fault : {A : Type 0} → LabelFault → Option A → Result A LabelFault
or_fault fault (Some x) = Ok x
or_fault fault None = Err fault

-- three capital letters
abbrev pub letters_in : List ℕ → Option (List ℕ)
letters_in (a ∷ b ∷ c ∷ []) = if is_capital a && is_capital b && is_capital c then Some (a ∷ b ∷ c ∷ []) else None
letters_in word = None

-- four bytes, eight hexadecimal digits of either case
abbrev pub identification_in : List ℕ → Option (List ℕ)
identification_in word = result_ok (decode_sized word 4)

abbrev pub only_byte : Option (List ℕ) → Option ℕ
only_byte (Some (byte ∷ [])) = Some byte
only_byte _ = None

-- one byte, two hexadecimal digits of either case
abbrev pub byte_in : List ℕ → Option ℕ
byte_in word = only_byte (result_ok (decode_sized word 1))

-- the label of four words, or the first of them that can't be one
unfoldable pub label_in : List ℕ → List ℕ → List ℕ → List ℕ → Result Label LabelFault
label_in letters identification version kind = do
  maker ← or_fault faults.Letters (letters_in letters)
  number ← or_fault faults.Identification (identification_in identification)
  made ← or_fault faults.Version (byte_in version)
  type ← or_fault faults.Kind (byte_in kind)
  Ok (record { letters = maker; identification = number; version = made; kind = type })
