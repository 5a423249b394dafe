-- The device types in words.
use Rattle.std.specs.Prelude.{ℕ, List, codes, map, slice_index_or, Option, Some, None}
use Rattle.meter_label.specs.declared.device_types.TheConstants.{DEVICE_TYPES}

-- a device type in words: by its place in the table, from 0 on
abbrev pub word_of : ℕ → List ℕ
word_of kind = slice_index_or (map (λ word. word.now) DEVICE_TYPES) kind (codes "reserved")

-- the word that there is, as text
abbrev pub text_of : {A : Type 0} → Option A → (A → List ℕ) → List ℕ
text_of (Some word) text = text word
text_of None text = codes "reserved"
