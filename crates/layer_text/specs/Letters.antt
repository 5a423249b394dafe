-- The letters of a manufacturer, as text.
use Rattle.std.specs.Prelude.{ℕ, List, codes, Option, Some, None}

-- the three letters, or a dash for none
abbrev pub letters_text : Option (List ℕ) → List ℕ
letters_text None = codes "-"
letters_text (Some letters) = letters
