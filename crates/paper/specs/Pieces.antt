-- Pieces of text that many texts share.
use Rattle.std.specs.Prelude.{ℕ, List, [], ◌++◌, codes, Option, Some, None}
use Rattle.std.specs.Fmt.{decimal}
use Rattle.hex.specs.Hex.{encode_lower}

-- a number, or a dash for none
abbrev pub optional_text : Option ℕ → List ℕ
optional_text None = codes "-"
optional_text (Some n) = decimal n

-- a word and its number
unfoldable pub labelled : List ℕ → ℕ → List ℕ
labelled word n = word ++ decimal n

-- a word and its two numbers
unfoldable pub labelled_two : List ℕ → ℕ → ℕ → List ℕ
labelled_two word n m = word ++ decimal n ++ codes " " ++ decimal m

-- a word and its number, or nothing for none
abbrev pub labelled_if : List ℕ → Option ℕ → List ℕ
labelled_if word None = []
labelled_if word (Some n) = labelled word n

-- a word and bytes in hexadecimal
unfoldable pub labelled_bytes : List ℕ → List ℕ → List ℕ
labelled_bytes word bytes = word ++ encode_lower bytes

-- what there is, as text
abbrev pub text_if : {A : Type 0} → (A → List ℕ) → Option A → List ℕ
text_if text None = []
text_if text (Some a) = text a
