-- What is written in words is read back.
use Rattle.std.specs.Prelude.{ℕ, ◌≡◌, ◌<◌, ◌≤◌, ◌^◌, List, [], ◌∷◌, ◌++◌, Some}
use Rattle.std.specs.List.{join_with_byte}
use Rattle.std.specs.Fmt.{decimal}
use Rattle.std.specs.Str.Lines.{lines}
use Rattle.hex.specs.Hex.{encode_lower, IsBytes}
use Rattle.lists.specs.Each.{Each}
use Rattle.plain_text.specs.Numbers.{number_of}
use Rattle.plain_text.specs.Parts.{fields_of}
use Rattle.written_words.specs.Words.{IsWord, IsPrinted}

-- a number is a word, and read back
pub record IsNumberBack (most n : ℕ) : Type 0 where
  pub word : IsWord (decimal n)
  pub number : number_of most (decimal n) ≡ Some n

abbrev pub NumbersAreReadBack : Type 0
NumbersAreReadBack = (most n : ℕ) → most < 2 ^ 64 → n ≤ most → IsNumberBack most n

-- bytes in hexadecimal digits are a word
abbrev pub DigitsAreWords : Type 0
DigitsAreWords = (bytes : List ℕ) → IsBytes bytes → IsWord (encode_lower bytes)

-- words with a blank between two of them are the fields of their line, and may stand in one
pub record AreFields (words : List (List ℕ)) : Type 0 where
  pub fields : fields_of (join_with_byte 32 words) ≡ words
  pub printed : IsPrinted (join_with_byte 32 words)

abbrev pub WordsAreFields : Type 0
WordsAreFields = (word : List ℕ) (words : List (List ℕ)) → IsWord word → Each IsWord words → AreFields (word ∷ words)

-- a line and its newline, in front of others
abbrev pub LinesAreReadBack : Type 0
LinesAreReadBack = (text rest : List ℕ) → IsPrinted text → lines ((text ++ 10 ∷ []) ++ rest) ≡ text ∷ lines rest
