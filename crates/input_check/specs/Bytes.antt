-- What is wrong with the bytes of a state or a roster as a whole.
use Rattle.std.specs.Prelude.{ℕ, ◌==◌, ◌&&◌, Bool, false, List, [], ◌∷◌, ◌++◌, drop, codes, if◌then◌else◌}
use Rattle.std.specs.List.{list_any}

-- a byte order mark of UTF-8 stands in front
abbrev pub has_mark : List ℕ → Bool
has_mark (a ∷ b ∷ c ∷ rest) = a == 239 && b == 187 && c == 191
has_mark bytes = false

-- the text behind the mark
abbrev pub unmarked : List ℕ → List ℕ
unmarked bytes = if has_mark bytes then drop 3 bytes else bytes

abbrev pub has_byte : ℕ → List ℕ → Bool
has_byte byte bytes = list_any (λ b. b == byte) bytes

-- what is said of a file; the word says what the file is
unfoldable pub said_of : List ℕ → List ℕ → List ℕ
said_of word words = word ++ codes ": " ++ words

abbrev pub mark_words : List ℕ → List ℕ → List ℕ
mark_words word bytes =
    if has_mark bytes
    then said_of word (codes "a byte order mark (ef bb bf) stands in front, which is no part of it: save it without one\n")
    else []

abbrev pub tab_words : List ℕ → List ℕ → List ℕ
tab_words word bytes =
    if has_byte 9 bytes then said_of word (codes "there are tabs in it: write one space in the place of each\n") else []

abbrev pub return_words : List ℕ → List ℕ → List ℕ
return_words word bytes =
    if has_byte 13 bytes
    then said_of word (codes "there are carriage returns in it: one in front of a newline is right, any other is not\n")
    else []

-- what may be behind the faults of a file with these bytes; the word says what the file is
unfoldable pub bytes_words : List ℕ → List ℕ → List ℕ
bytes_words word bytes = tab_words word bytes ++ return_words word bytes
