-- The texts of a program's own.
use Rattle.std.specs.Prelude.{ℕ, ◌≡◌, ◌⊎◌, Bool, List, [], ◌∷◌, codes, nat_eq, if◌then◌else◌, Option, Some, None, is_some}
use Rattle.std.specs.Cmp.Lexicographic.{pointwise}
use Rattle.program_words.specs.declared.own_texts.OwnText.{OwnText}
use Rattle.program_words.specs.declared.own_texts.OwnText.TheVariants as texts

-- the text of the program's own that the words ask for, where they ask for one
abbrev pub own_text : List (List ℕ) → Option OwnText
own_text (word ∷ []) =
    if pointwise nat_eq word (codes "--help") then Some texts.Help
    else if pointwise nat_eq word (codes "--version") then Some texts.Version
    else None
own_text _ = None

-- of the help and the version, the one that is meant
abbrev pub text_of : OwnText → List ℕ → List ℕ → List ℕ
text_of texts.Help help version = help
text_of texts.Version help version = version

abbrev pub asks_for_text : List (List ℕ) → Bool
asks_for_text words = is_some (own_text words)

-- a text of the program's own was printed (0), or can't be written
abbrev pub IsTold : ℕ → ℕ → Type 0
IsTold unwritten status = (status ≡ 0) ⊎ (status ≡ unwritten)
