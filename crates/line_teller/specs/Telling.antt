-- What is told of lines, one after another.
use Rattle.std.specs.Prelude.{ℕ, ◌≡◌, ◌+◌, List, [], ◌∷◌, ◌++◌}
use Rattle.paper.specs.InMemory.{Kept, Keeps}

-- Of the first line this text and this note are told, and of the lines behind it the later ones.
pub record TellsFirst {T : Type 0} (tells : List ℕ → List ℕ → T → Type 0) (rest : T → List ℕ → List ℕ
    → Type 0) (text note : List ℕ) : Type 0 where
  pub next : T
  pub first_text : List ℕ
  pub first_note : List ℕ
  pub later_text : List ℕ
  pub later_note : List ℕ
  pub told : tells first_text first_note next
  pub later : rest next later_text later_note
  pub text_is : text ≡ first_text ++ later_text
  pub note_is : note ≡ first_note ++ later_note

-- Lines, numbered from a number on, are told by a text and a note, each line by the teller that the lines before it left.
abbrev pub AreTold : {T : Type 0} → (T → ℕ → List ℕ → List ℕ → List ℕ → T → Type 0) → ℕ → T → List (List ℕ) → List ℕ → List ℕ → T → Type 0
AreTold tells number teller [] text note last = (text ≡ []) × (note ≡ []) × (last ≡ teller)
AreTold tells number teller (line ∷ lines) text note last =
    TellsFirst (tells teller number line) (λ next text note. AreTold tells (number + 1) next lines text note last) text note

-- ---- words of contracts of one line

-- A line is told: its text and its note stand behind what is on the two sheets, unless there was no memory for them.
pub record Tells {T : Type 0} (tells : List ℕ → List ℕ → T → Type 0) (teller : T) (text text' note note' : Kept) : Type 0 where
  pub told_text : List ℕ
  pub told_note : List ℕ
  pub told : tells told_text told_note teller
  pub text_kept : Keeps text told_text text'
  pub note_kept : Keeps note told_note note'
