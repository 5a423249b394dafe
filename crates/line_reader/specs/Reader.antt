-- What callers see of the lines of a source, and what each answer says.
use Rattle.std.specs.Prelude.{ℕ, ◌≡◌, ◌<◌, length, Bool, true, false, List, [], ◌∷◌, ◌++◌, take, Result, Ok, Err, refl}
use Rattle.std.specs.Coded.{Coded, code_by, coded×, coded_list, coded_ℕ, coded_bool}
use Rattle.line_reader.specs.Grammar.{line_of}
use Rattle.line_reader.specs.Lines.{is_over, whole_lines, all_lines}
use Rattle.line_reader.specs.declared.line.Line.{Line}
use Rattle.line_reader.specs.declared.line.BadLine.{BadLine}
use Rattle.line_reader.specs.declared.next.Next.{Next}
use Rattle.line_reader.specs.declared.next.Next.TheVariants as next
use Rattle.line_reader.specs.declared.next.NextText.{NextText}
use Rattle.line_reader.specs.declared.next.NextText.TheVariants as texts
use Rattle.line_reader.specs.declared.next.ReadFault.{ReadFault}

-- a source whose lines are read, the number of the last line given, and whether no more is given
pub record Reader (S : Type 0) : Type 0 where
  pub source : S
  pub line : ℕ
  pub done : Bool

abbrev pub reader_code : {S : Type 0} → Coded S → Coded (Reader S)
reader_code {S} code =
    code_by (S × (ℕ × Bool)) (coded× code (coded× coded_ℕ coded_bool)) (λ r. (r.source, (r.line, r.done)))
    (λ p. record { source = p.0; line = p.1.0; done = p.1.1 }) (λ _. refl)

-- the same where lines are read as bytes: the most bytes of a line, and those of the last line given, none where it is too long
pub record TextReading (S : Type 0) : Type 0 where
  pub reader : Reader S
  pub longest : ℕ
  pub text : List ℕ

abbrev pub text_reading_code : {S : Type 0} → Coded S → Coded (TextReading S)
text_reading_code {S} code =
    code_by (Reader S × (ℕ × List ℕ)) (coded× (reader_code code) (coded× coded_ℕ (coded_list coded_ℕ)))
    (λ r. (r.reader, (r.longest, r.text)))
    (λ p. record { reader = p.0; longest = p.1.0; text = p.1.1 }) (λ _. refl)

-- the lines given so far, bad ones too: the first ones of all lines of the bytes taken
abbrev pub given : {S : Type 0} → (S → List ℕ) → Reader S → List (List ℕ)
given taken reader = take reader.line (all_lines (taken reader.source))

-- the answer that gives a line which says this
abbrev pub next_of : Result Line BadLine → Next
next_of (Ok line) = next.Line line
next_of (Err bad) = next.Bad bad

-- whether an answer gives a line
abbrev pub gives_line : Result Next ReadFault → Bool
gives_line (Ok (next.Line line)) = true
gives_line (Ok (next.Bad bad)) = true
gives_line (Ok next.End) = false
gives_line (Ok next.Cut) = false
gives_line (Err fault) = false

-- whether an answer gives a line
abbrev pub gives_text : Result NextText ReadFault → Bool
gives_text (Ok texts.Line) = true
gives_text (Ok texts.TooLong) = true
gives_text (Ok texts.End) = false
gives_text (Ok texts.Cut) = false
gives_text (Err fault) = false

-- one more line was given, which has more bytes than a line may have
pub record GivesLongLine (longest : ℕ) (old new : List (List ℕ)) : Type 0 where
  pub line : List ℕ
  pub more : new ≡ old ++ line ∷ []
  pub long : longest < length line

-- one more line was given, which is lent, or it is too long, and the other answers give none
abbrev pub GivesText : Result NextText ReadFault → ℕ → List ℕ → (old new : List (List ℕ)) → Type 0
GivesText (Ok texts.Line) longest text old new = new ≡ old ++ text ∷ []
GivesText (Ok texts.TooLong) longest text old new = GivesLongLine longest old new
GivesText (Ok texts.End) longest text old new = new ≡ old
GivesText (Ok texts.Cut) longest text old new = new ≡ old
GivesText (Err fault) longest text old new = new ≡ old

-- one more line was given, and it says this
pub record GivesLine (said : Result Line BadLine) (old new : List (List ℕ)) : Type 0 where
  pub text : List ℕ
  pub more : new ≡ old ++ text ∷ []
  pub says : line_of text ≡ said

-- a line or a bad line is one more line, and the other answers give none
abbrev pub Gives : Result Next ReadFault → (old new : List (List ℕ)) → Type 0
Gives (Ok (next.Line line)) old new = GivesLine (Ok line) old new
Gives (Ok (next.Bad bad)) old new = GivesLine (Err bad) old new
Gives (Ok next.End) old new = new ≡ old
Gives (Ok next.Cut) old new = new ≡ old
Gives (Err fault) old new = new ≡ old

-- the source is at its end and within its limits, and all its lines were given
pub record IsAtEnd (taken left : List ℕ) (lines_given : List (List ℕ)) : Type 0 where
  pub nothing_left : left ≡ []
  pub within : is_over taken ≡ false
  pub all : lines_given ≡ all_lines taken

-- the source passes a limit, the bytes taken do so already, and their whole lines were given
pub record IsPastLimit (taken left : List ℕ) (lines_given : List (List ℕ)) : Type 0 where
  pub source_over : is_over (taken ++ left) ≡ true
  pub over : is_over taken ≡ true
  pub all : lines_given ≡ whole_lines taken

-- a read failed within the limits, and the whole lines of the bytes taken were given
pub record IsBrokenOff (taken : List ℕ) (lines_given : List (List ℕ)) : Type 0 where
  pub within : is_over taken ≡ false
  pub all : lines_given ≡ whole_lines taken
