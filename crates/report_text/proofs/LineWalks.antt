-- Going through the lines of a text, piece by piece.
use Rattle.std.proofs.Common.{◌≡◌, ℕ, ◌==◌, Bool, true, false, cond, ◌||◌, not, List, [], ◌∷◌, ◌++◌, ap, sym, ◌∙◌, refl, append_assoc}
use Rattle.std.specs.Prelude.{codes}
use Rattle.std.specs.List.{list_all, slice_split, onto_first}
use Rattle.std.proofs.lemmas.Bool.{and_parts, and_from, not-true, eq-eqb}
use Rattle.std.proofs.lemmas.List.Folds.{list_all-append}
use Rattle.std.proofs.lemmas.List.Splits.{slice_split-cons_yes, slice_split-cons_no}
use Rattle.lists.specs.Each.{Each}
use Rattle.lists.proofs.Members.{each_append}
use Rattle.plain_text.specs.Parts.{fields_of}
use Rattle.report_text.specs.Orders.{Told, lines_in, told, with_line, begins, pair_in, meter_heading, strangers_heading, with_steps}

-- ---- texts of which each byte passes a test

pub record Passing (test : ℕ → Bool) (text : List ℕ) : Type 0 where
  pub passed : list_all test text ≡ true

infixl 40 ◌⌢◌
pub ◌⌢◌ : {test : ℕ → Bool} {a b : List ℕ} → Passing test a → Passing test b → Passing test (a ++ b)
◌⌢◌ {test} {a} {b} x y = record { passed = list_all-append test a b ∙ and_from _ _ x.passed y.passed }

-- a text whose bytes are known
pub literal : {test : ℕ → Bool} (text : List ℕ) → list_all test text ≡ true → Passing test text
literal text h = record { passed = h }

-- texts without a separator
abbrev pub differs : ℕ → ℕ → Bool
differs separator b = not (b == separator)

abbrev pub IsWithout : ℕ → List ℕ → Type 0
IsWithout separator text = Passing (differs separator) text

-- ---- cuts

-- the first part ends at the first separator
pub cut_first : (s : ℕ) (part rest : List ℕ) → list_all (differs s) part ≡ true
    → slice_split (λ b. b == s) (part ++ s ∷ rest) ≡ part ∷ slice_split (λ b. b == s) rest
cut_first s [] rest h = slice_split-cons_yes (λ b. b == s) s rest (eq-eqb s s refl)
cut_first s (x ∷ part) rest h =
    slice_split-cons_no (λ b. b == s) x (part ++ s ∷ rest) (not-true _ (and_parts _ _ h).0)
    ∙ ap (onto_first x) (cut_first s part rest (and_parts _ _ h).1)

-- a text without a separator is the last part
pub cut_last : (s : ℕ) (part : List ℕ) → list_all (differs s) part ≡ true → slice_split (λ b. b == s) part ≡ part ∷ []
cut_last s [] h = refl
cut_last s (x ∷ part) h = slice_split-cons_no (λ b. b == s) x part (not-true _ (and_parts _ _ h).0)
    ∙ ap (onto_first x) (cut_last s part (and_parts _ _ h).1)

-- ---- walks

-- The lines of a text, with what the lines below tell: a text of whole lines.
pub record Tells (text : List ℕ) (turn : Told → Told) : Type 0 where
  pub at : (rest : List ℕ) → told (lines_in (text ++ rest)) ≡ turn (told (lines_in rest))

-- it changes no list, whatever stands below
abbrev pub Passes : List ℕ → Type 0
Passes text = Tells text (λ t. t)

pub nothing : Passes []
nothing = record { at = λ rest. refl }

infixl 30 ◌⨾◌
pub ◌⨾◌ : {a b : List ℕ} {f g : Told → Told} → Tells a f → Tells b g → Tells (a ++ b) (λ t. f (g t))
◌⨾◌ {a} {b} {f} {g} x y = record { at = λ rest. ap (λ t. told (lines_in t)) (append_assoc a b rest) ∙ x.at (b ++ rest) ∙ ap f (y.at rest) }

pub one_line : (line : List ℕ) → IsWithout 10 line → Tells (line ++ codes "\n") (with_line line)
one_line line h = record
    { at = λ rest. ap (λ t. told (lines_in t)) (append_assoc line (codes "\n") rest) ∙ ap told (cut_first 10 line rest h.passed) }

-- another spelling of a text or of a turn
pub same_text : {a : List ℕ} {f : Told → Told} (b : List ℕ) → b ≡ a → Tells a f → Tells b f
same_text b e x = record { at = λ rest. ap (λ t. told (lines_in (t ++ rest))) e ∙ x.at rest }

pub same_turn : {a : List ℕ} {f : Told → Told} (g : Told → Told) → ((t : Told) → f t ≡ g t) → Tells a f → Tells a g
same_turn g e x = record { at = λ rest. x.at rest ∙ e (told (lines_in rest)) }

-- ---- lines that belong to no list

-- the line that a text begins with
pub first_line : (line : List ℕ) → IsWithout 10 line → (rest : List ℕ) → lines_in (line ++ codes "\n" ++ rest) ≡ line ∷ lines_in rest
first_line line h rest = ap lines_in (append_assoc line (codes "\n") rest) ∙ cut_first 10 line rest h.passed

-- what kind of line this is, by what it begins with
pub record IsKind (line : List ℕ) (meter strangers step stranger : Bool) : Type 0 where
  pub meter_is : begins (codes "meter ") line ≡ meter
  pub strangers_is : begins (codes "strangers ") line ≡ strangers
  pub step_is : begins (codes "step ") line ≡ step
  pub stranger_is : begins (codes "stranger ") line ≡ stranger

pub kind_of : {line : List ℕ} {m s t r : Bool} → begins (codes "meter ") line ≡ m → begins (codes "strangers ") line ≡ s
    → begins (codes "step ") line ≡ t → begins (codes "stranger ") line ≡ r → IsKind line m s t r
kind_of m s t r = record { meter_is = m; strangers_is = s; step_is = t; stranger_is = r }

-- a line that opens no list and stands in none
abbrev pub IsOther : List ℕ → Type 0
IsOther line = IsKind line false false false false

-- a text of whole lines, each of which is such a one
pub record Others (text : List ℕ) : Type 0 where
  pub lines : List (List ℕ)
  pub cut : (rest : List ℕ) → lines_in (text ++ rest) ≡ lines ++ lines_in rest
  pub each : Each IsOther lines

pub no_others : Others []
no_others = record { lines = []; cut = λ rest. refl; each = tt }

pub one_other : (line : List ℕ) → IsWithout 10 line → IsOther line → Others (line ++ codes "\n")
one_other line h other = record { lines = line ∷ []; cut = first_line line h; each = (other, tt) }

infixl 30 ◌⨟◌
pub ◌⨟◌ : {a b : List ℕ} → Others a → Others b → Others (a ++ b)
◌⨟◌ {a} {b} x y = record {
  lines = x.lines ++ y.lines;
  cut = λ rest. ap lines_in (append_assoc a b rest) ∙ x.cut (b ++ rest) ∙ ap (λ l. x.lines ++ l) (y.cut rest)
      ∙ sym (append_assoc x.lines y.lines (lines_in rest));
  each = each_append IsOther x.lines y.lines x.each y.each;
}

-- what a line of a kind tells, above what the lines below tell
abbrev pub told_by : (meter strangers listed : Bool) → List ℕ → Told → Told
told_by meter strangers listed line below = cond meter (meter_heading below) (cond strangers (strangers_heading below)
    (cond listed (with_steps (pair_in (fields_of line)) below) below))

pub told_is : {m s t r : Bool} (line : List ℕ) → IsKind line m s t r → (below : Told)
    → with_line line below ≡ told_by m s (t || r) line below
unfolding with_line
told_is line k below = λ i. told_by (k.meter_is i) (k.strangers_is i) (k.step_is i || k.stranger_is i) line below

told_others : (lines : List (List ℕ)) → Each IsOther lines → (below : List (List ℕ)) → told (lines ++ below) ≡ told below
told_others [] h below = refl
told_others (line ∷ lines) h below = told_is line h.0 (told (lines ++ below)) ∙ told_others lines h.1 below

-- they change no list of steps
pub others_pass : {text : List ℕ} → Others text → Passes text
others_pass x = record { at = λ rest. ap told (x.cut rest) ∙ told_others x.lines x.each (lines_in rest) }
