-- The lists of a report: which of its lines belong to a list, and whether each of them stands in its own.
use Rattle.std.specs.Prelude.{ℕ, zero, suc, ◌≡◌, ◌+◌, ◌-◌, ◌^◌, ◌&&◌, not, nat_le, Bool, true, false, List, [], ◌∷◌, ◌++◌, length, reverse, filter, codes, if◌then◌else◌}
use Rattle.std.specs.Prelude.{Option, Some, None, is_some}
use Rattle.plain_text.specs.Numbers.{number_of}
use Rattle.plain_text.specs.Parts.{fields_of}
use Rattle.report_text.specs.Orders.{Orders, begins}
use Rattle.audit_check_main.specs.declared.line_lists.Open.{Open}
use Rattle.audit_check_main.specs.declared.line_lists.Open.TheVariants as opens

-- ---- lines

-- a heading of a meter's list, and that of the strangers' list
abbrev pub is_meter : List ℕ → Bool
is_meter line = begins (codes "meter ") line

abbrev pub is_strangers : List ℕ → Bool
is_strangers line = begins (codes "strangers ") line

-- a line of a meter's list, and one of the strangers' list
abbrev pub is_step : List ℕ → Bool
is_step line = begins (codes "step ") line

abbrev pub is_stranger : List ℕ → Bool
is_stranger line = begins (codes "stranger ") line

-- a plain decimal number below 2^32
abbrev pub small_number : List ℕ → Option ℕ
small_number text = number_of (2 ^ 32 - 1) text

abbrev pub both : Option ℕ → Option ℕ → Option (ℕ × ℕ)
both (Some n) (Some m) = Some (n, m)
both _ _ = None

-- the two numbers behind the first word
abbrev pub numbers_in : List (List ℕ) → Option (ℕ × ℕ)
numbers_in (word ∷ first ∷ second ∷ more) = both (small_number first) (small_number second)
numbers_in _ = None

-- the receiver and the line that a line of a list names
abbrev pub pair_of : List ℕ → Option (ℕ × ℕ)
pair_of line = numbers_in (fields_of line)

-- ---- where a line stands; of the lines above it the latest stands first

-- the list that the latest heading opens
abbrev pub open_in : List (List ℕ) → Open
open_in [] = opens.Nothing
open_in (line ∷ above) = if is_meter line then opens.Meter else if is_strangers line then opens.Strangers else open_in above

abbrev pub is_meters : Open → Bool
is_meters opens.Meter = true
is_meters _ = false

abbrev pub is_of_strangers : Open → Bool
is_of_strangers opens.Strangers = true
is_of_strangers _ = false

-- A line that is out of form: a meter's heading above which as many stand as there are meters, or a line of a list that doesn't stand in
-- its list or doesn't name a pair.
unfoldable pub is_faulty : ℕ → List (List ℕ) → List ℕ → Bool
is_faulty meters above line =
    if is_meter line then nat_le meters (length (filter is_meter above)) else
    (if is_strangers line then false else
    (if is_step line then not (is_meters (open_in above) && is_some (pair_of line)) else
    (if is_stranger line then not (is_of_strangers (open_in above) && is_some (pair_of line)) else
    false)))

-- each of these lines is in form; the latest stands first
abbrev pub AreInForm : ℕ → List (List ℕ) → Type 0
AreInForm meters [] = Unit {0}
AreInForm meters (line ∷ above) = (is_faulty meters above line ≡ false) × AreInForm meters above

-- the first line of a text that is out of form, counted from 1
pub record IsFirstFaulty (meters : ℕ) (lines : List (List ℕ)) (number : ℕ) : Type 0 where
  pub above : List (List ℕ)
  pub line : List ℕ
  pub below : List (List ℕ)
  pub cut : lines ≡ above ++ line ∷ below
  pub number_is : number ≡ length above + 1
  pub in_form : AreInForm meters (reverse above)
  pub faulty : is_faulty meters (reverse above) line ≡ true

-- ---- the lists

-- the lists of so many meters: one that isn't printed is empty
abbrev pub as_many : {A : Type 0} → ℕ → List (List A) → List (List A)
as_many zero lists = []
as_many (suc n) [] = [] ∷ as_many n []
as_many (suc n) (list ∷ lists) = list ∷ as_many n lists

-- all lists that a report prints for so many meters: theirs in the order of the meters, and behind them that of the strangers
abbrev pub lists_printed : ℕ → Orders → List (List (ℕ × ℕ))
lists_printed meters printed = as_many meters printed.meters ++ printed.strangers ∷ []
