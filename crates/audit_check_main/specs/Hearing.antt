-- Words of private contracts: what inputs told.
use Rattle.std.specs.Prelude.{ℕ, zero, suc, ◌≡◌, ◌<◌, ◌+◌, ◌-◌, nat_lt, if◌then◌else◌, List, [], ◌∷◌, ◌++◌, length, count_by, map, ◌==◌, slice_get, slice_index_or, slice_set, Option, Some, None}
use Rattle.std.specs.List.{position_or_len}
use Rattle.std.specs.Str.Lines.{lines}
use Rattle.meter_address.specs.declared.address.Address.{Address}
use Rattle.meter_slots.specs.Journal.{Start}
use Rattle.meter_slots.specs.declared.counts.Counts.{Counts}
use Rattle.receivers.specs.declared.told.Told.{Told}
use Rattle.receivers.specs.declared.told.Told.TheVariants as told
use Rattle.receivers.specs.declared.class.Class.{Class}
use Rattle.receivers.specs.declared.class.Class.TheVariants as classes
use Rattle.receivers.specs.Classes.{counts_of, is_own, is_strange, is_unframed, is_bad}
use Rattle.receivers.specs.Receiver.{no_counts}
use Rattle.receivers.specs.Told.{told_of}
use Rattle.lists.specs.Each.{Each}
use Rattle.audit_check_main.specs.declared.hearing.Sort.{Sort}
use Rattle.audit_check_main.specs.declared.hearing.Sort.TheVariants as sorts
use Rattle.audit_check_main.specs.declared.whose.Whose.{Whose}
use Rattle.audit_check_main.specs.declared.whose.Whose.TheVariants as whose
use Rattle.audit_check_main.specs.Order.{numbers_for}

-- the lines of an input, the numbers of its lines for each list, and its counts
pub record HeardInput : Type 0 where
  pub lines : List (List ℕ)
  pub lists : List (List ℕ)
  pub counts : Counts

-- what an input comes to for meters of which this is known
abbrev pub heard_input : List Start → List ℕ → HeardInput
heard_input starts input =
    let heard = map told_of (lines input) in
    record { lines = lines input; lists = numbers_for starts heard; counts = counts_of (map (λ c. c.address) starts) heard }

abbrev pub tells : HeardInput → List Told
tells h = map told_of h.lines

abbrev pub no_input : HeardInput
no_input = record { lines = []; lists = []; counts = no_counts }

-- the input of the receiver with this number, of which the first one is 1; nothing where there is none
abbrev pub input_of : List HeardInput → ℕ → HeardInput
input_of heard zero = no_input
input_of heard (suc w) = slice_index_or heard w no_input

-- the numbers of a receiver's lines for a list
abbrev pub numbers_in_list : List HeardInput → ℕ → ℕ → List ℕ
numbers_in_list heard list w = slice_index_or (input_of heard w).lists list []

abbrev pub told_by_text : Option (List ℕ) → Told
told_by_text None = told.Bad
told_by_text (Some text) = told_of text

-- what a line of a receiver tells; lines are numbered from 1
abbrev pub told_at : List HeardInput → (w line : ℕ) → Told
told_at heard w line = told_by_text (slice_get (input_of heard w).lines (line - 1))

-- ---- lines that are noted

-- the lists with a number more at the end of the one at this place
abbrev pub with_number : ℕ → ℕ → List (List ℕ) → List (List ℕ)
with_number list line lists = slice_set lists list (slice_index_or lists list [] ++ line ∷ [])

abbrev pub whose_told : Told → Whose
whose_told (told.Event address event) = whose.Meter address
whose_told told.Unframed = whose.Unframed
whose_told told.Bad = whose.Bad

-- what a line is by whose it is: one of its meter's list, or of the strangers', which is the last one
abbrev pub sort_by : List Address → Whose → Sort
sort_by directory (whose.Meter address) = sorts.Listed (position_or_len (λ a. a.0 == address.0) directory)
sort_by directory whose.Unframed = sorts.Unframed
sort_by directory whose.Bad = sorts.Bad

-- what a line is by what it tells
abbrev pub sort_of : List Address → Told → Sort
sort_of directory t = sort_by directory (whose_told t)

-- the number of the list that a line is one of, 0 where there is none
abbrev pub list_in : Sort → ℕ
list_in (sorts.Listed list) = list
list_in sorts.Unframed = 0
list_in sorts.Bad = 0

-- the class of a line, by the number of the meters
abbrev pub class_in : ℕ → Sort → Class
class_in meters (sorts.Listed list) = if nat_lt list meters then classes.Own else classes.Strange
class_in meters sorts.Unframed = classes.Unframed
class_in meters sorts.Bad = classes.Bad

-- the lists after one more line: the one that it is one of has its number
abbrev pub noted : Sort → ℕ → List (List ℕ) → List (List ℕ)
noted (sorts.Listed list) line lists = with_number list line lists
noted sorts.Unframed line lists = lists
noted sorts.Bad line lists = lists

-- how many of some lines are in each class
abbrev pub counts_in : List Class → Counts
counts_in classes = record {
  lines = length classes;
  own = count_by is_own classes;
  strangers = count_by is_strange classes;
  unframed = count_by is_unframed classes;
  bad = count_by is_bad classes;
}

-- ---- lines of the lists

-- each line that one of the first lists names is one of this list
abbrev pub AreListedBelow : ℕ → List Address → List HeardInput → List (List (ℕ × ℕ)) → Type 0
AreListedBelow end directory heard lists = (list : ℕ) → list < end →
    Each (λ p. sort_of directory (told_at heard p.0 p.1) ≡ sorts.Listed list) (slice_index_or lists list [])

-- each line that a meter's list or the strangers' names is one of this list
abbrev pub AreListed : List Address → List HeardInput → List (List (ℕ × ℕ)) → Type 0
AreListed directory heard lists = AreListedBelow (length directory + 1) directory heard lists
