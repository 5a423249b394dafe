-- Words of private contracts: reading the lists of a report.
use Rattle.std.specs.Prelude.{ℕ, ◌≡◌, List, [], ◌∷◌, ◌++◌, length, filter, Option, Some, None}
use Rattle.std.specs.Borrow.{Bor}
use Rattle.report_text.specs.Orders.{Told, lines_in, with_line}
use Rattle.audit_check_main.specs.declared.line_lists.Open.{Open}
use Rattle.audit_check_main.specs.declared.line_lists.Open.TheVariants as opens
use Rattle.audit_check_main.specs.Lists.{is_meter, open_in, pair_of}

-- the lines of what is left of a text, if anything is
abbrev pub lines_left : Option (Bor (List ℕ)) → List (List ℕ)
lines_left None = []
lines_left (Some rest) = lines_in rest.now

-- the lists read so far, and which of them is open
pub record ListsRead : Type 0 where
  pub meters : List (List (ℕ × ℕ))
  pub strangers : List (ℕ × ℕ)
  pub open_list : Open

-- lists of which the last one has more behind it
abbrev pub onto_last : {A : Type 0} → List (List A) → List A → List (List A)
onto_last [] more = []
onto_last (list ∷ []) more = (list ++ more) ∷ []
onto_last (list ∷ next ∷ lists) more = list ∷ onto_last (next ∷ lists) more

-- the lists read so far, with what the lines below tell
abbrev pub joined_to : Open → ListsRead → Told → Told
joined_to opens.Nothing l below =
    record { above = below.above; meters = l.meters ++ below.meters; strangers = l.strangers ++ below.strangers }
joined_to opens.Meter l below =
    record { above = []; meters = onto_last l.meters below.above ++ below.meters; strangers = l.strangers ++ below.strangers }
joined_to opens.Strangers l below =
    record { above = []; meters = l.meters ++ below.meters; strangers = l.strangers ++ (below.above ++ below.strangers) }

-- what lines tell, of which the latest stands first, with what the lines below them tell
abbrev pub told_above : List (List ℕ) → Told → Told
told_above [] below = below
told_above (line ∷ above) below = told_above above (with_line line below)

-- the lists are those of the lines above, of which the latest stands first
pub record StandsFor (above : List (List ℕ)) (l : ListsRead) : Type 0 where
  pub count : length l.meters ≡ length (filter is_meter above)
  pub open_is : l.open_list ≡ open_in above
  pub told_is : (below : Told) → told_above above below ≡ joined_to l.open_list l below

-- a step that names a pair is added to the last list of the meters, which is open
pub record TakesStep (line : List ℕ) (old new : ListsRead) : Type 0 where
  pub pair : ℕ × ℕ
  pub names : pair_of line ≡ Some pair
  pub is_open : old.open_list ≡ opens.Meter
  pub after : new ≡ record { meters = onto_last old.meters (pair ∷ []); strangers = old.strangers; open_list = opens.Meter }

-- a stranger's line that names a pair is added to the strangers' list, which is open
pub record TakesStranger (line : List ℕ) (old new : ListsRead) : Type 0 where
  pub pair : ℕ × ℕ
  pub names : pair_of line ≡ Some pair
  pub is_open : old.open_list ≡ opens.Strangers
  pub after : new ≡ record { meters = old.meters; strangers = old.strangers ++ pair ∷ []; open_list = opens.Strangers }
