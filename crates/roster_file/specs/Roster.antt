-- The grammar of the roster, with its first fault.
use Rattle.std.specs.Prelude.{ℕ, ◌==◌, ◌+◌, ◌-◌, ◌^◌, ◌||◌, not, nat_le, nat_lt, Bool, List, [], ◌∷◌, ◌++◌, length, slice_index, filter, codes, Option, Some, None, option_map, Result, Ok, Err, if◌then◌else◌}
use Rattle.std.specs.Option.{ok_or}
use Rattle.std.specs.List.{enumerate_from, list_any}
use Rattle.std.specs.Str.Lines.{lines}
use Rattle.lists.specs.Steps.{◌>>=◌}
use Rattle.plain_text.specs.Numbers.{number_of}
use Rattle.plain_text.specs.Parts.{fields_of, is_word}
use Rattle.meter_address.specs.declared.address.Address.{Address}
use Rattle.meter_address.specs.declared.commission.Mode.{Mode}
use Rattle.meter_address.specs.declared.commission.Mode.TheVariants.{Five, Seven}
use Rattle.meter_address.specs.Address.{address_of}
use Rattle.meter_address.specs.Commission.{Commissioned, key_of, most_last}
use Rattle.roster_file.specs.declared.fields.Version.{Version}
use Rattle.roster_file.specs.declared.fields.Version.TheVariants.{One, Two}
use Rattle.roster_file.specs.declared.roster.LineCause.{LineCause}
use Rattle.roster_file.specs.declared.roster.LineCause.TheVariants as causes
use Rattle.roster_file.specs.declared.roster.RosterFault.{RosterFault}
use Rattle.roster_file.specs.declared.roster.RosterFault.TheVariants.{Line}

-- the collector's own address and the meters
pub record Enrolled : Type 0 where
  pub own : Address
  pub meters : List Commissioned

-- ---- a field

abbrev pub mode_of : List ℕ → Option Mode
mode_of text = if is_word text (codes "5") then Some Five else if is_word text (codes "7") then Some Seven else None

-- a second key in mode 7, and none in mode 5
abbrev pub second_key_of : Mode → List ℕ → Option (List ℕ)
second_key_of Five text = None
second_key_of Seven text = key_of text

-- a dash for none, or a second key
abbrev pub other_of : Mode → List ℕ → Option (Option (List ℕ))
other_of mode text = if is_word text (codes "-") then Some None else option_map Some (second_key_of mode text)

-- a dash for none, or a number of the mode's range
abbrev pub last_of : Mode → List ℕ → Option (Option ℕ)
last_of mode text = if is_word text (codes "-") then Some None else option_map Some (number_of (most_last mode) text)

abbrev pub counter_of : List ℕ → Option ℕ
counter_of text = number_of (2 ^ 32 - 1) text

-- ---- a line

-- the texts of a meter's columns
pub record Columns : Type 0 where
  pub address : List ℕ
  pub mode : List ℕ
  pub key : List ℕ
  pub other : List ℕ
  pub last : List ℕ
  pub down : List ℕ
  pub ids : List ℕ

-- the columns of the fields behind `meter`: six in version 1, which has no second key, and seven in version 2
unfoldable pub columns_of : Version → List (List ℕ) → Option Columns
columns_of One (a ∷ m ∷ k ∷ l ∷ d ∷ i ∷ []) =
    Some (record { address = a; mode = m; key = k; other = codes "-"; last = l; down = d; ids = i })
columns_of Two (a ∷ m ∷ k ∷ o ∷ l ∷ d ∷ i ∷ []) =
    Some (record { address = a; mode = m; key = k; other = o; last = l; down = d; ids = i })
columns_of version fields = None

-- what a meter's columns say, or what is wrong with the first wrong one
unfoldable pub meter_of_columns : Columns → Result Commissioned LineCause
meter_of_columns c = do
  address ← ok_or (address_of c.address) causes.Address
  mode ← ok_or (mode_of c.mode) causes.Mode
  key ← ok_or (key_of c.key) causes.Key
  other ← ok_or (other_of mode c.other) causes.Other
  last ← ok_or (last_of mode c.last) causes.Last
  down ← ok_or (counter_of c.down) causes.Down
  ids ← ok_or (counter_of c.ids) causes.Ids
  Ok (record { address = address; mode = mode; key = key; other = other; last = last; down = down; ids = ids })

abbrev pub meter_of_kind : Version → List (List ℕ) → Result Commissioned LineCause
meter_of_kind version [] = Err causes.Kind
meter_of_kind version (kind ∷ fields) =
    if is_word kind (codes "meter") then ok_or (columns_of version fields) causes.Fields >>= meter_of_columns else Err causes.Kind

-- what a meter's line says by itself
abbrev pub meter_of : Version → List ℕ → Result Commissioned LineCause
meter_of version line = meter_of_kind version (fields_of line)

abbrev pub own_of_fields : List (List ℕ) → Result Address LineCause
own_of_fields (kind ∷ a ∷ []) = if is_word kind (codes "own") then ok_or (address_of a) causes.Own else Err causes.Own
own_of_fields fields = Err causes.Own

-- what the own line says
abbrev pub own_of : List ℕ → Result Address LineCause
own_of line = own_of_fields (fields_of line)

-- the meters with one more: its address is new, and there is room
abbrev pub enlisted : List Commissioned → Commissioned → Result (List Commissioned) LineCause
enlisted meters c =
    if list_any (λ m. m.address.0 == c.address.0) meters then Err causes.Same
    else if nat_le 4096 (length meters) then Err causes.TooMany
    else Ok (meters ++ c ∷ [])

-- ---- a text

-- empty lines and comments
abbrev pub is_passed_over : List ℕ → Bool
is_passed_over text = length text == 0 || slice_index text 0 == 35

-- the lines that count, each with its number; the first of the lines has the number n
unfoldable pub entries_from : ℕ → List (List ℕ) → List (ℕ × List ℕ)
entries_from n texts = filter (λ e. not (is_passed_over e.1)) (enumerate_from n texts)

-- what is left of a text: its lines that count, and the number after that of its last line
pub record Unread : Type 0 where
  pub entries : List (ℕ × List ℕ)
  pub end : ℕ

abbrev pub at_line : {A : Type 0} → ℕ → Result A LineCause → Result A RosterFault
at_line n (Ok x) = Ok x
at_line n (Err cause) = Err (Line n cause)

-- the meters with that of one more line
abbrev pub enlisted_from : Version → List Commissioned → (ℕ × List ℕ) → Result (List Commissioned) RosterFault
enlisted_from version meters e = at_line e.0 (meter_of version e.1 >>= enlisted meters)

-- the meters of lines, after those that stand already
unfoldable pub meters_of : Version → List Commissioned → List (ℕ × List ℕ) → Result (List Commissioned) RosterFault
meters_of version meters [] = Ok meters
meters_of version meters (e ∷ entries) = enlisted_from version meters e >>= λ more. meters_of version more entries

abbrev pub with_own : Address → Result (List Commissioned) RosterFault → Result Enrolled RosterFault
with_own own (Ok meters) = Ok (record { own = own; meters = meters })
with_own own (Err fault) = Err fault

-- the own line and the meters, where `end` is the number after that of the last line
unfoldable pub owned : Version → List (ℕ × List ℕ) → ℕ → Result Enrolled RosterFault
owned version [] end = Err (Line end causes.Missing)
owned version (e ∷ entries) end = at_line e.0 (own_of e.1) >>= λ own. with_own own (meters_of version [] entries)

-- the version that a head says
abbrev pub head_of : List ℕ → Option Version
head_of line =
    if is_word line (codes "wmbus-roster 1") then Some One else if is_word line (codes "wmbus-roster 2") then Some Two else None

-- the head, and what follows it
unfoldable pub headed : List (ℕ × List ℕ) → ℕ → Result Enrolled RosterFault
headed [] end = Err (Line end causes.Missing)
headed (e ∷ entries) end = at_line e.0 (ok_or (head_of e.1) causes.Head) >>= λ version. owned version entries end

-- the roster of a text, or its first fault
unfoldable pub roster_of : List ℕ → Result Enrolled RosterFault
roster_of bytes =
    if nat_lt 1048576 (length bytes) then Err (Line 0 causes.TooLong)
    else headed (entries_from 1 (lines bytes)) (length (lines bytes) + 1)
