-- A part of a session: some of the meters, and of what the receivers heard only the lines for them.
use Rattle.std.specs.Prelude.{ℕ, ◌≡◌, ◌==◌, ◌+◌, Bool, true, false, not, if◌then◌else◌, List, [], ◌∷◌, map, filter}
use Rattle.lists.specs.Each.{EachWith}
use Rattle.meter_address.specs.declared.address.Address.{Address}
use Rattle.meter_slots.specs.declared.entry.Entry.{Entry}
use Rattle.meter_slots.specs.Journal.{Start, SlotView}
use Rattle.meter_slots.specs.World.{WorldView}
use Rattle.receivers.specs.declared.told.Told.{Told}
use Rattle.receivers.specs.declared.told.Told.TheVariants as told
use Rattle.receivers.specs.Session.{heard_by, IsMetersSlot, IsSession}
use Rattle.receivers.specs.Cuts.{starts_behind}

-- ---- lines

-- whether a line is for an address of the part, which a test on the numbers of addresses tells
abbrev pub is_mine : (ℕ → Bool) → Told → Bool
is_mine mine (told.Event address event) = mine address.0
is_mine mine told.Unframed = false
is_mine mine told.Bad = false

-- the lines of a part
abbrev pub part_of : (ℕ → Bool) → List Told → List Told
part_of mine [] = []
part_of mine (t ∷ heard) = if is_mine mine t then t ∷ part_of mine heard else part_of mine heard

-- the numbers that these have in the whole, where the first line of all has this number
abbrev pub numbers_from : (ℕ → Bool) → ℕ → List Told → List ℕ
numbers_from mine m [] = []
numbers_from mine m (t ∷ heard) =
    if is_mine mine t then m ∷ numbers_from mine (m + 1) heard else numbers_from mine (m + 1) heard

-- of some numbers, for the lines of the part from this one on, that of a line
abbrev pub number_in : ℕ → List ℕ → ℕ → ℕ
number_in j [] n = 0
number_in j (k ∷ numbers) n = if n == j then k else number_in (j + 1) numbers n

-- what the number of a line of the part is in the whole; the lines of both are numbered from 1
abbrev pub whole_number : (ℕ → Bool) → List Told → ℕ → ℕ
whole_number mine heard n = number_in 1 (numbers_from mine 1 heard) n

-- each receiver heard of the part just these lines
abbrev pub ArePart : (ℕ → Bool) → (all part : List (List Told)) → Type 0
ArePart mine all part = (w : ℕ) → heard_by w part ≡ part_of mine (heard_by w all)

-- ---- meters and their slots

abbrev pub is_in : (ℕ → Bool) → Start → Bool
is_in mine c = mine c.address.0

-- the meters of a part
abbrev pub starts_in : (ℕ → Bool) → List Start → List Start
starts_in mine [] = []
starts_in mine (c ∷ starts) = if is_in mine c then c ∷ starts_in mine starts else starts_in mine starts

-- an entry of a part's journal, numbered as in the whole
abbrev pub entry_in : (ℕ → Bool) → List (List Told) → Entry → Entry
entry_in mine all x = record x { line = whole_number mine (heard_by x.source all) x.line }

abbrev pub slot_in : (ℕ → Bool) → List (List Told) → SlotView → SlotView
slot_in mine all b = record b { journal = map (entry_in mine all) b.journal }

abbrev pub slots_in : (ℕ → Bool) → List (List Told) → List SlotView → List SlotView
slots_in mine all slots = map (slot_in mine all) slots

-- the slots of a part and those of the others, in the order of all meters
abbrev pub together : (ℕ → Bool) → List Start → (ours others : List SlotView) → List SlotView
together mine [] ours others = []
together mine (c ∷ starts) [] [] = []
together mine (c ∷ starts) (b ∷ ours) [] = if is_in mine c then b ∷ together mine starts ours [] else []
together mine (c ∷ starts) [] (d ∷ others) = if is_in mine c then [] else d ∷ together mine starts [] others
together mine (c ∷ starts) (b ∷ ours) (d ∷ others) =
    if is_in mine c then b ∷ together mine starts ours (d ∷ others) else d ∷ together mine starts (b ∷ ours) others

-- ---- the law

-- a session of some meters over the lines that are for them gives these meters what a session of all lines gives them: but for the numbers
-- of lines, which are those among all lines, each slot is that of its meter in the whole
abbrev pub PartsAreOfTheWhole : Type 0
PartsAreOfTheWhole = (own : Address) (starts : List Start) (mine : ℕ → Bool) (all part : List (List Told)) (w : WorldView)
    → ArePart mine all part → IsSession own (starts_in mine starts) part w
    → EachWith (IsMetersSlot own all) (starts_in mine starts) (slots_in mine all w.slots)

-- the sessions of a part and of all others, put together, give every meter what the whole gives it
abbrev pub PartsMakeTheWhole : Type 0
PartsMakeTheWhole = (own : Address) (starts : List Start) (mine : ℕ → Bool) (all part rest : List (List Told)) (w v : WorldView)
    → ArePart mine all part → ArePart (λ n. not (mine n)) all rest
    → IsSession own (starts_in mine starts) part w → IsSession own (starts_in (λ n. not (mine n)) starts) rest v
    → EachWith (IsMetersSlot own all) starts
    (together mine starts (slots_in mine all w.slots) (slots_in (λ n. not (mine n)) all v.slots))

-- what is known of the meters behind a part, with which its next session begins, is what is known of them behind the whole
abbrev pub PartsLeaveTheSame : Type 0
PartsLeaveTheSame = (mine : ℕ → Bool) (all : List (List Told)) (slots : List SlotView)
    → starts_behind (slots_in mine all slots) ≡ starts_behind slots
