-- Words of private contracts: what the lines of an input told, as a kind, a number and bytes each.
use Rattle.std.specs.Prelude.{ℕ, ◌≡◌, ◌≤◌, ◌+◌, List, take, drop, length}
use Rattle.byteorder.specs.Endian.{big_number}
use Rattle.frame_formats.specs.Frames.{IsTelegram}
use Rattle.frame_formats.specs.declared.format.Format.TheVariants as formats
use Rattle.message_check.specs.Target.{target_of}
use Rattle.meter_slots.specs.declared.entry.Event.{Event}
use Rattle.meter_slots.specs.declared.entry.Event.TheVariants as events
use Rattle.receivers.specs.declared.told.Told.{Told}
use Rattle.receivers.specs.declared.told.Told.TheVariants as told
use Rattle.audit_check_main.specs.declared.kept.Kind.{Kind}
use Rattle.audit_check_main.specs.declared.kept.Kind.TheVariants as kinds
use Rattle.audit_check_main.specs.declared.kept.KeptLine.{KeptLine}

-- an event for the meter whose address is this number
abbrev pub for_meter : ℕ → Event → Told
for_meter number event = told.Event (record { 0 = number }) event

-- what was told, by its kind, its number and its bytes
abbrev pub told_again : Kind → ℕ → List ℕ → Told
told_again kinds.HearA at bytes = told.Event (target_of bytes) (events.Hear formats.A at bytes)
told_again kinds.HearB at bytes = told.Event (target_of bytes) (events.Hear formats.B at bytes)
told_again kinds.Tick number bytes = for_meter number events.Tick
told_again kinds.Put number bytes = for_meter number (events.Put bytes)
told_again kinds.Cancel number bytes = for_meter number (events.Cancel (big_number 4 bytes))
told_again kinds.Rekey number bytes = for_meter number (events.Rekey bytes)
told_again kinds.Unframed number bytes = told.Unframed
told_again kinds.Bad number bytes = told.Bad

-- bytes as this kind has them
abbrev pub FitsKind : Kind → List ℕ → Type 0
FitsKind kinds.HearA bytes = IsTelegram bytes
FitsKind kinds.HearB bytes = IsTelegram bytes
FitsKind kinds.Tick bytes = Unit {0}
FitsKind kinds.Put bytes = (1 ≤ length bytes) × (length bytes ≤ 94)
FitsKind kinds.Cancel bytes = length bytes ≡ 4
FitsKind kinds.Rekey bytes = length bytes ≡ 16
FitsKind kinds.Unframed bytes = Unit {0}
FitsKind kinds.Bad bytes = Unit {0}

-- so many bytes from this place on
abbrev pub part_of : List ℕ → (start len : ℕ) → List ℕ
part_of bytes start len = take len (drop start bytes)

-- the number that a line's part begins with, and the bytes behind it
abbrev pub number_in : (width : ℕ) → List ℕ → ℕ
number_in width part = big_number width part

abbrev pub bytes_in : (width : ℕ) → List ℕ → List ℕ
bytes_in width part = drop width part

-- what a line told whose part this is
abbrev pub told_in : KeptLine → List ℕ → Told
told_in line part = told_again line.kind (number_in line.width part) (bytes_in line.width part)

-- what a line told, whose part stands among these bytes
abbrev pub told_kept : List ℕ → KeptLine → Told
told_kept bytes line = told_in line (part_of bytes line.start line.len)

-- a line's part stands among these bytes, begins with a number, and has behind it what its kind has
pub record IsKept (bytes : List ℕ) (line : KeptLine) : Type 0 where
  pub within : line.start + line.len ≤ length bytes
  pub least : 1 ≤ line.width
  pub most : line.width ≤ 8
  pub wide : line.width ≤ line.len
  pub fits : FitsKind line.kind (bytes_in line.width (part_of bytes line.start line.len))
