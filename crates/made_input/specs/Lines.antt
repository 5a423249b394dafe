-- The lines of a made session, and in which order each receiver hears them.
use Rattle.std.specs.Prelude.{ℕ, ◌+◌, ◌-◌, ◌/◌, ◌%◌, List, [], ◌∷◌, ◌++◌, length, map, take, drop, slice_get, Option, Some, None}
use Rattle.std.specs.List.{range_with_len}
use Rattle.meter_address.specs.Commission.{Commissioned}
use Rattle.frame_lines.specs.Lines.{frame_text, frame_line}
use Rattle.made_input.specs.Uplinks.{uplink, stranger}

-- ---- the telegrams, counted from 1: the meters and a stranger take turns

-- whose turn the telegram is, of so many meters: the place of a meter, or their number for the stranger
abbrev pub turn_of : ℕ → ℕ → ℕ
turn_of meters number = (number - 1) % (meters + 1)

-- the round that it belongs to, counted from 1: the counter of a meter's message
abbrev pub round_of : ℕ → ℕ → ℕ
round_of meters number = 1 + (number - 1) / (meters + 1)

-- a meter's message, or the stranger's telegram
abbrev pub sent_by : Option Commissioned → ℕ → ℕ → List ℕ
sent_by (Some c) round number = uplink c round
sent_by None round number = stranger number

abbrev pub telegram_of : List Commissioned → ℕ → List ℕ
telegram_of meters number = sent_by (slice_get meters (turn_of (length meters) number)) (round_of (length meters) number) number

-- the line of a telegram, whose number is its moment
abbrev pub line_at : List Commissioned → ℕ → List ℕ
line_at meters number = frame_line number (telegram_of meters number)

-- the lines of so many telegrams
abbrev pub lines_of : List Commissioned → ℕ → List (List ℕ)
lines_of meters count = map (line_at meters) (range_with_len 1 count)

-- the same lines without their ends
abbrev pub texts_of : List Commissioned → ℕ → List (List ℕ)
texts_of meters count = map (λ number. frame_text number (telegram_of meters number)) (range_with_len 1 count)

-- ---- the receivers

-- a group that begins at a later place, with those before it at the end
abbrev pub rotated : {A : Type 0} → ℕ → List A → List A
rotated by group = let place = by % length group in drop place group ++ take place group

-- the lines in groups of four, of which the last may be shorter, each group rotated
unfoldable pub heard : {A : Type 0} → ℕ → List A → List A
heard by [] = []
heard by (a ∷ b ∷ c ∷ d ∷ later) = rotated by (a ∷ b ∷ c ∷ d ∷ []) ++ heard by later
heard by group = rotated by group
