-- Which fragments of a message are held, and the message that they make (EN 13757-7, authentication and fragmentation layer;
-- that a fragment is dropped at its second tick, and that there are at most sixteen, is this collector's own).
use Rattle.std.specs.Prelude.{◌≡◌, ℕ, zero, suc, ◌-◌, Bool, not, ◌==◌, nat_le, if◌then◌else◌, List, [], ◌∷◌, ◌++◌, length, filter, find, sum_by, Option, Some, None, option_map}
use Rattle.std.specs.List.{flat_map}
use Rattle.afl_layer.specs.declared.header.Auth.{Auth}
use Rattle.afl_fragments.specs.Fragment.{Fragment}
use Rattle.afl_fragments.specs.declared.places.HeldPart.{HeldPart}

-- ---- what is held

-- What is told of one meter: a fragment came, a tick came, the message that fragments made was stored. Of a list of these the
-- latest stands first.
pub data Told : Type 0 where
  Piece : Fragment → Told
  Tick : Told
  Clear : Told

-- no more than sixteen fragments make a message: one with a greater number isn't held
abbrev pub is_counted : Fragment → Bool
is_counted part = nat_le part.afl.fid 16

-- the fragments since the last clearing and the last tick but one, latest first, each with the ticks that came after it; n ticks
-- came after the list
abbrev pub since : ℕ → List Told → List HeldPart
since n [] = []
since n (Piece part ∷ told) = if is_counted part then record { ticks = n; part = part } ∷ since n told else since n told
since n (Tick ∷ told) = if n == 0 then since 1 told else []
since n (Clear ∷ told) = []

-- it has this number
abbrev pub is_fid : ℕ → HeldPart → Bool
is_fid fid h = h.part.afl.fid == fid

-- those with other numbers
abbrev pub others : ℕ → List HeldPart → List HeldPart
others fid hs = filter (λ h. not (is_fid fid h)) hs

-- of each number the latest fragment
abbrev pub latest_each : List HeldPart → List HeldPart
latest_each [] = []
latest_each (h ∷ hs) = h ∷ others h.part.afl.fid (latest_each hs)

-- the fragments that are held, latest first
unfoldable pub held : List Told → List HeldPart
held told = latest_each (since 0 told)

-- these are the fragments that are held after what was told
abbrev pub StandsFor : List HeldPart → List Told → Type 0
StandsFor hs told = hs ≡ held told

-- how many bytes they have together
abbrev pub held_bytes : List HeldPart → ℕ
held_bytes hs = sum_by (λ h. length h.part.bytes) hs

-- ---- the message that they make

-- the fragment with this number
abbrev pub piece_at : ℕ → List HeldPart → Option HeldPart
piece_at fid hs = find (is_fid fid) hs

-- a message ends where no more follow
abbrev pub is_end : HeldPart → Bool
is_end h = not h.part.afl.more

-- the end that was heard last
abbrev pub last_end : List HeldPart → Option HeldPart
last_end hs = find is_end hs

-- some fragments and one more, if more follow it
abbrev pub with_more : Option (List Fragment) → Option HeldPart → Option (List Fragment)
with_more None h = None
with_more (Some parts) None = None
with_more (Some parts) (Some h) = if h.part.afl.more then Some (parts ++ h.part ∷ []) else None

-- the fragments 1 to n, if each is held and more follow it
abbrev pub front : ℕ → List HeldPart → Option (List Fragment)
front zero hs = Some []
front (suc n) hs = with_more (front n hs) (piece_at (suc n) hs)

-- a message: the fields that authenticate it, and its bytes
pub record Message : Type 0 where
  pub auth : Auth
  pub bytes : List ℕ

-- the message with these bytes, if there are fields that authenticate it
abbrev pub message_with : Option Auth → List ℕ → Option Message
message_with auth bytes = option_map (λ a. record { auth = a; bytes = bytes }) auth

-- the message control, the counter and the message length stand in the first fragment, and the MAC in the last
abbrev pub auth_of : Fragment → Fragment → Auth
auth_of first last = record { mcl = first.afl.mcl; mcr = first.afl.mcr; ml = first.afl.ml; mac = last.afl.mac }

-- the first of some fragments and a last one
abbrev pub first_of : List Fragment → Fragment → Fragment
first_of [] last = last
first_of (first ∷ parts) last = first

-- the message of some fragments and a last one
abbrev pub joined : List Fragment → Fragment → Message
joined parts last = record { auth = auth_of (first_of parts last) last; bytes = flat_map (λ p. p.bytes) parts ++ last.bytes }

-- the message with this end
abbrev pub ended_by : Option HeldPart → List HeldPart → Option Message
ended_by None hs = None
ended_by (Some h) hs = option_map (λ parts. joined parts h.part) (front (h.part.afl.fid - 1) hs)

-- the message that fragments make, up to the end that was heard last
unfoldable pub assembled : List HeldPart → Option Message
assembled hs = ended_by (last_end hs) hs
