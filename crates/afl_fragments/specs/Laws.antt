-- What is held, and the message that it makes, in other words.
use Rattle.std.specs.Prelude.{◌≡◌, ◌↔◌, ℕ, ◌+◌, ◌-◌, ◌≤◌, Bool, true, false, ◌==◌, List, ◌∷◌, ◌++◌, length, slice_get, count_by, Some, option_map}
use Rattle.std.specs.List.{list_any}
use Rattle.afl_fragments.specs.Fragment.{Fragment}
use Rattle.afl_fragments.specs.declared.places.HeldPart.{HeldPart}
use Rattle.afl_fragments.specs.Held.{Told, Piece, Tick, Clear, is_fid, held, piece_at, last_end, Message, joined, assembled}

-- a fragment with this number
abbrev pub is_piece_of : ℕ → Told → Bool
is_piece_of fid (Piece part) = part.afl.fid == fid
is_piece_of fid Tick = false
is_piece_of fid Clear = false

-- a tick
abbrev pub is_tick : Told → Bool
is_tick (Piece part) = false
is_tick Tick = true
is_tick Clear = false

-- a clearing
abbrev pub is_clear : Told → Bool
is_clear (Piece part) = false
is_clear Tick = false
is_clear Clear = true

-- This fragment, which has this number, was heard, and after it none with its number, no clearing, and at most one tick.
pub record IsLatest (fid : ℕ) (told : List Told) (part : Fragment) : Type 0 where
  pub later : List Told
  pub earlier : List Told
  pub heard : told ≡ later ++ Piece part ∷ earlier
  pub number : part.afl.fid ≡ fid
  pub counted : fid ≤ 16
  pub latest : list_any (is_piece_of fid) later ≡ false
  pub uncleared : list_any is_clear later ≡ false
  pub ticks : count_by is_tick later ≤ 1

-- This fragment is an end that is held, and of the ends that are held none came after it: after it nothing with such an end's
-- number was heard.
pub record IsLastEnd (told : List Told) (part : Fragment) : Type 0 where
  pub held : IsLatest part.afl.fid told part
  pub ends : part.afl.more ≡ false
  pub last : (other : Fragment) → IsLatest other.afl.fid told other → other.afl.more ≡ false
      → list_any (is_piece_of other.afl.fid) held.later ≡ false

-- A message of held fragments: its last one is the end that was heard last, and before it stand those with the numbers from 1 up
-- to that of the last, each held and with more to follow.
pub record IsMessage (hs : List HeldPart) (m : Message) : Type 0 where
  pub parts : List Fragment
  pub last : Fragment
  pub ends : option_map (λ h. h.part) (last_end hs) ≡ Some last
  pub counted : length parts ≡ last.afl.fid - 1
  pub held : (k : ℕ) (part : Fragment) → slice_get parts k ≡ Some part → option_map (λ h. h.part) (piece_at (k + 1) hs) ≡ Some part
  pub leads : (k : ℕ) (part : Fragment) → slice_get parts k ≡ Some part → part.afl.more ≡ true
  pub message : m ≡ joined parts last

-- The message of a history, found by looking back over it alone: its last fragment is the end that was heard last, and before it
-- stand, for each smaller number from 1 on, the latest fragment with that number, each with more to follow.
pub record IsMessageOf (told : List Told) (m : Message) : Type 0 where
  pub parts : List Fragment
  pub last : Fragment
  pub ends : IsLastEnd told last
  pub counted : length parts ≡ last.afl.fid - 1
  pub latest : (k : ℕ) (part : Fragment) → slice_get parts k ≡ Some part → IsLatest (k + 1) told part
  pub leads : (k : ℕ) (part : Fragment) → slice_get parts k ≡ Some part → part.afl.more ≡ true
  pub message : m ≡ joined parts last

-- what is held makes a message exactly where the history has one, and it is that one
abbrev pub MessagesAreThoseOfHistories : Type 0
MessagesAreThoseOfHistories = (told : List Told) (m : Message) → (assembled (held told) ≡ Some m) ↔ IsMessageOf told m

-- a number stands at most once among what is held
abbrev pub EachNumberIsHeldOnce : Type 0
EachNumberIsHeldOnce = (told : List Told) (fid : ℕ) → count_by (is_fid fid) (held told) ≤ 1
