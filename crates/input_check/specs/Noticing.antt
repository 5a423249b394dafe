-- Which notes there are: on the keys of a state's meters, and on what receivers heard.
use Rattle.std.specs.Prelude.{ℕ, ◌≡◌, ◌==◌, ◌&&◌, ◌||◌, not, nat_eq, nat_lt, nat_le, Bool, true, false, List, [], ◌∷◌, ◌++◌, map, take, drop, reverse, slice_index, Option, Some, None, option_map, find, flat_map, count_by, All, Contains, IsPermutation, IsSorted, IsTrue, if◌then◌else◌}
use Rattle.std.specs.List.{list_all}
use Rattle.std.specs.List.Sorted.{IsStrictlySortedBy}
use Rattle.std.specs.Cmp.Lexicographic.{pointwise}
use Rattle.std.specs.Int.{w64, from_be_bytes}
use Rattle.std.specs.declared.cmp.Ordering.{Ordering}
use Rattle.std.specs.Ordering.{nat_cmp, ordering_then}
use Rattle.meter_address.specs.declared.address.Address.{Address}
use Rattle.meter_address.specs.Address.{bytes_of, identification_of}
use Rattle.meter_address.specs.Commission.{Commissioned}
use Rattle.input_check.specs.declared.hints.Hint.{Hint}
use Rattle.input_check.specs.declared.hints.Hint.TheVariants as hints
use Rattle.input_check.specs.declared.hints.Note.{Note}

-- a note on a meter, where there is something to say
abbrev pub note_if : Address → Option Hint → List Note
note_if address None = []
note_if address (Some hint) = record { address = address; hint = hint } ∷ []

-- ---- keys

abbrev pub is_of_equal_bytes : List ℕ → Bool
is_of_equal_bytes key = list_all (λ byte. byte == slice_index key 0) key

-- the other one is another meter, and has the key of this one
abbrev pub shares_key : Commissioned → Commissioned → Bool
shares_key meter other = not (other.address.0 == meter.address.0) && pointwise nat_eq other.key meter.key

-- what there is to say of a meter's key: its bytes are equal, or the first other one of these meters that has it
abbrev pub key_hint : List Commissioned → Commissioned → Option Hint
key_hint meters meter =
    if is_of_equal_bytes meter.key
    then Some hints.EqualBytes
    else option_map (λ (other : Commissioned). hints.SharedKey other.address) (find (shares_key meter) meters)

-- the notes on the keys of these meters, in their order
abbrev pub notes_on_keys : List Commissioned → List Note
notes_on_keys meters = flat_map (λ meter. note_if meter.address (key_hint meters meter)) meters

-- ---- meters that were not heard

-- how often an address is one of these, and whether it is
abbrev pub times : List Address → ℕ → ℕ
times others a = count_by (λ (other : Address). other.0 == a) others

abbrev pub is_among : List Address → Address → Bool
is_among others a = nat_lt 0 (times others a.0)

-- the two ways in which an address is turned round by mistake: its identification, as on the label, or all of it
abbrev pub identification_turned : Address → Address
identification_turned a =
    record { 0 = from_be_bytes w64 (take 2 (bytes_of a) ++ reverse (identification_of a) ++ drop 6 (bytes_of a)) }

abbrev pub turned : Address → Address
turned a = record { 0 = from_be_bytes w64 (reverse (bytes_of a)) }

-- an address that may be meant in place of the meter's own: it is another one, and was heard or is that of a meter
abbrev pub may_be_meant : (is_heard is_known : Address → Bool) → (own other : Address) → Bool
may_be_meant is_heard is_known own other = not (other.0 == own.0) && (is_heard other || is_known other)

-- what there is to say of a meter with this address that was not heard
abbrev pub unheard_hint : (is_heard is_known : Address → Bool) → Address → Hint
unheard_hint is_heard is_known a =
    if may_be_meant is_heard is_known a (identification_turned a)
    then hints.Turned (identification_turned a)
    else if may_be_meant is_heard is_known a (turned a) then hints.Turned (turned a) else hints.Unheard

abbrev pub unheard_if : (is_heard is_known : Address → Bool) → Address → Option Hint
unheard_if is_heard is_known a = if is_heard a then None else Some (unheard_hint is_heard is_known a)

-- the notes on those of these meters that were not heard, in their order
abbrev pub notes_on_unheard : (is_heard is_known : Address → Bool) → List Commissioned → List Note
notes_on_unheard is_heard is_known meters = flat_map (λ meter. note_if meter.address (unheard_if is_heard is_known meter.address)) meters

-- ---- strangers

-- none of these meters has the address, and it was heard at least three times
abbrev pub is_stranger : (heard meters : List Address) → ℕ → Bool
is_stranger heard meters a = nat_le 3 (times heard a) && times meters a == 0

-- These are the strangers with how often each was heard, each once and in the order of their addresses.
pub record AreStrangers (heard meters : List Address) (strangers : List (ℕ × ℕ)) : Type 0 where
  pub rising : IsStrictlySortedBy nat_cmp (map (λ (s : ℕ × ℕ). s.1) strangers)
  pub each : All (λ (s : ℕ × ℕ). IsTrue (is_stranger heard meters s.1) × (s.0 ≡ times heard s.1)) strangers
  pub all : (a : ℕ) → IsTrue (is_stranger heard meters a) → Contains strangers (times heard a, a)

-- by how often they were heard, and among those that were heard as often by their addresses
abbrev pub rank_cmp : ℕ × ℕ → ℕ × ℕ → Ordering
rank_cmp x y = ordering_then (nat_cmp x.0 y.0) (nat_cmp x.1 y.1)

abbrev pub stranger_note : ℕ × ℕ → Note
stranger_note s = record { address = record { 0 = s.1 }; hint = hints.Stranger s.0 }

abbrev pub addresses : List Commissioned → List Address
addresses meters = map (λ (m : Commissioned). m.address) meters

-- The notes on meters that were not heard, and on the twenty strangers that were heard most often, the most frequent first.
pub record AreHearingNotes (heard : List Address) (meters : List Commissioned) (notes : List Note) : Type 0 where
  pub strangers : List (ℕ × ℕ)
  pub ranked : List (ℕ × ℕ)
  pub are_strangers : AreStrangers heard (addresses meters) strangers
  pub same : IsPermutation strangers ranked
  pub rising : IsSorted rank_cmp ranked
  pub notes_are : notes
      ≡ notes_on_unheard (is_among heard) (is_among (addresses meters)) meters ++ map stranger_note (take 20 (reverse ranked))

-- where what was heard is compared with these meters, those are the notes, and else there are none
abbrev pub NotedIf : Bool → (heard : List Address) → (meters : List Commissioned) → List Note → Type 0
NotedIf false heard meters notes = notes ≡ []
NotedIf true heard meters notes = AreHearingNotes heard meters notes
