-- Fragments in sixteen fixed places: words of the code's own contracts.
use Rattle.std.specs.Prelude.{◌≡◌, ℕ, ◌+◌, ◌<◌, ◌&&◌, ◌==◌, Bool, true, eqb, List, [], ◌∷◌, filter, map, length, slice_index_or, None}
use Rattle.std.specs.List.{list_any, IsDistinct, AllByRecursion}
use Rattle.afl_fragments.specs.Fragment.{Fragment}
use Rattle.afl_fragments.specs.declared.places.HeldPart.{HeldPart}
use Rattle.afl_fragments.specs.Held.{others}

-- what is read past the places
abbrev pub no_held : HeldPart
no_held = record {
  ticks = 0;
  part = record { afl = record { more = true; fid = 1; mcl = None; ki = None; mcr = None; mac = None; ml = None; len = 4 }; bytes = [] };
}

abbrev pub at_place : List HeldPart → ℕ → HeldPart
at_place places i = slice_index_or places i no_held

-- what stands in these places
abbrev pub held_in : List HeldPart → List ℕ → List HeldPart
held_in places order = map (at_place places) order

-- the place is among these
abbrev pub is_in : ℕ → List ℕ → Bool
is_in place order = list_any (λ i. eqb i place) order

-- a fragment with more to follow is held in the place
abbrev pub is_led : List HeldPart → List ℕ → ℕ → Bool
is_led places order place = is_in place order && (at_place places place).part.afl.more

-- a place has the fragment of its number
abbrev pub IsPlace : List HeldPart → ℕ → Type 0
IsPlace places i = (i < 16) × ((at_place places i).part.afl.fid ≡ i + 1)

-- there are sixteen places, and those in use are different ones, each with the fragment of its number
pub record AreOrdered (places : List HeldPart) (order : List ℕ) : Type 0 where
  pub long : length places ≡ 16
  pub distinct : IsDistinct eqb order
  pub each : AllByRecursion (IsPlace places) order

-- the fragments of the first places
abbrev pub parts_in : List HeldPart → List Fragment
parts_in hs = map (λ h. h.part) hs

-- what is held after one more fragment
abbrev pub held_with : Fragment → List HeldPart → List HeldPart
held_with part hs = record { ticks = 0; part = part } ∷ others part.afl.fid hs

abbrev pub is_fresh : HeldPart → Bool
is_fresh h = h.ticks == 0

abbrev pub older : HeldPart → HeldPart
older h = record { ticks = 1; part = h.part }

-- those that saw a tick are dropped, and the others see their first one
abbrev pub aged : List HeldPart → List HeldPart
aged hs = map older (filter is_fresh hs)
