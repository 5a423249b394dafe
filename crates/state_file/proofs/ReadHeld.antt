-- What is held of fragments that can be sent: sixteen at most, each of which can be sent.
use Rattle.std.proofs.Common.{◌≡◌, ℕ, ◌+◌, ◌<◌, ◌≤◌, ◌==◌, ◌||◌, ◌&&◌, nat_le, eqb, Bool, true, false, cond, List, [], ◌∷◌, length, map, filter, refl, sym, subst, ⊎_elim, arith}
use Rattle.std.specs.Prelude.{count_by}
use Rattle.std.specs.List.{list_any, IsDistinct, AllByRecursion}
use Rattle.std.proofs.lemmas.Bool.{eq-eqb, or_cases}
use Rattle.std.proofs.lemmas.Bool.Decides.{nat_tests}
use Rattle.std.proofs.lemmas.List.{length-map}
use Rattle.std.proofs.lemmas.List.Sums.{sum_by-cons}
use Rattle.std.proofs.lemmas.Map.Steps.{length-le_from_distinct_below}
use Rattle.lists.specs.Each.{Each}
use Rattle.afl_fragments.specs.declared.places.HeldPart.{HeldPart}
use Rattle.afl_fragments.specs.Held.{Told, Piece, Tick, Clear, is_fid, held}
use Rattle.afl_fragments.specs.Places.{older, is_fresh}
use Rattle.afl_fragments.proofs.Holding.{held-nothing, held-piece, held-tick}
use Rattle.afl_fragments.proofs.HistoryLaws.{each_number_is_held_once}
use Rattle.state_file.specs.Text.{IsSpeltMark}
use Rattle.state_file.specs.Telling.{HasSpelt}

-- ---- each can be sent

each_where : (b : Bool) (h : HeldPart) (hs : List HeldPart) → HasSpelt h → Each HasSpelt hs → Each HasSpelt (cond b (h ∷ hs) hs)
each_where true h hs is each = (is, each)
each_where false h hs is each = each

each_filter : (p : HeldPart → Bool) (hs : List HeldPart) → Each HasSpelt hs → Each HasSpelt (filter p hs)
each_filter p [] each = tt
each_filter p (h ∷ hs) each = each_where (p h) h (filter p hs) each.0 (each_filter p hs each.1)

each_older : (hs : List HeldPart) → Each HasSpelt hs → Each HasSpelt (map older hs)
each_older [] each = tt
each_older (h ∷ hs) each = (each.0, each_older hs each.1)

pub held_spelt : (told : List Told) → Each IsSpeltMark told → Each HasSpelt (held told)
held_spelt [] each = subst (Each HasSpelt) (sym held-nothing) tt
held_spelt (Piece part ∷ told) each =
    subst (Each HasSpelt) (sym (held-piece part told each.0.few)) (each.0, each_filter _ (held told) (held_spelt told each.1))
held_spelt (Tick ∷ told) each =
    subst (Each HasSpelt) (sym (held-tick told)) (each_older _ (each_filter is_fresh (held told) (held_spelt told each.1)))
held_spelt (Clear ∷ told) each = absurd each.0

-- ---- each number is there once

abbrev numbers : List HeldPart → List ℕ
numbers hs = map (λ h. h.part.afl.fid) hs

counted : (f : ℕ) (h : HeldPart) (hs : List HeldPart)
    → count_by (is_fid f) (h ∷ hs) ≡ cond (is_fid f h) 1 0 + count_by (is_fid f) hs
counted f h hs = sum_by-cons (λ x. cond (is_fid f x) 1 0) h hs

none_counted : (b : Bool) (n all : ℕ) → all ≡ cond b 1 0 + n → all ≡ 0 → (b ≡ false) × (n ≡ 0)
none_counted true n all sum none = absurd (omega arith)
none_counted false n all sum none = (refl, omega arith)

once_behind : (b : Bool) (n all : ℕ) → all ≡ cond b 1 0 + n → all ≤ 1 → n ≤ 1
once_behind true n all sum once = omega arith
once_behind false n all sum once = omega arith

none_behind : (b : Bool) (n all : ℕ) → b ≡ true → all ≡ cond b 1 0 + n → all ≤ 1 → n ≡ 0
none_behind true n all is sum once = omega arith
none_behind false n all is sum once = absurd cc

flipped : (m n : ℕ) → (m == n) ≡ false → eqb n m ≡ false
flipped m n h = grind (arith, nat_tests)

others_differ : (f : ℕ) (hs : List HeldPart) → count_by (is_fid f) hs ≡ 0 → AllByRecursion (λ n. eqb f n ≡ false) (numbers hs)
others_differ f [] none = tt
others_differ f (h ∷ hs) none =
    let both = none_counted (is_fid f h) (count_by (is_fid f) hs) _ (counted f h hs) none in
    (flipped h.part.afl.fid f both.0, others_differ f hs both.1)

distinct : (hs : List HeldPart) → ((f : ℕ) → count_by (is_fid f) hs ≤ 1) → IsDistinct eqb (numbers hs)
unfolding IsDistinct
distinct [] once = tt
distinct (h ∷ hs) once =
    let own = h.part.afl.fid in
    let none = none_behind (is_fid own h) (count_by (is_fid own) hs) _ (eq-eqb own own refl) (counted own h hs) (once own) in (
      others_differ own hs none,
      distinct hs (λ f. once_behind (is_fid f h) (count_by (is_fid f) hs) _ (counted f h hs) (once f)),
    )

-- ---- sixteen at most

from_one : (more : Bool) (fid : ℕ) → (more || nat_le 2 fid) ≡ true → (more && fid == 0) ≡ false → eqb 0 fid ≡ false
from_one true fid fragment numbered = grind (arith, nat_tests)
from_one false fid fragment numbered = grind (arith, nat_tests)

no_zero : (hs : List HeldPart) → Each HasSpelt hs → AllByRecursion (λ n. eqb 0 n ≡ false) (numbers hs)
no_zero [] each = tt
no_zero (h ∷ hs) each =
    let is = each.0.fragment in
    (from_one h.part.afl.more h.part.afl.fid is.fragment is.numbered, no_zero hs each.1)

same_below : (q n : ℕ) → n ≤ 16 → eqb q n ≡ true → q < 17
same_below q n few h = grind (arith, nat_tests)

all_below : (hs : List HeldPart) → Each HasSpelt hs → (q : ℕ) → list_any (eqb q) (numbers hs) ≡ true → q < 17
all_below [] each q h = absurd cc
all_below (h ∷ hs) each q is =
    ⊎_elim (same_below q h.part.afl.fid each.0.few) (all_below hs each.1 q)
    (or_cases (eqb q h.part.afl.fid) (list_any (eqb q) (numbers hs)) is)

pub few_held : (told : List Told) → Each HasSpelt (held told) → length (held told) ≤ 16
unfolding IsDistinct
few_held told each =
    let hs = held told in
    let few = length-le_from_distinct_below (0 ∷ numbers hs) 17 (no_zero hs each, distinct hs (each_number_is_held_once told))
    (λ q h. ⊎_elim (same_below q 0 (omega arith)) (all_below hs each q) (or_cases (eqb q 0) (list_any (eqb q) (numbers hs)) h)) in
    let same = length-map hs (λ h. h.part.afl.fid) in
    omega arith
