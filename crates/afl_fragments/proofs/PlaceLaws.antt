-- Laws of sixteen fixed places.
use Rattle.std.proofs.Common.{◌≡◌, ◌≢◌, ℕ, zero, suc, ◌+◌, ◌<◌, ◌≤◌, eqb, Bool, true, false, not, cond, List, [], ◌∷◌, length, set, map, filter, refl, ap, sym, ◌∙◌, arith, get_or-set_same, get_or-set_other}
use Rattle.std.specs.List.{list_any, IsDistinct, AllByRecursion}
use Rattle.std.specs.Prelude.{find, Some, None, option_map}
use Rattle.std.proofs.lemmas.Bool.Decides.{nat_tests}
use Rattle.std.proofs.lemmas.List.{length-set, length-map}
use Rattle.std.proofs.lemmas.Map.Steps.{length-le_from_distinct_below}
use Rattle.afl_fragments.specs.Fragment.{Fragment}
use Rattle.afl_fragments.specs.declared.places.HeldPart.{HeldPart}
use Rattle.afl_fragments.specs.Held.{others, piece_at, is_end, last_end}
use Rattle.afl_fragments.specs.Places.{no_held, at_place, held_in, is_in, held_with, older, is_fresh, aged, IsPlace, AreOrdered}

not_place : (i place : ℕ) → eqb place i ≡ false → i ≢ place
not_place i place h e = grind (arith, nat_tests)

-- ---- lists of places

abbrev other_places : ℕ → List ℕ → List ℕ
other_places place order = filter (λ i. not (eqb i place)) order

each_filter : (P : ℕ → Type 0) (f : ℕ → Bool) (is : List ℕ) → AllByRecursion P is → AllByRecursion P (filter f is)
each_filter P f [] h = tt
each_filter P f (i ∷ is) h = let here = h.0 in let rest = each_filter P f is h.1 in grind arith

-- none of the others is the place
others_differ : (place : ℕ) (is : List ℕ) → AllByRecursion (λ j. eqb place j ≡ false) (other_places place is)
others_differ place [] = tt
others_differ place (i ∷ is) = let rest = others_differ place is in grind (arith, nat_tests)

distinct_filter : (f : ℕ → Bool) (is : List ℕ) → IsDistinct eqb is → IsDistinct eqb (filter f is)
unfolding IsDistinct
distinct_filter f [] h = tt
distinct_filter f (i ∷ is) h =
    let here = each_filter (λ j. eqb i j ≡ false) f is h.0 in
    let rest = distinct_filter f is h.1 in
    grind arith

-- the place first, and then the others
distinct_first : (place : ℕ) (order : List ℕ) → IsDistinct eqb order → IsDistinct eqb (place ∷ other_places place order)
unfolding IsDistinct
distinct_first place order h = (others_differ place order, distinct_filter (λ i. not (eqb i place)) order h)

any_below : (places : List HeldPart) (is : List ℕ) → AllByRecursion (IsPlace places) is → (q : ℕ) → list_any (eqb q) is ≡ true → q < 16
any_below places [] h q e = absurd cc
any_below places (i ∷ is) h q e = let here = h.0.0 in let rest = any_below places is h.1 q in grind (arith, nat_tests)

-- no more than sixteen are in use
pub few_places : (places : List HeldPart) (order : List ℕ) → AreOrdered places order → length order ≤ 16
few_places places order a = length-le_from_distinct_below order 16 a.distinct (any_below places order a.each)

-- ---- a fragment comes

at_set_same : (places : List HeldPart) (place : ℕ) (h : HeldPart) → place < length places → at_place (set places place h) place ≡ h
at_set_same places place h l = get_or-set_same places place h no_held l

at_set_other : (places : List HeldPart) (place i : ℕ) (h : HeldPart) → eqb place i ≡ false
    → at_place (set places place h) i ≡ at_place places i
at_set_other places place i h e = get_or-set_other places place i h no_held (not_place i place e)

held_in-set : (places : List HeldPart) (place : ℕ) (h : HeldPart) (order : List ℕ) → AllByRecursion (λ i. eqb place i ≡ false) order
    → held_in (set places place h) order ≡ held_in places order
held_in-set places place h [] a = refl
held_in-set places place h (i ∷ order) a =
    ap (λ g. g ∷ held_in (set places place h) order) (at_set_other places place i h a.0)
    ∙ ap (λ gs. at_place places i ∷ gs) (held_in-set places place h order a.1)

-- leaving a place out is leaving its fragment out
held_in-others : (places : List HeldPart) (place : ℕ) (order : List ℕ) → AllByRecursion (IsPlace places) order
    → held_in places (other_places place order) ≡ others (place + 1) (held_in places order)
held_in-others places place [] a = refl
held_in-others places place (i ∷ order) a =
    let here = a.0.1 in let rest = held_in-others places place order a.1 in grind (arith, nat_tests)

abbrev heard : Fragment → HeldPart
heard part = record { ticks = 0; part = part }

-- the fragment is held in its place, heard last
pub placed : (places : List HeldPart) (order : List ℕ) (place : ℕ) (part : Fragment) → AreOrdered places order → place < 16
    → part.afl.fid ≡ place + 1
    → held_in (set places place (heard part)) (place ∷ other_places place order) ≡ held_with part (held_in places order)
placed places order place part a m e =
    let l : place < length places = omega (arith, a.long) in
    let kept : held_in (set places place (heard part)) (other_places place order) ≡ others part.afl.fid (held_in places order) =
    held_in-set places place (heard part) (other_places place order) (others_differ place order) ∙ held_in-others places place order a.each
    ∙ ap (λ f. others f (held_in places order)) (sym e) in
    ap (λ g. g ∷ held_in (set places place (heard part)) (other_places place order)) (at_set_same places place (heard part) l)
    ∙ ap (λ gs. heard part ∷ gs) kept

still_place : (places : List HeldPart) (place : ℕ) (h : HeldPart) (order : List ℕ) → AllByRecursion (IsPlace places) order
    → AllByRecursion (λ i. eqb place i ≡ false) order → AllByRecursion (IsPlace (set places place h)) order
still_place places place h [] a d = tt
still_place places place h (i ∷ order) a d =
    ((a.0.0, ap (λ g. g.part.afl.fid) (at_set_other places place i h d.0) ∙ a.0.1), still_place places place h order a.1 d.1)

pub placed_ordered : (places : List HeldPart) (order : List ℕ) (place : ℕ) (part : Fragment) → AreOrdered places order → place < 16
    → part.afl.fid ≡ place + 1
    → AreOrdered (set places place (heard part)) (place ∷ other_places place order)
placed_ordered places order place part a m e =
    let l : place < length places = omega (arith, a.long) in
    record {
      long = length-set places place (heard part) ∙ a.long;
      distinct = distinct_first place order a.distinct;
      each = (
        (m, ap (λ g. g.part.afl.fid) (at_set_same places place (heard part) l) ∙ e),
        still_place places place (heard part) (other_places place order)
            (each_filter (IsPlace places) (λ i. not (eqb i place)) order a.each) (others_differ place order),
      );
    }

-- there is room for one more place
pub others_few : (places : List HeldPart) (order : List ℕ) (place : ℕ) (part : Fragment) → AreOrdered places order → place < 16
    → part.afl.fid ≡ place + 1 → length (other_places place order) < 16
others_few places order place part a m e =
    omega (
      arith,
      few_places (set places place (heard part)) (place ∷ other_places place order)
          (placed_ordered places order place part a m e),
    )

-- ---- a tick

at_older : (places : List HeldPart) (i : ℕ) → i < length places → at_place (map older places) i ≡ older (at_place places i)
at_older [] i l = absurd (omega arith)
at_older (h ∷ places) zero l = refl
at_older (h ∷ places) (suc i) l = at_older places i (omega arith)

held_in-older : (places : List HeldPart) (order : List ℕ) → 16 ≤ length places → AllByRecursion (IsPlace places) order
    → held_in (map older places) order ≡ map older (held_in places order)
held_in-older places [] l a = refl
held_in-older places (i ∷ order) l a =
    let within : i < length places = omega (arith, a.0.0) in
    ap (λ g. g ∷ held_in (map older places) order) (at_older places i within)
    ∙ ap (λ gs. older (at_place places i) ∷ gs) (held_in-older places order l a.1)

abbrev fresh_ones : List HeldPart → List ℕ → List ℕ
fresh_ones places order = filter (λ i. is_fresh (at_place places i)) order

held_in-fresh : (places : List HeldPart) (order : List ℕ)
    → held_in places (fresh_ones places order) ≡ filter is_fresh (held_in places order)
held_in-fresh places [] = refl
held_in-fresh places (i ∷ order) = let rest = held_in-fresh places order in grind arith

pub aged_places : (places : List HeldPart) (order : List ℕ) → AreOrdered places order
    → held_in (map older places) (fresh_ones places order) ≡ aged (held_in places order)
aged_places places order a =
    held_in-older places (fresh_ones places order) (omega (arith, a.long))
    (each_filter (IsPlace places) (λ i. is_fresh (at_place places i)) order a.each)
    ∙ ap (map older) (held_in-fresh places order)

older_place : (places : List HeldPart) (order : List ℕ) → 16 ≤ length places → AllByRecursion (IsPlace places) order
    → AllByRecursion (IsPlace (map older places)) order
older_place places [] l a = tt
older_place places (i ∷ order) l a =
    ((a.0.0, ap (λ g. g.part.afl.fid) (at_older places i (omega (arith, a.0.0))) ∙ a.0.1), older_place places order l a.1)

pub aged_ordered : (places : List HeldPart) (order : List ℕ) → AreOrdered places order
    → AreOrdered (map older places) (fresh_ones places order)
aged_ordered places order a = record {
  long = length-map places older ∙ a.long;
  distinct = distinct_filter (λ i. is_fresh (at_place places i)) order a.distinct;
  each = older_place places (fresh_ones places order) (omega (arith, a.long))
      (each_filter (IsPlace places) (λ i. is_fresh (at_place places i)) order a.each);
}

-- ---- a look at a place

-- the fragment of a number stands in the number's place, if that is in use
pub piece_at_place : (places : List HeldPart) (is : List ℕ) (place : ℕ) → AllByRecursion (IsPlace places) is
    → piece_at (place + 1) (held_in places is) ≡ cond (is_in place is) (Some (at_place places place)) None
piece_at_place places [] place a = refl
piece_at_place places (i ∷ is) place a =
    let here = a.0.1 in let rest = piece_at_place places is place a.1 in grind (arith, nat_tests)

-- the end of a message in its place
pub last_end_place : (places : List HeldPart) (order : List ℕ)
    → option_map (at_place places) (find (λ i. is_end (at_place places i)) order) ≡ last_end (held_in places order)
last_end_place places [] = refl
last_end_place places (i ∷ order) = let rest = last_end_place places order in grind arith
