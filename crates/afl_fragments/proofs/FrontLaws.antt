-- The fragments 1 to n in their places.
use Rattle.std.proofs.Common.{◌≡◌, ℕ, zero, suc, ◌+◌, ◌-◌, ◌<◌, true, false, cond, List, [], ◌∷◌, ◌++◌, length, take, Some, None, refl, ap, sym, ◌∙◌, arith, subst, add-one, zero-add, suc-add}
use Rattle.std.specs.Prelude.{option_map}
use Rattle.std.specs.List.{flat_map}
use Rattle.std.proofs.lemmas.List.{take_more, map-append, flat_map_more}
use Rattle.afl_fragments.specs.Fragment.{Fragment}
use Rattle.afl_fragments.specs.declared.places.HeldPart.{HeldPart}
use Rattle.afl_fragments.specs.Held.{piece_at, last_end, front, with_more, auth_of, first_of, joined, ended_by, assembled}
use Rattle.afl_fragments.specs.Places.{no_held, at_place, held_in, is_in, is_led, parts_in, IsPlace, AreOrdered}
use Rattle.afl_fragments.proofs.PlaceLaws.{piece_at_place}

one_more : (places : List HeldPart) (n : ℕ) → n < length places
    → parts_in (take n places) ++ (at_place places n).part ∷ [] ≡ parts_in (take (n + 1) places)
one_more places n l = sym (ap parts_in (take_more places n no_held l) ∙ map-append (λ h. h.part) (take n places) (at_place places n ∷ []))

-- one fragment more is held, if it is led
pub front_more : (places : List HeldPart) (order : List ℕ) (n : ℕ) → AreOrdered places order → n < 16
    → front n (held_in places order) ≡ Some (parts_in (take n places))
    → front (n + 1) (held_in places order) ≡ cond (is_led places order n) (Some (parts_in (take (n + 1) places))) None
front_more places order n a l e =
    let piece : piece_at (suc n) (held_in places order) ≡ cond (is_in n order) (Some (at_place places n)) None =
    ap (λ k. piece_at k (held_in places order)) (sym (add-one n)) ∙ piece_at_place places order n a.each in
    let within : n < length places = omega (arith, a.long) in
    let longer = one_more places n within in
    ap (λ k. front k (held_in places order)) (add-one n) ∙ rw (e, piece) (grind arith)

-- a front that isn't there has no longer one
front_none : (n m : ℕ) (hs : List HeldPart) → front n hs ≡ None → front (m + n) hs ≡ None
front_none n zero hs h = rw zero-add h
front_none n (suc m) hs h = rw suc-add (ap (λ o. with_more o (piece_at (suc (m + n)) hs)) (front_none n m hs h))

-- where a fragment isn't led, no longer front is there
pub front_stops : (places : List HeldPart) (order : List ℕ) (n count : ℕ) → AreOrdered places order → n < count → count < 16
    → front n (held_in places order) ≡ Some (parts_in (take n places))
    → is_led places order n ≡ false → front count (held_in places order) ≡ None
front_stops places order n count a l most e f =
    let stop : front (n + 1) (held_in places order) ≡ None =
    front_more places order n a (omega arith) e ∙ ap (λ b. cond b (Some (parts_in (take (n + 1) places))) None) f in
    let same : (count - (n + 1)) + (n + 1) ≡ count = omega arith in
    let P : ℕ → Type 0 = λ m. front m (held_in places order) ≡ None in
    subst P same (front_none (n + 1) (count - (n + 1)) (held_in places order) stop)

pub front_goes_on : (places : List HeldPart) (order : List ℕ) (n : ℕ) → AreOrdered places order → n < 16
    → front n (held_in places order) ≡ Some (parts_in (take n places))
    → is_led places order n ≡ true → front (n + 1) (held_in places order) ≡ Some (parts_in (take (n + 1) places))
front_goes_on places order n a l e t = front_more places order n a l e ∙ ap (λ b. cond b (Some (parts_in (take (n + 1) places))) None) t

-- ---- the message

-- the message with its end in a place
pub assembled_at : (places : List HeldPart) (order : List ℕ) (n : ℕ) → last_end (held_in places order) ≡ Some (at_place places n)
    → IsPlace places n
    → assembled (held_in places order) ≡ option_map (λ parts. joined parts (at_place places n).part) (front n (held_in places order))
unfolding assembled
assembled_at places order n e p =
    let same : (at_place places n).part.afl.fid - 1 ≡ n = omega (arith, p.1) in
    ap (λ o. ended_by o (held_in places order)) e
    ∙ ap (λ k. option_map (λ parts. joined parts (at_place places n).part) (front k (held_in places order))) same

pub assembled_none : (hs : List HeldPart) → last_end hs ≡ None → assembled hs ≡ None
unfolding assembled
assembled_none hs e = ap (λ o. ended_by o hs) e

-- the first of the first places, and one more
first_place : (places : List HeldPart) (n : ℕ) → n < length places
    → first_of (parts_in (take n places)) (at_place places n).part ≡ (at_place places 0).part
first_place [] n l = absurd (omega arith)
first_place (h ∷ places) zero l = refl
first_place (h ∷ places) (suc n) l = refl

flat_map_last : (parts : List Fragment) (last : Fragment)
    → flat_map (λ p. p.bytes) parts ++ last.bytes ≡ flat_map (λ p. p.bytes) (parts ++ last ∷ [])
flat_map_last parts last = flat_map_more (λ p. p.bytes) [] parts last

-- the message of the fragments in the first places
pub joined_places : (places : List HeldPart) (n : ℕ) → n < length places
    → joined (parts_in (take n places)) (at_place places n).part ≡ record {
      auth =
          auth_of (at_place places 0).part (at_place places n).part;
      bytes = flat_map (λ p. p.bytes) (parts_in (take (n + 1) places));
    }
joined_places places n l =
    let last = (at_place places n).part in
    let bytes : flat_map (λ p. p.bytes) (parts_in (take n places)) ++ last.bytes ≡ flat_map (λ p. p.bytes)
    (parts_in (take (n + 1) places)) =
    flat_map_last (parts_in (take n places)) last ∙ ap (flat_map (λ p. p.bytes)) (one_more places n l) in
    ap (λ (f : Fragment). record { auth = auth_of f last; bytes = flat_map (λ p. p.bytes) (parts_in (take n places)) ++ last.bytes })
    (first_place places n l)
    ∙ ap (λ (bs : List ℕ). record { auth = auth_of (at_place places 0).part last; bytes = bs }) bytes
