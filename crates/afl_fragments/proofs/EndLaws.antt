-- The end with which a message ends is the one that was heard last.
use Rattle.std.proofs.Common.{◌≡◌, ℕ, zero, suc, ◌≤◌, ◌==◌, Bool, true, false, not, ◌&&◌, cond, List, [], ◌∷◌, ◌++◌, Option, Some, None, refl, ap, sym, ◌∙◌, arith, subst, inl, inr}
use Rattle.std.specs.Prelude.{find, option_map}
use Rattle.std.specs.List.{list_any}
use Rattle.std.proofs.lemmas.Bool.{eq-eqb, cases_Bool, and_parts, and_from, or_parts, or_from, not-true}
use Rattle.std.proofs.lemmas.Bool.Decides.{nat_tests}
use Rattle.afl_fragments.specs.Fragment.{Fragment}
use Rattle.afl_fragments.specs.declared.places.HeldPart.{HeldPart}
use Rattle.afl_fragments.specs.Held.{Told, Piece, Tick, Clear, since, is_counted, is_fid, is_end, others, latest_each, held, last_end}
use Rattle.afl_fragments.specs.Laws.{is_piece_of, IsLastEnd}
use Rattle.afl_fragments.proofs.LatestLaws.{WasLast, found_part, found_any, at_last, after_piece, after_tick, beyond, is_latest, latest_found, last_is_held}

-- ---- an end among the latest ones

-- an end whose number passes a test
abbrev is_end_of : (ℕ → Bool) → HeldPart → Bool
is_end_of test h = test h.part.afl.fid && is_end h

-- a test that leaves a number out
abbrev less : ℕ → (ℕ → Bool) → ℕ → Bool
less fid test f = not (f == fid) && test f

-- the end that is found, where n ticks came after all that was told
abbrev found_end : (ℕ → Bool) → ℕ → List Told → Option Fragment
found_end test n told = option_map (λ h. h.part) (find (is_end_of test) (latest_each (since n told)))

find_less : (test : ℕ → Bool) (fid : ℕ) (hs : List HeldPart) → find (is_end_of test) (others fid hs) ≡ find (is_end_of (less fid test)) hs
find_less test fid [] = refl
find_less test fid (h ∷ hs) = let rest = find_less test fid hs in grind (arith, nat_tests)

abbrev is_here : (ℕ → Bool) → Fragment → Bool
is_here test p = test p.afl.fid && not p.afl.more

-- ---- the end that is found is the last one

-- the last end whose number passes a test, where n ticks came after all that was told
record WasLastEnd (test : ℕ → Bool) (n : ℕ) (told : List Told) (part : Fragment) : Type 0 where
  was : WasLast n part.afl.fid told part
  passes : test part.afl.fid ≡ true
  ends : part.afl.more ≡ false
  last : (other : Fragment) → test other.afl.fid ≡ true → other.afl.more ≡ false → found_part n other.afl.fid told ≡ Some other
      → list_any (is_piece_of other.afl.fid) was.later ≡ false

other_number : (a b : ℕ) → not (b == a) ≡ true → (a == b) ≡ false
other_number a b h = grind (arith, nat_tests)

number_differs : (a b : ℕ) → (a == b) ≡ false → not (b == a) ≡ true
number_differs a b h = grind (arith, nat_tests)

-- the fragment itself
end_itself : (test : ℕ → Bool) (n : ℕ) (p : Fragment) (told : List Told) → n ≤ 1 → is_counted p ≡ true → is_here test p ≡ true
    → WasLastEnd test n (Piece p ∷ told) p
end_itself test n p told l c e =
    let both = and_parts (test p.afl.fid) (not p.afl.more) e in
    record { was = at_last n p told l c; passes = both.0; ends = not-true p.afl.more both.1; last = λ other t m f. refl }

-- no other fragment that is found has the number of one that is no end
end_passed : (test : ℕ → Bool) (n : ℕ) (p other : Fragment) (told : List Told) → is_counted p ≡ true → is_here test p ≡ false
    → test other.afl.fid ≡ true → other.afl.more ≡ false → found_part n other.afl.fid (Piece p ∷ told) ≡ Some other
    → ((p.afl.fid == other.afl.fid) ≡ false) × (found_part n other.afl.fid told ≡ Some other)
end_passed test n p other told c no_end t m f =
    elim (cases_Bool (p.afl.fid == other.afl.fid)) [
      | inl here ↦
          let found : Some p ≡ Some other = rw (c, here) at f in
          let is : p ≡ other = cc in
          let ends : is_here test p ≡ true = ap (is_here test) is ∙ and_from (test other.afl.fid) (not other.afl.more) t (ap not m) in
          absurd cc
      | inr apart ↦ let found : found_part n other.afl.fid told ≡ Some other = rw (c, apart) at f in (apart, found)
    ]

end_after : (test : ℕ → Bool) (n : ℕ) (p part : Fragment) (told : List Told) → is_counted p ≡ true → is_here test p ≡ false
    → WasLastEnd (less p.afl.fid test) n told part → WasLastEnd test n (Piece p ∷ told) part
end_after test n p part told c e w =
    let passes = and_parts (not (part.afl.fid == p.afl.fid)) (test part.afl.fid) w.passes in
    record {
      was = after_piece n part.afl.fid p part told (other_number p.afl.fid part.afl.fid passes.0) w.was;
      passes = passes.1;
      ends = w.ends;
      last = λ other t m f.
          let passed = end_passed test n p other told c e t m f in
          or_from (p.afl.fid == other.afl.fid) (list_any (is_piece_of other.afl.fid) w.was.later) passed.0
          (w.last other
          (and_from (not (other.afl.fid == p.afl.fid)) (test other.afl.fid) (number_differs p.afl.fid other.afl.fid passed.0) t)
          m passed.1);
    }

-- a fragment that isn't counted
end_uncounted : (test : ℕ → Bool) (n : ℕ) (p part : Fragment) (told : List Told) → n ≤ 1 → is_counted p ≡ false
    → WasLastEnd test n told part → WasLastEnd test n (Piece p ∷ told) part
end_uncounted test n p part told l c w = record {
  was = after_piece n part.afl.fid p part told (beyond p.afl.fid part.afl.fid c w.was.counted) w.was;
  passes = w.passes;
  ends = w.ends;
  last = λ other t m f.
      let found : found_part n other.afl.fid told ≡ Some other = rw c at f in
      or_from (p.afl.fid == other.afl.fid) (list_any (is_piece_of other.afl.fid) w.was.later)
      (beyond p.afl.fid other.afl.fid c (found_any n other.afl.fid told other l found).counted) (w.last other t m found);
}

end_tick : (test : ℕ → Bool) (told : List Told) (part : Fragment) → WasLastEnd test 1 told part → WasLastEnd test 0 (Tick ∷ told) part
end_tick test told part w =
    record { was = after_tick part.afl.fid part told w.was; passes = w.passes; ends = w.ends; last = λ other t m f. w.last other t m f }

ended_after : (test : ℕ → Bool) (n : ℕ) (p part : Fragment) (told : List Told) → n ≤ 1
    → ((t : ℕ → Bool) → found_end t n told ≡ Some part → WasLastEnd t n told part)
    → found_end test n (Piece p ∷ told) ≡ Some part → WasLastEnd test n (Piece p ∷ told) part
ended_after test n p part told l rest h =
    elim (cases_Bool (is_counted p)) [
      | inl c ↦ elim (cases_Bool (is_here test p)) [
        | inl e ↦
            let found : Some p ≡ Some part = rw (c, e) at h in
            let is : p ≡ part = cc in
            subst (WasLastEnd test n (Piece p ∷ told)) is (end_itself test n p told l c e)
        | inr e ↦
            let found : found_end (less p.afl.fid test) n told ≡ Some part =
            rw (c, e, find_less test p.afl.fid (latest_each (since n told))) at h in
            end_after test n p part told c e (rest (less p.afl.fid test) found)
      ]
      | inr c ↦ let found : found_end test n told ≡ Some part = rw c at h in end_uncounted test n p part told l c (rest test found)
    ]

ended_any : (n : ℕ) (told : List Told) (part : Fragment) (test : ℕ → Bool) → n ≤ 1 → found_end test n told ≡ Some part
    → WasLastEnd test n told part
ended_any n [] part test l h = absurd cc
ended_any n (Piece p ∷ told) part test l h = ended_after test n p part told l (λ t. ended_any n told part t l) h
ended_any zero (Tick ∷ told) part test l h = end_tick test told part (ended_any 1 told part test (omega arith) h)
ended_any (suc zero) (Tick ∷ told) part test l h = absurd cc
ended_any (suc (suc n)) (Tick ∷ told) part test l h = absurd (omega arith)
ended_any n (Clear ∷ told) part test l h = absurd cc

pub end_was_last : (told : List Told) (part : Fragment) → option_map (λ h. h.part) (last_end (held told)) ≡ Some part → IsLastEnd told part
unfolding held
end_was_last told part h =
    let w = ended_any 0 told part (λ f. true) (omega arith) h in
    record {
      held = is_latest part.afl.fid told part w.was;
      ends = w.ends;
      last = λ other latest m. w.last other refl m (latest_found told other.afl.fid other latest);
    }

-- ---- the last end is found

-- where no end is found, each fragment that is found has more to follow
no_end : (f : ℕ) (hs : List HeldPart) (part : Fragment) → find is_end hs ≡ None → option_map (λ h. h.part) (find (is_fid f) hs) ≡ Some part
    → part.afl.more ≡ true
no_end f [] part e h = absurd cc
no_end f (x ∷ hs) part e h =
    elim (cases_Bool x.part.afl.more) [
      | inl more ↦ elim (cases_Bool (is_fid f x)) [
        | inl same ↦
            let found : Some x.part ≡ Some part = rw same at h in
            let is : x.part ≡ part = cc in
            ap (λ (p : Fragment). p.afl.more) (sym is) ∙ more
        | inr other ↦ no_end f hs part (rw more at e) (rw other at h)
      ]
      | inr ends ↦ let found : Some x ≡ None = ap (λ b. cond (not b) (Some x) (find is_end hs)) (sym ends) ∙ e in absurd cc
    ]

-- of two fragments that were told, each with its number nowhere after the other, one is the other
one_told : (a b : Fragment) (after_a after_b before_a before_b : List Told) → after_a ++ Piece a ∷ before_a ≡ after_b ++ Piece b ∷ before_b
    → list_any (is_piece_of b.afl.fid) after_a ≡ false → list_any (is_piece_of a.afl.fid) after_b ≡ false → a ≡ b
one_told a b [] [] before_a before_b e h k = cc
one_told a b [] (t ∷ after_b) before_a before_b e h k =
    let is : Piece a ≡ t = cc in
    absurd (cc (
      ap (is_piece_of a.afl.fid) is,
      eq-eqb a.afl.fid a.afl.fid refl,
      (or_parts (is_piece_of a.afl.fid t) (list_any (is_piece_of a.afl.fid) after_b) k).0,
    ))
one_told a b (t ∷ after_a) [] before_a before_b e h k =
    let is : t ≡ Piece b = cc in
    absurd (cc (
      ap (is_piece_of b.afl.fid) is,
      eq-eqb b.afl.fid b.afl.fid refl,
      (or_parts (is_piece_of b.afl.fid t) (list_any (is_piece_of b.afl.fid) after_a) h).0,
    ))
one_told a b (t ∷ after_a) (u ∷ after_b) before_a before_b e h k =
    let rest : after_a ++ Piece a ∷ before_a ≡ after_b ++ Piece b ∷ before_b = cc in
    one_told a b after_a after_b before_a before_b rest
    (or_parts (is_piece_of b.afl.fid t) (list_any (is_piece_of b.afl.fid) after_a) h).1
    (or_parts (is_piece_of a.afl.fid u) (list_any (is_piece_of a.afl.fid) after_b) k).1

one_last_end : (told : List Told) (a b : Fragment) → IsLastEnd told a → IsLastEnd told b → a ≡ b
one_last_end told a b v w =
    one_told a b v.held.later w.held.later v.held.earlier w.held.earlier (sym v.held.heard
    ∙ w.held.heard) (v.last b w.held w.ends) (w.last a v.held v.ends)

pub last_is_end : (told : List Told) (part : Fragment) → IsLastEnd told part → option_map (λ h. h.part) (last_end (held told)) ≡ Some part
last_is_end told part w = by_end (last_end (held told)) refl
  where
    by_end : (o : Option HeldPart) → last_end (held told) ≡ o → option_map (λ h. h.part) o ≡ Some part
    by_end None e =
        let more = no_end part.afl.fid (held told) part e (last_is_held told part.afl.fid part w.held) in
        let ends = w.ends in
        absurd cc
    by_end (Some h) e =
        ap Some (one_last_end told h.part part (end_was_last told h.part (ap (option_map (λ (x : HeldPart). x.part)) e)) w)
