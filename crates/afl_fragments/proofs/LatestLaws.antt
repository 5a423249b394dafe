-- A fragment is held exactly where it is the latest.
use Rattle.std.proofs.Common.{◌≡◌, ℕ, zero, suc, ◌+◌, ◌≤◌, ◌==◌, true, false, ◌||◌, cond, List, [], ◌∷◌, ◌++◌, Option, Some, refl, ap, sym, ◌∙◌, arith, subst, inl, inr}
use Rattle.std.specs.Prelude.{find, count_by, option_map, nat_le}
use Rattle.std.specs.List.{list_any}
use Rattle.std.proofs.lemmas.Bool.{eqb-true, cases_Bool, or_parts}
use Rattle.std.proofs.lemmas.Bool.Decides.{nat_tests}
use Rattle.std.proofs.lemmas.List.Sums.{sum_by-cons}
use Rattle.afl_fragments.specs.Fragment.{Fragment}
use Rattle.afl_fragments.specs.declared.places.HeldPart.{HeldPart}
use Rattle.afl_fragments.specs.Held.{Told, Piece, Tick, Clear, since, is_counted, is_fid, latest_each, held, piece_at}
use Rattle.afl_fragments.proofs.Holding.{find-others}
use Rattle.afl_fragments.specs.Laws.{is_piece_of, is_tick, is_clear, IsLatest}

-- ---- a look-up among the latest ones

find_latest : (f : ℕ) (hs : List HeldPart) → find (is_fid f) (latest_each hs) ≡ find (is_fid f) hs
find_latest f [] = refl
find_latest f (h ∷ hs) =
    let rest = find_latest f hs in let other = find-others f h.part.afl.fid (latest_each hs) in grind (arith, nat_tests)

-- ---- what is found is the latest

-- the latest, where n ticks came after all that was told
pub record WasLast (n fid : ℕ) (told : List Told) (part : Fragment) : Type 0 where
  pub later : List Told
  pub earlier : List Told
  pub heard : told ≡ later ++ Piece part ∷ earlier
  pub number : part.afl.fid ≡ fid
  pub counted : fid ≤ 16
  pub latest : list_any (is_piece_of fid) later ≡ false
  pub uncleared : list_any is_clear later ≡ false
  pub ticks : count_by is_tick later + n ≤ 1

abbrev pub found_part : ℕ → ℕ → List Told → Option Fragment
found_part n f told = option_map (λ h. h.part) (find (is_fid f) (since n told))

abbrev pub after_piece : (n f : ℕ) (p part : Fragment) (told : List Told) → (p.afl.fid == f) ≡ false → WasLast n f told part
    → WasLast n f (Piece p ∷ told) part
after_piece n f p part told e w = record {
  later = Piece p ∷ w.later;
  earlier = w.earlier;
  heard = ap (λ ts. Piece p ∷ ts) w.heard;
  number = w.number;
  counted = w.counted;
  latest = ap (λ t. t || list_any (is_piece_of f) w.later) e ∙ w.latest;
  uncleared = w.uncleared;
  ticks = w.ticks;
}

pub one_more : (later : List Told) → count_by is_tick (Tick ∷ later) ≡ 1 + count_by is_tick later
one_more later = sum_by-cons (λ t. cond (is_tick t) 1 0) Tick later

abbrev pub after_tick : (f : ℕ) (part : Fragment) (told : List Told) → WasLast 1 f told part → WasLast 0 f (Tick ∷ told) part
after_tick f part told w = record {
  later = Tick ∷ w.later;
  earlier = w.earlier;
  heard = ap (λ ts. Tick ∷ ts) w.heard;
  number = w.number;
  counted = w.counted;
  latest = w.latest;
  uncleared = w.uncleared;
  ticks = omega (arith, one_more w.later, w.ticks);
}

pub within : (fid f : ℕ) → nat_le fid 16 ≡ true → fid ≡ f → f ≤ 16
within fid f t e = grind (arith, nat_tests)

pub beyond : (fid f : ℕ) → nat_le fid 16 ≡ false → f ≤ 16 → (fid == f) ≡ false
beyond fid f t e = grind (arith, nat_tests)

-- the fragment itself
abbrev pub at_last : (n : ℕ) (p : Fragment) (told : List Told) → n ≤ 1 → is_counted p ≡ true → WasLast n p.afl.fid (Piece p ∷ told) p
at_last n p told l c = record {
  later = [];
  earlier = told;
  heard = refl;
  number = refl;
  counted = within p.afl.fid p.afl.fid c refl;
  latest = refl;
  uncleared = refl;
  ticks = omega arith;
}

found_after : (n f : ℕ) (p part : Fragment) (told : List Told) → n ≤ 1 → (found_part n f told ≡ Some part → WasLast n f told part)
    → found_part n f (Piece p ∷ told) ≡ Some part → WasLast n f (Piece p ∷ told) part
found_after n f p part told l rest h =
    elim (cases_Bool (is_counted p)) [
      | inl c ↦ elim (cases_Bool (p.afl.fid == f)) [
        | inl here ↦
            let found : Some p ≡ Some part = rw (c, here) at h in
            let is : p ≡ part = cc in
            let number : p.afl.fid ≡ f = eqb-true p.afl.fid f here in
            subst (WasLast n f (Piece p ∷ told)) is (subst (λ (g : ℕ). WasLast n g (Piece p ∷ told) p) number (at_last n p told l c))
        | inr other ↦ let found : found_part n f told ≡ Some part = rw (c, other) at h in after_piece n f p part told other (rest found)
      ]
      | inr c ↦
          let found : found_part n f told ≡ Some part = rw c at h in
          let last = rest found in
          after_piece n f p part told (beyond p.afl.fid f c last.counted) last
    ]

pub found_any : (n f : ℕ) (told : List Told) (part : Fragment) → n ≤ 1 → found_part n f told ≡ Some part → WasLast n f told part
found_any n f [] part l h = cc
found_any n f (Piece p ∷ told) part l h = found_after n f p part told l (found_any n f told part l) h
found_any zero f (Tick ∷ told) part l h = after_tick f part told (found_any 1 f told part (omega arith) h)
found_any (suc zero) f (Tick ∷ told) part l h = cc
found_any (suc (suc n)) f (Tick ∷ told) part l h = absurd (omega arith)
found_any n f (Clear ∷ told) part l h = cc

-- where no tick came after all that was told, it is the latest
abbrev pub is_latest : (f : ℕ) (told : List Told) (part : Fragment) → WasLast 0 f told part → IsLatest f told part
is_latest f told part w = record {
  later = w.later;
  earlier = w.earlier;
  heard = w.heard;
  number = w.number;
  counted = w.counted;
  latest = w.latest;
  uncleared = w.uncleared;
  ticks = omega (arith, w.ticks);
}

pub held_was_last : (told : List Told) (f : ℕ) (part : Fragment) → option_map (λ h. h.part) (piece_at f (held told)) ≡ Some part
    → IsLatest f told part
unfolding held
held_was_last told f part h =
    is_latest f told part (found_any 0 f told part (omega arith) (ap (option_map (λ h. h.part)) (sym (find_latest f (since 0 told))) ∙ h))

-- ---- the latest is found

last_any : (n f : ℕ) (later earlier : List Told) (part : Fragment) → part.afl.fid ≡ f → f ≤ 16 → list_any (is_piece_of f) later ≡ false
    → list_any is_clear later ≡ false → count_by is_tick later + n ≤ 1 → found_part n f (later ++ Piece part ∷ earlier) ≡ Some part
last_any n f [] earlier part e m l u t = grind (arith, nat_tests)
last_any n f (Piece p ∷ later) earlier part e m l u t =
    let other = or_parts (p.afl.fid == f) (list_any (is_piece_of f) later) l in
    let rest = last_any n f later earlier part e m other.1 u t in
    grind (arith, nat_tests)
last_any zero f (Tick ∷ later) earlier part e m l u t = last_any 1 f later earlier part e m l u (omega (arith, one_more later, t))
last_any (suc n) f (Tick ∷ later) earlier part e m l u t = absurd (omega (arith, one_more later, t))
last_any n f (Clear ∷ later) earlier part e m l u t = absurd cc

pub latest_found : (told : List Told) (f : ℕ) (part : Fragment) → IsLatest f told part → found_part 0 f told ≡ Some part
latest_found told f part w =
    ap (found_part 0 f) w.heard ∙ last_any 0 f w.later w.earlier part w.number w.counted w.latest w.uncleared (omega (arith, w.ticks))

pub last_is_held : (told : List Told) (f : ℕ) (part : Fragment) → IsLatest f told part
    → option_map (λ h. h.part) (piece_at f (held told)) ≡ Some part
unfolding held
last_is_held told f part w =
    ap (option_map (λ h. h.part)) (find_latest f (since 0 told)) ∙ latest_found told f part w
