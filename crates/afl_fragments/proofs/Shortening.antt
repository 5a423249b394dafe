-- A history that is cut down to what is held holds the same, whatever comes after it.
use Rattle.std.proofs.Common.{◌≡◌, ℕ, ◌≤◌, Bool, true, false, not, cond, List, [], ◌∷◌, ◌++◌, map, filter, refl, ap, sym, ◌∙◌, arith, subst}
use Rattle.std.specs.Prelude.{nat_le}
use Rattle.std.specs.List.{All}
use Rattle.std.proofs.lemmas.Bool.{le-leb, leb-true, leb-false}
use Rattle.std.proofs.lemmas.Bool.Decides.{nat_tests}
use Rattle.std.proofs.lemmas.List.Elements.{filter-append, All-nil, All-cons, All-head, All-tail, All-filter}
use Rattle.afl_fragments.specs.Fragment.{Fragment}
use Rattle.afl_fragments.specs.declared.places.HeldPart.{HeldPart}
use Rattle.afl_fragments.specs.Held.{Told, Piece, Tick, Clear, is_fid, others, since, latest_each, held, StandsFor}
use Rattle.afl_fragments.specs.Places.{held_with, older, is_fresh, aged}
use Rattle.afl_fragments.specs.Short.{pieces, ticked, told_of, cut_down}
use Rattle.afl_fragments.proofs.Holding.{filter-filter, others-older, held-tick, held-piece, held-too_many, held-clear, held-nothing}

-- ---- what is held: each number once, and those that came after the last tick before those that saw it

abbrev IsNew : HeldPart → Type 0
IsNew h = h.ticks ≡ 0

abbrev IsOld : HeldPart → Type 0
IsOld h = h.ticks ≡ 1

abbrev other_than : ℕ → HeldPart → Bool
other_than fid h = not (is_fid fid h)

abbrev AreOne : List HeldPart → Type 0
AreOne [] = Unit {0}
AreOne (h ∷ hs) = (h.part.afl.fid ≤ 16) × (others h.part.afl.fid hs ≡ hs) × AreOne hs

record IsTidy (hs : List HeldPart) : Type 0 where
  new : List HeldPart
  old : List HeldPart
  parted : hs ≡ new ++ old
  are_new : All IsNew new
  are_old : All IsOld old
  one : AreOne hs

tidy_nothing : IsTidy []
tidy_nothing = record { new = []; old = []; parted = refl; are_new = All-nil IsNew; are_old = All-nil IsOld; one = tt }

-- ---- without some of them

one_filter : (p : HeldPart → Bool) (hs : List HeldPart) → AreOne hs → AreOne (filter p hs)
one_filter p [] one = tt
one_filter p (h ∷ hs) one =
    let few = one.0 in
    let apart = filter-filter (other_than h.part.afl.fid) p hs ∙ ap (filter p) one.1 in
    let rest = one_filter p hs one.2 in
    grind arith

tidy_filter : (p : HeldPart → Bool) (hs : List HeldPart) → IsTidy hs → IsTidy (filter p hs)
tidy_filter p hs t = record {
  new = filter p t.new;
  old = filter p t.old;
  parted = ap (filter p) t.parted ∙ filter-append p t.new t.old;
  are_new = All-filter p IsNew t.new t.are_new;
  are_old = All-filter p IsOld t.old t.are_old;
  one = one_filter p hs t.one;
}

filter_again : {X : Type 0} (p : X → Bool) (xs : List X) → filter p (filter p xs) ≡ filter p xs
filter_again p [] = refl
filter_again p (x ∷ xs) = let rest = filter_again p xs in grind arith

tidy_with : (part : Fragment) (hs : List HeldPart) → part.afl.fid ≤ 16 → IsTidy hs → IsTidy (held_with part hs)
tidy_with part hs few t =
    let new : HeldPart = record { ticks = 0; part = part } in
    let left = tidy_filter (other_than part.afl.fid) hs t in
    record {
      new = new ∷ left.new;
      old = left.old;
      parted = ap (λ (xs : List HeldPart). new ∷ xs) left.parted;
      are_new = All-cons IsNew new left.new refl left.are_new;
      are_old = left.are_old;
      one = (few, filter_again (other_than part.afl.fid) hs, left.one);
    }

older_one : (hs : List HeldPart) → AreOne hs → AreOne (map older hs)
older_one [] one = tt
older_one (h ∷ hs) one = (one.0, others-older h.part.afl.fid hs ∙ ap (map older) one.1, older_one hs one.2)

older_old : (hs : List HeldPart) → All IsOld (map older hs)
older_old [] = All-nil IsOld
older_old (h ∷ hs) = All-cons IsOld (older h) (map older hs) refl (older_old hs)

tidy_aged : (hs : List HeldPart) → IsTidy hs → IsTidy (aged hs)
tidy_aged hs t = record {
  new = [];
  old = aged hs;
  parted = refl;
  are_new = All-nil IsNew;
  are_old = older_old (filter is_fresh hs);
  one = older_one (filter is_fresh hs) (one_filter is_fresh hs t.one);
}

tidy_piece : (part : Fragment) (told : List Told) (b : Bool) → nat_le part.afl.fid 16 ≡ b → IsTidy (held told) → IsTidy (held (Piece part ∷ told))
tidy_piece part told true h t =
    subst IsTidy (sym (held-piece part told (leb-true _ _ h))) (tidy_with part (held told) (leb-true _ _ h) t)
tidy_piece part told false h t = subst IsTidy (sym (held-too_many part told (leb-false _ _ h))) t

tidy_held : (told : List Told) → IsTidy (held told)
tidy_held [] = subst IsTidy (sym held-nothing) tidy_nothing
tidy_held (Piece part ∷ told) = tidy_piece part told (nat_le part.afl.fid 16) refl (tidy_held told)
tidy_held (Tick ∷ told) = subst IsTidy (sym (held-tick told)) (tidy_aged (held told) (tidy_held told))
tidy_held (Clear ∷ told) = subst IsTidy (sym (held-clear told)) tidy_nothing

-- ---- the shortest history

-- the new ones, and the old ones, are found again
no_new : (old : List HeldPart) → All IsOld old → filter is_fresh old ≡ []
no_new [] all = refl
no_new (h ∷ hs) all = let old = All-head IsOld h hs all in let rest = no_new hs (All-tail IsOld h hs all) in grind (arith, nat_tests)

all_old : (old : List HeldPart) → All IsOld old → filter (λ h. not (is_fresh h)) old ≡ old
all_old [] all = refl
all_old (h ∷ hs) all = let old = All-head IsOld h hs all in let rest = all_old hs (All-tail IsOld h hs all) in grind (arith, nat_tests)

new_again : (new old : List HeldPart) → All IsNew new → All IsOld old → filter is_fresh (new ++ old) ≡ new
new_again [] old are_new are_old = no_new old are_old
new_again (h ∷ hs) old are_new are_old =
    let new = All-head IsNew h hs are_new in
    let rest = new_again hs old (All-tail IsNew h hs are_new) are_old in
    grind (arith, nat_tests)

old_again : (new old : List HeldPart) → All IsNew new → All IsOld old → filter (λ h. not (is_fresh h)) (new ++ old) ≡ old
old_again [] old are_new are_old = all_old old are_old
old_again (h ∷ hs) old are_new are_old =
    let new = All-head IsNew h hs are_new in
    let rest = old_again hs old (All-tail IsNew h hs are_new) are_old in
    grind (arith, nat_tests)

-- what is held after the old ones and a tick
old_back : (old : List HeldPart) → All IsOld old → AreOne old → latest_each (since 1 (pieces old)) ≡ old
old_back [] all one = refl
old_back (h ∷ hs) all one =
    let now : HeldPart = record { ticks = 1; part = h.part } in
    let rest = since 1 (pieces hs) in
    ap (λ b. latest_each (cond b (now ∷ rest) rest)) (le-leb h.part.afl.fid 16 one.0)
    ∙ ap (λ (xs : List HeldPart). now ∷ others h.part.afl.fid xs) (old_back hs (All-tail IsOld h hs all) one.2)
    ∙ ap (λ (xs : List HeldPart). now ∷ xs) one.1
    ∙ ap (λ n. record { ticks = n; part = h.part } ∷ hs) (sym (All-head IsOld h hs all))

old_held : (old : List HeldPart) → All IsOld old → AreOne old → held (ticked old) ≡ old
unfolding held
old_held [] all one = refl
old_held (h ∷ hs) all one = old_back (h ∷ hs) all one

both_held : (new old : List HeldPart) → All IsNew new → All IsOld old → AreOne (new ++ old) → held (pieces new ++ ticked old) ≡ new ++ old
both_held [] old are_new are_old one = old_held old are_old one
both_held (h ∷ hs) old are_new are_old one =
    let now : HeldPart = record { ticks = 0; part = h.part } in
    held-piece h.part (pieces hs ++ ticked old) one.0
    ∙ ap (held_with h.part) (both_held hs old (All-tail IsNew h hs are_new) are_old one.2)
    ∙ ap (λ (xs : List HeldPart). now ∷ xs) one.1
    ∙ ap (λ n. record { ticks = n; part = h.part } ∷ (hs ++ old)) (sym (All-head IsNew h hs are_new))

short_held : (hs : List HeldPart) → IsTidy hs → held (told_of hs) ≡ hs
short_held hs t =
    let one : AreOne (t.new ++ t.old) = subst AreOne t.parted t.one in
    ap (λ xs. held (told_of xs)) t.parted
    ∙ ap (λ xs. held (pieces xs ++ ticked (filter (λ h. not (is_fresh h)) (t.new ++ t.old)))) (new_again t.new t.old t.are_new t.are_old)
    ∙ ap (λ xs. held (pieces t.new ++ ticked xs)) (old_again t.new t.old t.are_new t.are_old)
    ∙ both_held t.new t.old t.are_new t.are_old one
    ∙ sym t.parted

-- what was told, cut down, holds the same
pub cut_holds : (told : List Told) → held (cut_down told) ≡ held told
cut_holds told = short_held (held told) (tidy_held told)

-- what stands for some history stands for the shortest one
pub short_stands : (hs : List HeldPart) (told : List Told) → StandsFor hs told → StandsFor hs (told_of hs)
short_stands hs told stands = stands ∙ sym (cut_holds told) ∙ sym (ap (λ xs. held (told_of xs)) stands)

-- ---- what comes after it

piece_goes_on : (part : Fragment) (b : Bool) → nat_le part.afl.fid 16 ≡ b → (xs ys : List Told) → held xs ≡ held ys
    → held (Piece part ∷ xs) ≡ held (Piece part ∷ ys)
piece_goes_on part true h xs ys e =
    let few = leb-true _ _ h in
    held-piece part xs few ∙ ap (held_with part) e ∙ sym (held-piece part ys few)
piece_goes_on part false h xs ys e =
    let many = leb-false _ _ h in
    held-too_many part xs many ∙ e ∙ sym (held-too_many part ys many)

one_goes_on : (t : Told) (xs ys : List Told) → held xs ≡ held ys → held (t ∷ xs) ≡ held (t ∷ ys)
one_goes_on (Piece part) xs ys e = piece_goes_on part (nat_le part.afl.fid 16) refl xs ys e
one_goes_on Tick xs ys e = held-tick xs ∙ ap aged e ∙ sym (held-tick ys)
one_goes_on Clear xs ys e = held-clear xs ∙ sym (held-clear ys)

-- where two histories hold the same they do so after whatever is told
pub held_goes_on : (later xs ys : List Told) → held xs ≡ held ys → held (later ++ xs) ≡ held (later ++ ys)
held_goes_on [] xs ys e = e
held_goes_on (t ∷ later) xs ys e = one_goes_on t (later ++ xs) (later ++ ys) (held_goes_on later xs ys e)
