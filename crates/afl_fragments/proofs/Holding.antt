-- What is held after one more fragment, a tick and a clearing.
use Rattle.std.proofs.Common.{◌≡◌, ℕ, zero, suc, ◌+◌, ◌<◌, ◌≤◌, Bool, false, not, cond, List, [], ◌∷◌, ◌++◌, length, get_or, set, take, drop, map, filter, refl, ap, sym, ◌∙◌, arith, add-one}
use Rattle.std.specs.Prelude.{find, ◌==◌}
use Rattle.std.proofs.lemmas.Bool.{le-leb, lt-leb}
use Rattle.std.proofs.lemmas.Bool.Decides.{nat_tests}
use Rattle.afl_fragments.specs.Fragment.{Fragment}
use Rattle.afl_fragments.specs.declared.places.HeldPart.{HeldPart}
use Rattle.afl_fragments.specs.Held.{Told, Piece, Tick, Clear, since, is_fid, others, latest_each, held}
use Rattle.afl_fragments.specs.Places.{held_with, older, is_fresh, aged}

-- the first i of a list, aged, and the rest
abbrev half_aged : List HeldPart → ℕ → List HeldPart
half_aged xs i = map older (take i xs) ++ drop i xs

aging_half : (xs : List HeldPart) (i : ℕ) (d : HeldPart) → i < length xs
    → set (half_aged xs i) i (older (get_or (half_aged xs i) i d)) ≡ half_aged xs (suc i)
aging_half [] i d h = absurd (omega arith)
aging_half (x ∷ xs) zero d h = refl
aging_half (x ∷ xs) (suc i) d h = ap (λ ys. older x ∷ ys) (aging_half xs i d (omega arith))

-- one more element of a list is aged
pub aging : (xs ys : List HeldPart) (i : ℕ) (d : HeldPart) → ys ≡ half_aged xs i → i < length xs
    → set ys i (older (get_or ys i d)) ≡ half_aged xs (i + 1)
aging xs ys i d e h = rw (e, add-one) (aging_half xs i d h)

-- ---- filters

pub filter-filter : {X : Type 0} (p q : X → Bool) (xs : List X) → filter p (filter q xs) ≡ filter q (filter p xs)
filter-filter p q [] = refl
filter-filter p q (x ∷ xs) = let rest = filter-filter p q xs in grind arith

pub others-older : (fid : ℕ) (hs : List HeldPart) → others fid (map older hs) ≡ map older (others fid hs)
others-older fid [] = refl
others-older fid (h ∷ hs) = let rest = others-older fid hs in grind arith

-- ---- a look-up

-- without a number, each other one is found as before
pub find-others : (f g : ℕ) (xs : List HeldPart) → (g == f) ≡ false → find (is_fid f) (others g xs) ≡ find (is_fid f) xs
find-others f g [] e = refl
find-others f g (x ∷ xs) e = let rest = find-others f g xs e in grind (arith, nat_tests)

-- ---- a tick

abbrev heard : ℕ → Fragment → HeldPart
heard n part = record { ticks = n; part = part }

-- what has seen a tick isn't fresh
none_fresh : (told : List Told) → filter is_fresh (latest_each (since 1 told)) ≡ []
none_fresh [] = refl
none_fresh (Piece part ∷ told) =
    let rest = none_fresh told in
    let other = filter-filter is_fresh (λ g. not (is_fid part.afl.fid g)) (latest_each (since 1 told)) ∙ ap (others part.afl.fid) rest in
    grind arith
none_fresh (Tick ∷ told) = refl
none_fresh (Clear ∷ told) = refl

latest_each-tick : (told : List Told) → latest_each (since 1 told) ≡ aged (latest_each (since 0 told))
latest_each-tick [] = refl
latest_each-tick (Piece part ∷ told) =
    let rest = latest_each-tick told in
    let other = λ (g : HeldPart). not (is_fid part.afl.fid g) in
    let hs : List HeldPart = latest_each (since 0 told) in
    let left = ap (filter other) rest ∙ others-older part.afl.fid (filter is_fresh hs) ∙ ap (map older) (filter-filter other is_fresh hs) in
    grind arith
latest_each-tick (Tick ∷ told) = ap (map older) (sym (none_fresh told))
latest_each-tick (Clear ∷ told) = refl

pub held-tick : (told : List Told) → held (Tick ∷ told) ≡ aged (held told)
unfolding held
held-tick told = latest_each-tick told

-- ---- a fragment, a clearing

abbrev held_if : Bool → Fragment → List Told → List HeldPart
held_if b part told = latest_each (cond b (heard 0 part ∷ since 0 told) (since 0 told))

pub held-piece : (part : Fragment) (told : List Told) → part.afl.fid ≤ 16 → held (Piece part ∷ told) ≡ held_with part (held told)
unfolding held
held-piece part told h = ap (λ b. held_if b part told) (le-leb part.afl.fid 16 h)

pub held-too_many : (part : Fragment) (told : List Told) → 16 < part.afl.fid → held (Piece part ∷ told) ≡ held told
unfolding held
held-too_many part told h = ap (λ b. held_if b part told) (lt-leb part.afl.fid 16 h)

pub held-clear : (told : List Told) → held (Clear ∷ told) ≡ []
unfolding held
held-clear told = refl

pub held-nothing : held [] ≡ []
unfolding held
held-nothing = refl
