-- What a slot begins with, and what is known behind its journal.
use Rattle.std.proofs.Common.{◌≡◌, ℕ, zero, suc, ◌+◌, ◌<◌, List, [], ◌∷◌, ◌++◌, get_or, map, take, Option, Some, ap, sym, ◌∙◌, arith, add-one}
use Rattle.std.specs.Prelude.{◌-◌, length, slice_get, IfSome}
use Rattle.std.specs.List.{All}
use Rattle.std.proofs.lemmas.List.{map-append, take_more}
use Rattle.std.proofs.lemmas.List.Elements.{All-nil, All-cons, All-head, All-tail, All-from_get_or}
use Rattle.afl_fragments.specs.declared.places.HeldPart.{HeldPart}
use Rattle.afl_fragments.specs.Held.{Told, StandsFor}
use Rattle.afl_fragments.specs.Short.{told_of, cut_down}
use Rattle.meter_slots.specs.declared.reading.Reading.{Reading}
use Rattle.meter_slots.specs.Resuming.{last_of}

-- what holds of each of the first n holds of one more
all_suc : {X : Type 0} (P : X → Type 0) (xs : List X) (n : ℕ) → IfSome (slice_get xs n) P → All P (take n xs) → All P (take (suc n) xs)
all_suc P [] n h all = All-nil P
all_suc P (x ∷ xs) zero h all = All-cons P x [] h (All-nil P)
all_suc P (x ∷ xs) (suc n) h all =
    All-cons P x (take (suc n) xs) (All-head P x (take n xs) all) (all_suc P xs n h (All-tail P x (take n xs) all))

pub all_more : {X : Type 0} (P : X → Type 0) (xs : List X) (n : ℕ) → IfSome (slice_get xs n) P → All P (take n xs) → All P (take (n + 1) xs)
all_more P xs n h all = rw add-one (all_suc P xs n h all)

-- what is held after a history is told as this history is, cut down
pub told_is : (hs : List HeldPart) (told : List Told) → StandsFor hs told → told_of hs ≡ cut_down told
told_is hs told stands = ap told_of stands

last_at : (before : Option Reading) (rs : List Reading) (i : ℕ) (r : Reading) → length rs ≡ suc i → Some r ≡ slice_get rs i
    → last_of before rs ≡ Some r
last_at before [] i r long h = absurd cc
last_at before (x ∷ []) zero r long h = sym h
last_at before (x ∷ y ∷ rs) (suc i) r long h = last_at (Some x) (y ∷ rs) i r (omega arith) h
last_at before _ _ r long h = absurd (omega arith)

pub last_of-last : (before : Option Reading) (rs : List Reading) (r : Reading) → Some r ≡ slice_get rs (length rs - 1)
    → last_of before rs ≡ Some r
last_of-last before [] r h = absurd cc
last_of-last before (x ∷ rs) r h = last_at before (x ∷ rs) (length (x ∷ rs) - 1) r (omega arith) h

-- ---- lists

-- a list that was mapped so far, with one more
pub mapped_more : {A B : Type 0} (f : A → B) (xs : List A) (i : ℕ) (d : A) (ys : List B) (y : B) → i < length xs → ys ≡ map f (take i xs)
    → y ≡ f (get_or xs i d) → ys ++ y ∷ [] ≡ map f (take (i + 1) xs)
mapped_more f xs i d ys y inside so one =
    ap (λ t. t ++ y ∷ []) so ∙ (ap (λ z. map f (take i xs) ++ z ∷ []) one
    ∙ (sym (map-append f (take i xs) (get_or xs i d ∷ [])) ∙ ap (map f) (sym (take_more xs i d inside))))

-- a list of which each element is a byte
pub each_byte : (xs : List ℕ) → ((i : ℕ) → i < length xs → get_or xs i 0 < 256) → All (λ b. b < 256) xs
each_byte xs below = All-from_get_or (λ (b : ℕ). b < 256) xs 0 below
