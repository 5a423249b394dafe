-- A text that is put on paper, an item of a list after another.
use Rattle.std.proofs.lemmas.Option.{slice_get-get_or}
use Rattle.std.proofs.Common.{◌≡◌, ℕ, zero, suc, ◌+◌, ◌<◌, length, get_or, List, [], ◌∷◌, ◌++◌, Option, Some, take, drop, slice_get, ap, sym, ◌∙◌, refl, append_assoc, arith}
use Rattle.std.proofs.lemmas.List.{append-nil, drop_more}
use Rattle.std.specs.List.{flat_map, concat}
use Rattle.paper.specs.Pieces.{text_if}
use Rattle.paper.specs.Puts.{Puts}
use Rattle.paper.proofs.Calls.{once, then, two_make}

-- one item more
taken_more : {X : Type 0} (text : X → List ℕ) (xs : List X) (i : ℕ)
    → flat_map text (take (suc i) xs) ≡ flat_map text (take i xs) ++ text_if text (slice_get xs i)
taken_more text [] zero = refl
taken_more text [] (suc i) = refl
taken_more text (x ∷ xs) zero = append-nil (text x)
taken_more text (x ∷ xs) (suc i) =
    ap (λ (t : List ℕ). text x ++ t) (taken_more text xs i)
    ∙ sym (append_assoc (text x) (flat_map text (take i xs)) (text_if text (slice_get xs i)))

suc_is : (i : ℕ) → suc i ≡ i + 1
suc_is i = omega arith

-- a text that is another one is put as that is
pub is_put : {P : Type 0} {takes : P → List ℕ → P → Type 0} {p q : P} (whole text : List ℕ) → whole ≡ text → Puts takes p text q
    → Puts takes p whole q
is_put whole text e puts = rw e puts

-- the text of one item more, where there is one
pub one_more : {P X : Type 0} {takes : P → List ℕ → P → Type 0} {p q r : P} (text : X → List ℕ) (xs : List X) (i : ℕ) (o : Option X)
    → o ≡ slice_get xs i → Puts takes p (flat_map text (take i xs)) q → Puts takes q (text_if text o) r
    → Puts takes p (flat_map text (take (i + 1) xs)) r
one_more text xs i o found one two = is_put _ _
    (ap (λ (n : ℕ). flat_map text (take n xs)) (sym (suc_is i)) ∙ taken_more text xs i
    ∙ ap (λ (p : Option _). flat_map text (take i xs) ++ text_if text p) (sym found)) (then one two)

-- the text of the item at a place
pub one_at : {P X : Type 0} {takes : P → List ℕ → P → Type 0} {p q r : P} (text : X → List ℕ) (xs : List X) (i : ℕ) (d : X)
    → i < length xs → Puts takes p (flat_map text (take i xs)) q → Puts takes q (text (get_or xs i d)) r
    → Puts takes p (flat_map text (take (i + 1) xs)) r
one_at text xs i d within one two = one_more text xs i (Some (get_or xs i d)) (sym (slice_get-get_or xs i d within)) one two

-- the text of an item that was read
pub one_item : {P X : Type 0} {takes : P → List ℕ → P → Type 0} {p q r : P} (text : X → List ℕ) (xs : List X) (i : ℕ) (x : X)
    → i < length xs → x ≡ get_or xs i x → Puts takes p (flat_map text (take i xs)) q → Puts takes q (text x) r
    → Puts takes p (flat_map text (take (i + 1) xs)) r
one_item text xs i x within is one two = one_more text xs i (Some x) (ap Some is ∙ sym (slice_get-get_or xs i x within)) one two

-- the text at a place, and then those behind it
pub put_next : {P : Type 0} {takes : P → List ℕ → P → Type 0} {p q r : P} (texts : List (List ℕ)) (i : ℕ) (found text : List ℕ)
    → i < length texts → found ≡ get_or texts i found → text ≡ found
    → takes p text q → Puts takes q (concat (drop (i + 1) texts)) r → Puts takes p (concat (drop i texts)) r
put_next texts i found text within at is one later =
    two_make (concat (drop i texts)) (once one) later (ap concat (drop_more texts i found within)
    ∙ ap (λ t. t ++ concat (drop (i + 1) texts)) (sym at ∙ sym is))
