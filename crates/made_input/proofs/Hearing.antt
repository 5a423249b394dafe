-- Texts that are put together of lines, and groups of lines.
use Rattle.std.proofs.Common.{◌≡◌, ℕ, ◌+◌, ◌%◌, ◌<◌, List, [], ◌∷◌, ◌++◌, length, get_or, map, take, drop, sym, ap, ◌∙◌}
use Rattle.std.proofs.Common.{refl, ap₂, append_assoc, arith}
use Rattle.std.specs.List.{concat, range_with_len}
use Rattle.std.proofs.lemmas.List.{append-nil, drop-map, length-map, map-append, map_more, take-map}
use Rattle.std.proofs.lemmas.List.Folds.{concat-append}
use Rattle.std.proofs.lemmas.List.FromFn.{map-range_with_len_more}
use Rattle.made_input.specs.Lines.{rotated, heard}

-- one item more, as it is
pub item_pushed : {Y : Type 0} (item : ℕ → Y) (from count place : ℕ) (old new : List Y) (y : Y)
    → old ≡ map item (range_with_len from count) → from + count ≡ place
    → new ≡ old ++ y ∷ [] → y ≡ item place → new ≡ map item (range_with_len from (count + 1))
item_pushed item from count place old new y h at pushed is = rw (pushed, h, is) (sym (map-range_with_len_more item from count place at))

-- one item more, of those that are seen as such
pub one_item : {X Y : Type 0} (view : X → Y) (item : ℕ → Y) (from count place : ℕ) (old new : List X) (x : X)
    → map view old ≡ map item (range_with_len from count) → from + count ≡ place
    → new ≡ old ++ x ∷ [] → view x ≡ item place → map view new ≡ map item (range_with_len from (count + 1))
one_item view item from count place old new x h at pushed is =
    item_pushed item from count place (map view old) _ (view x) h at (ap (map view) pushed ∙ map-append view old (x ∷ [])) is

-- the text of one line more
pub one_line : {X : Type 0} (text : X → List ℕ) (xs : List X) (i : ℕ) (x : X) (before old new : List ℕ) → i < length xs → x ≡ get_or xs i x
    → old ≡ before ++ concat (map text (take i xs)) → new ≡ old ++ text x → new ≡ before ++ concat (map text (take (i + 1) xs))
one_line text xs i x before old new within at h put =
    let last : concat (text (get_or xs i x) ∷ []) ≡ text x = append-nil (text (get_or xs i x)) ∙ ap text (sym at) in
    rw (put, h, map_more text xs i x within, concat-append (map text (take i xs)) (text (get_or xs i x) ∷ []), last, append_assoc)

-- the text of a group that is put in two parts
pub rotated_put : {X : Type 0} (text : X → List ℕ) (by : ℕ) (group front back : List X) (before mid new : List ℕ)
    → front ≡ take (by % length group) group
    → back ≡ drop (by % length group) group → mid ≡ before ++ concat (map text back) → new ≡ mid ++ concat (map text front)
    → new ≡ before ++ concat (map text (rotated by group))
rotated_put text by group front back before mid new is_front is_back one two =
    rw (two, one, ← is_front, ← is_back, map-append text back front, concat-append (map text back) (map text front), append_assoc)

-- a group is heard as it is rotated
pub group_heard : {A : Type 0} (by : ℕ) (group : List A) → 0 < length group → length group < 5 → heard by group ≡ rotated by group
unfolding heard
group_heard by [] some few = absurd (omega arith)
group_heard by (a ∷ b ∷ c ∷ d ∷ []) some few = append-nil (rotated by (a ∷ b ∷ c ∷ d ∷ []))
group_heard by (a ∷ b ∷ c ∷ d ∷ e ∷ later) some few = absurd (omega arith)
group_heard by _ some few = refl

-- whole groups are heard before what stands behind them
pub groups_then : {A : Type 0} (by : ℕ) (xs ys : List A) → length xs % 4 ≡ 0 → heard by (xs ++ ys) ≡ heard by xs ++ heard by ys
unfolding heard
groups_then by [] ys whole = refl
groups_then by (a ∷ b ∷ c ∷ d ∷ later) ys whole =
    ap (λ t. rotated by (a ∷ b ∷ c ∷ d ∷ []) ++ t) (groups_then by later ys (omega arith))
    ∙ sym (append_assoc (rotated by (a ∷ b ∷ c ∷ d ∷ [])) _ _)
groups_then by _ ys whole = absurd (omega arith)

-- ---- the texts of what is heard are what is heard of the texts

pub rotated-map : {X Y : Type 0} (f : X → Y) (by : ℕ) (xs : List X) → map f (rotated by xs) ≡ rotated by (map f xs)
rotated-map f by xs = rw (map-append, ← drop-map, ← take-map, length-map) refl

pub heard-map : {X Y : Type 0} (f : X → Y) (by : ℕ) (xs : List X) → map f (heard by xs) ≡ heard by (map f xs)
unfolding heard
heard-map f by [] = refl
heard-map f by (a ∷ []) = rotated-map f by (a ∷ [])
heard-map f by (a ∷ b ∷ []) = rotated-map f by (a ∷ b ∷ [])
heard-map f by (a ∷ b ∷ c ∷ []) = rotated-map f by (a ∷ b ∷ c ∷ [])
heard-map f by (a ∷ b ∷ c ∷ d ∷ later) =
    map-append f (rotated by (a ∷ b ∷ c ∷ d ∷ [])) (heard by later)
    ∙ ap₂ (λ xs ys. xs ++ ys) (rotated-map f by (a ∷ b ∷ c ∷ d ∷ [])) (heard-map f by later)
