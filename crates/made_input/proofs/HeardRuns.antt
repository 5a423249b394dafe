-- What receivers hear of runs of lines, one behind another.
use Rattle.std.proofs.Common.{ℕ, zero, suc, ◌≡◌, ◌≤◌, ◌<◌, ◌+◌, ◌-◌, ◌*◌, ◌/◌, ◌%◌, ◌⊎◌, inl, inr, ⊎_elim, List, [], ◌++◌, length, map, take, drop, min, sym, ap, ap₂, ◌∙◌}
use Rattle.std.proofs.Common.{append_assoc, arith, zero-add}
use Rattle.std.specs.List.{concat, range_with_len}
use Rattle.std.proofs.lemmas.Bool.{cases_lt}
use Rattle.std.proofs.lemmas.List.{append-nil, drop-map, take-append-drop}
use Rattle.std.proofs.lemmas.List.Folds.{concat-append}
use Rattle.std.proofs.lemmas.List.FromFn.{length-map-range_with_len, take-map-range_with_len}
use Rattle.meter_address.specs.Commission.{Commissioned}
use Rattle.made_input.specs.Lines.{line_at, lines_of, rotated, heard}
use Rattle.made_input.specs.Runs.{Texts, nothing, joined, texts_heard, texts_rotated, lines_behind, run_start, lines_of_run}
use Rattle.made_input.proofs.Hearing.{group_heard, groups_then}

-- ---- texts

abbrev pub texts : List ℕ → List ℕ → List ℕ → List ℕ → Texts
texts a b c d = record { first = a; second = b; third = c; fourth = d }

pub same_texts : (a b c d w x y z : List ℕ) → a ≡ w → b ≡ x → c ≡ y → d ≡ z → texts a b c d ≡ texts w x y z
same_texts a b c d w x y z aw bx cy dz = cc

each_receiver : (f g : ℕ → List ℕ) → ((by : ℕ) → f by ≡ g by) → texts (f 0) (f 1) (f 2) (f 3) ≡ texts (g 0) (g 1) (g 2) (g 3)
each_receiver f g same = same_texts _ _ _ _ _ _ _ _ (same 0) (same 1) (same 2) (same 3)

joined_nothing : (t : Texts) → joined t nothing ≡ t
unfolding joined
joined_nothing t = same_texts _ _ _ _ _ _ _ _ (append-nil t.first) (append-nil t.second) (append-nil t.third) (append-nil t.fourth)

joined_assoc : (s t u : Texts) → joined (joined s t) u ≡ joined s (joined t u)
unfolding joined
joined_assoc s t u =
    same_texts _ _ _ _ _ _ _ _ (append_assoc s.first _ _) (append_assoc s.second _ _) (append_assoc s.third _ _) (append_assoc s.fourth _ _)

-- ---- lines behind others

behind : (xs ys : List (List ℕ)) → (length xs % 4 ≡ 0) ⊎ (ys ≡ []) → texts_heard (xs ++ ys) ≡ joined (texts_heard xs) (texts_heard ys)
unfolding texts_heard joined heard
behind xs ys (inl whole) =
    each_receiver (λ by. concat (heard by (xs ++ ys))) (λ by. concat (heard by xs) ++ concat (heard by ys))
    (λ by. ap concat (groups_then by xs ys whole) ∙ concat-append (heard by xs) (heard by ys))
behind xs ys (inr none) = rw (none, append-nil xs) (sym (joined_nothing (texts_heard xs)))

numbers_left : (from n k at left : ℕ) → at ≡ from + k → left + k ≡ n → drop k (range_with_len from n) ≡ range_with_len at left
numbers_left from n zero at left is_at is_left = ap₂ range_with_len (omega arith) (omega arith)
numbers_left from zero (suc k) at left is_at is_left = absurd (omega arith)
numbers_left from (suc n) (suc k) at left is_at is_left = numbers_left (from + 1) n k at left (omega arith) (omega arith)

-- lines that are cut where a group or all of them end
cut : (meters : List Commissioned) (before n k at left : ℕ) → at ≡ before + k → left + k ≡ n → (k % 4 ≡ 0) ⊎ (left ≡ 0)
    → texts_heard (lines_behind meters before n)
    ≡ joined (texts_heard (lines_behind meters before k)) (texts_heard (lines_behind meters at left))
cut meters before n k at left is_at is_left end =
    let front : take k (lines_behind meters before n) ≡ lines_behind meters before k =
    take-map-range_with_len (line_at meters) (before + 1) n k (omega arith) in
    let back : drop k (lines_behind meters before n) ≡ lines_behind meters at left =
    drop-map (line_at meters) k (range_with_len (before + 1) n)
    ∙ ap (map (line_at meters)) (numbers_left (before + 1) n k (at + 1) left (omega arith) is_left) in
    ap texts_heard (sym (take-append-drop k (lines_behind meters before n)) ∙ ap₂ (λ xs ys. xs ++ ys) front back)
    ∙ behind (lines_behind meters before k) (lines_behind meters at left)
    (⊎_elim (λ whole. inl (ap (λ m. m % 4) (length-map-range_with_len (line_at meters) (before + 1) k) ∙ whole))
    (λ none. inr (ap (lines_behind meters at) none)) end)

-- what was heard, and what is left to be heard, are all
abbrev pub IsHeardTo : List Commissioned → (before count made : ℕ) → Texts → Type 0
IsHeardTo meters before count made run =
    joined run (texts_heard (lines_behind meters (before + made) (count - made))) ≡ texts_heard (lines_behind meters before count)

pub none_heard : (meters : List Commissioned) (before count made : ℕ) (run : Texts) → made ≡ 0 → run ≡ nothing
    → IsHeardTo meters before count made run
unfolding joined
none_heard meters before count made run none is =
    ap (λ r. joined r (texts_heard (lines_behind meters (before + made) (count - made)))) is
    ∙ ap₂ (λ b n. texts_heard (lines_behind meters b n)) (omega arith) (omega arith)

-- lines more, up to where a group or all of them end
lines_more : (meters : List Commissioned) (before count made next : ℕ) (run new : Texts) → made ≤ next → next ≤ count
    → ((next - made) % 4 ≡ 0) ⊎ (next ≡ count) → new ≡ joined run (texts_heard (lines_behind meters (before + made) (next - made)))
    → IsHeardTo meters before count made run → IsHeardTo meters before count next new
lines_more meters before count made next run new grows within end put h =
    ap (λ r. joined r (texts_heard (lines_behind meters (before + next) (count - next)))) put
    ∙ joined_assoc run _ _
    ∙ ap (joined run) (sym (cut meters (before + made) (count - made) (next - made) (before + next) (count - next) (omega arith)
    (omega arith) (⊎_elim (λ whole. inl whole) (λ last. inr (omega arith)) end)))
    ∙ h

pub one_group_more : (meters : List Commissioned) (before count made len : ℕ) (group : List (List ℕ)) (run new : Texts)
    → made < count → len ≡ min (count - made) 4 → group ≡ lines_behind meters (before + made) len
    → new ≡ joined run (texts_rotated group) → IsHeardTo meters before count made run → IsHeardTo meters before count (made + len) new
unfolding texts_rotated texts_heard
one_group_more meters before count made len group run new some is is_group put h =
    let long = ap length is_group ∙ length-map-range_with_len (line_at meters) (before + made + 1) len in
    let whole : texts_rotated group ≡ texts_heard group =
    each_receiver (λ by. concat (rotated by group)) (λ by. concat (heard by group))
    (λ by. ap concat (sym (group_heard by group (omega arith) (omega arith)))) in
    let added : len ≡ made + len - made = omega arith in
    lines_more meters before count made (made + len) run new (omega arith) (omega arith)
    (⊎_elim (λ less. inr (omega arith)) (λ more. inl (omega arith)) (cases_lt (count - made) 4))
    (put ∙ ap (joined run) (whole ∙ ap texts_heard (is_group ∙ ap (lines_behind meters (before + made)) added))) h

pub all_heard : (meters : List Commissioned) (before count made : ℕ) (run : Texts) → count ≤ made
    → IsHeardTo meters before count made run → run ≡ texts_heard (lines_behind meters before count)
unfolding heard texts_heard
all_heard meters before count made run done h =
    let none : count - made ≡ 0 = omega arith in
    sym (joined_nothing run) ∙ ap (λ n. joined run (texts_heard (lines_behind meters (before + made) n))) (sym none) ∙ h

-- ---- runs: what the workers before one have made, and what is heard of the lines behind their runs, is what is heard of all

abbrev pub IsMadeTo : List Commissioned → (telegrams worker : ℕ) → Texts → Type 0
IsMadeTo meters telegrams worker made = IsHeardTo meters 0 telegrams (run_start telegrams worker) made

pub none_made : (meters : List Commissioned) (telegrams : ℕ) (made : Texts) → made ≡ nothing → IsMadeTo meters telegrams 0 made
none_made meters telegrams made is = none_heard meters 0 telegrams (run_start telegrams 0) made (omega arith) is

pub one_run_more : (meters : List Commissioned) (telegrams worker next : ℕ) (made run new : Texts) → next ≡ worker + 1
    → run ≡ texts_heard (lines_of_run meters telegrams worker) → new ≡ joined made run
    → IsMadeTo meters telegrams worker made → IsMadeTo meters telegrams next new
one_run_more meters telegrams worker next made run new is_next is put h =
    let start : ℕ = run_start telegrams worker in
    let end : ℕ = run_start telegrams (worker + 1) in
    rw is_next (lines_more meters 0 telegrams start end made new (omega arith) (omega arith)
    (⊎_elim (λ less. inr (omega arith)) (λ more. inl (omega arith)) (cases_lt telegrams ((telegrams + 15) / 16 * 4 * (worker + 1))))
    (put ∙ ap (joined made) (is ∙ ap (λ n. texts_heard (lines_behind meters n (end - start))) (sym (zero-add start)))) h)

pub all_made : (meters : List Commissioned) (telegrams worker : ℕ) (made : Texts) → worker ≡ 4 → IsMadeTo meters telegrams worker made
    → made ≡ texts_heard (lines_of meters telegrams)
all_made meters telegrams worker made is h =
    let all : telegrams ≤ run_start telegrams worker = rw is (omega arith) in
    all_heard meters 0 telegrams (run_start telegrams worker) made all h
