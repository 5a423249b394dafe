-- A list that is checked pair by pair.
use Rattle.std.proofs.Common.{◌≡◌, ◌==◌, ℕ, zero, suc, ◌+◌, ◌<◌, ◌≤◌, not, Bool, true, false, cond, List, [], ◌∷◌, ◌++◌, map, filter, length, take, drop, get_or, set, replicate, Option, Some, None, Result, Ok, IfSome, refl, sym, ap, ◌∙◌, subst, arith, append_assoc, append-nil, length-append}
use Rattle.std.specs.List.{slice_get}
use Rattle.std.specs.Option.{option_eq}
use Rattle.std.proofs.lemmas.Bool.{eq-eqb, eqb-true, ne_eqb, not-false}
use Rattle.std.proofs.lemmas.List.{map-append, take_more, take-append-drop, length-take-le, get_or_past, get_or_read, get_or-set_same, get_or-set_other}
use Rattle.std.proofs.lemmas.List.Elements.{filter-append}
use Rattle.std.proofs.lemmas.Option.{slice_get_within, get_or_from_slice_get}
use Rattle.std.proofs.Math.Seq.{take-length}
use mathlib.Core.Logic.{dite}
use native.Mathlib.Decide.{ℕ_discrete}
use Rattle.paper.specs.Filing.{IsFrontOf}
use Rattle.receivers.specs.Orders.{numbers_by}
use Rattle.audit_check_main.specs.Order.{AreNext, IsRight, IsWrongAt}
use Rattle.audit_check_main.specs.Cursors.{taken_of, HaveTaken}
use Rattle.audit_check_main.specs.Hearing.{HeardInput, no_input, numbers_in_list}
use Rattle.audit_check_main.proofs.Compared.{get-there}

-- ---- one pair more

abbrev one_if : Bool → ℕ → List ℕ
one_if b n = cond b (n ∷ []) []

one_number : (w : ℕ) (p : ℕ × ℕ) → numbers_by w (p ∷ []) ≡ one_if (p.0 == w) p.1
one_number w p = at (p.0 == w)
  where
    at : (b : Bool) → map (λ (q : ℕ × ℕ). q.1) (cond b (p ∷ []) []) ≡ one_if b p.1
    at true = refl
    at false = refl

pub numbers_append : (w : ℕ) (xs ys : List (ℕ × ℕ)) → numbers_by w (xs ++ ys) ≡ numbers_by w xs ++ numbers_by w ys
numbers_append w xs ys =
    ap (map (λ (p : ℕ × ℕ). p.1)) (filter-append (λ (p : ℕ × ℕ). p.0 == w) xs ys)
    ∙ map-append (λ (p : ℕ × ℕ). p.1) (filter (λ (p : ℕ × ℕ). p.0 == w) xs) (filter (λ (p : ℕ × ℕ). p.0 == w) ys)

pub numbers_push : (w : ℕ) (order : List (ℕ × ℕ)) (p : ℕ × ℕ) → numbers_by w (order ++ p ∷ []) ≡ numbers_by w order ++ one_if (p.0 == w) p.1
numbers_push w order p = numbers_append w order (p ∷ []) ∙ ap (λ l. numbers_by w order ++ l) (one_number w p)

more_of : (xs : List ℕ) (c n : ℕ) → slice_get xs c ≡ Some n → take c xs ++ n ∷ [] ≡ take (c + 1) xs
more_of xs c n h = sym (take_more xs c n (slice_get_within xs c n h) ∙ ap (λ x. take c xs ++ x ∷ []) (get_or_from_slice_get xs c n n h))

module _ (numbers : ℕ → List ℕ) (order : List (ℕ × ℕ)) (taken : List ℕ) (so : HaveTaken numbers order taken) where
  pub taken_next : (r s n : ℕ) → s ≡ r + 1 → r < length taken → slice_get (numbers (r + 1)) (get_or taken r 0) ≡ Some n
      → HaveTaken numbers (order ++ (s, n) ∷ []) (set taken r (get_or taken r 0 + 1))
  taken_next r s n number inside next = record { first_ones = firsts; within = within }
    where
      next' : slice_get (numbers (suc r)) (get_or taken r 0) ≡ Some n
      next' = (let e : r + 1 ≡ suc r = omega arith in sym (ap (λ w. slice_get (numbers w) (get_or taken r 0)) e)) ∙ next

      mine : (v : ℕ) → v ≡ r
          → numbers_by (suc v) (order ++ (s, n) ∷ []) ≡ take (get_or (set taken r (get_or taken r 0 + 1)) v 0) (numbers (suc v))
      mine v e =
          let test = eq-eqb s (suc v) (omega arith) in
          let here : get_or (set taken r (get_or taken r 0 + 1)) v 0 ≡ get_or taken r 0 + 1 =
          ap (λ k. get_or (set taken r (get_or taken r 0 + 1)) k 0) e ∙ get_or-set_same taken r (get_or taken r 0 + 1) 0 inside in
          numbers_push (suc v) order (s, n)
          ∙ ((λ i. so.first_ones (suc v) i ++ one_if (test i) n)
          ∙ ((λ i. take (get_or taken (e i) 0) (numbers (suc (e i))) ++ n ∷ [])
          ∙ (more_of (numbers (suc r)) (get_or taken r 0) n next'
          ∙ (λ i. take (sym here i) (numbers (suc (sym e i)))))))

      other : (v : ℕ) → (v ≡ r → ⊥)
          → numbers_by (suc v) (order ++ (s, n) ∷ []) ≡ take (get_or (set taken r (get_or taken r 0 + 1)) v 0) (numbers (suc v))
      other v ne =
          let test = ne_eqb s (suc v) (λ e. ne (omega arith)) in
          numbers_push (suc v) order (s, n)
          ∙ ((λ i. so.first_ones (suc v) i ++ one_if (test i) n)
          ∙ (append-nil (take (get_or taken v 0) (numbers (suc v)))
          ∙ (λ i. take (sym (get_or-set_other taken r v (get_or taken r 0 + 1) 0 ne) i) (numbers (suc v)))))

      firsts : (w : ℕ) → numbers_by w (order ++ (s, n) ∷ []) ≡ take (taken_of (set taken r (get_or taken r 0 + 1)) w) (numbers w)
      firsts zero =
          let test = ne_eqb s 0 (λ e. omega arith) in
          numbers_push 0 order (s, n) ∙ ((λ i. so.first_ones 0 i ++ one_if (test i) n) ∙ append-nil (take 0 (numbers 0)))
      firsts (suc v) = dite (ℕ_discrete v r) (mine v) (other v)

      within : (w : ℕ) → taken_of (set taken r (get_or taken r 0 + 1)) w ≤ length (numbers w)
      within zero = omega arith
      within (suc v) = dite (ℕ_discrete v r)
          (λ e. let here : get_or (set taken r (get_or taken r 0 + 1)) v 0 ≡ get_or taken r 0 + 1 = ap
          (λ k. get_or (set taken r (get_or taken r 0 + 1)) k 0) e ∙ get_or-set_same taken r (get_or taken r 0 + 1) 0 inside in
          let l = slice_get_within (numbers (suc r)) (get_or taken r 0) n next' in
          let m : length (numbers (suc v)) ≡ length (numbers (suc r)) = ap (λ k. length (numbers (suc k))) e in omega arith)
          (λ ne. let there = get_or-set_other taken r v (get_or taken r 0 + 1) 0 ne in let l = so.within (suc v) in omega arith)

  -- ---- a pair that isn't the next one

  front_of : (w : ℕ) → IsFrontOf (numbers_by w order) (numbers w)
  front_of w = record {
    rest = drop (taken_of taken w) (numbers w);
    joined = sym (take-append-drop (taken_of taken w) (numbers w))
        ∙ ap (λ l. l ++ drop (taken_of taken w) (numbers w)) (sym (so.first_ones w));
  }

  pub next_so_far : AreNext numbers order
  next_so_far w = front_of w

  pub not_next : (r s n : ℕ) → s ≡ r + 1 → (slice_get (numbers (r + 1)) (get_or taken r 0) ≡ Some n → ⊥)
      → AreNext numbers (order ++ (s, n) ∷ []) → ⊥
  not_next r s n number differs next =
      let e : suc r ≡ r + 1 = omega arith in
      let test = eq-eqb s (suc r) (omega arith) in
      let front = next (suc r) in
      let whole : numbers (suc r) ≡ (take (get_or taken r 0) (numbers (suc r)) ++ n ∷ []) ++ front.rest =
      front.joined ∙ ap (λ l. l ++ front.rest) (numbers_push (suc r) order (s, n) ∙ (λ i. so.first_ones (suc r) i ++ one_if (test i) n)) in
      let taken_so = take (get_or taken r 0) (numbers (suc r)) in
      differs (ap (λ w. slice_get (numbers w) (get_or taken r 0)) (sym e)
      ∙ (ap (λ l. slice_get l (get_or taken r 0)) (whole ∙ append_assoc taken_so (n ∷ []) front.rest)
      ∙ get-there taken_so n front.rest (get_or taken r 0) (sym (length-take-le (get_or taken r 0) (numbers (suc r)) (so.within (suc r))))))

  pub no_receiver : (s n : ℕ) → numbers s ≡ [] → AreNext numbers (order ++ (s, n) ∷ []) → ⊥
  no_receiver s n none next =
      let front = next s in
      let whole : [] ≡ (numbers_by s order ++ n ∷ []) ++ front.rest =
      sym none ∙ (front.joined ∙ ap (λ l. l ++ front.rest) (numbers_push s order (s, n)
      ∙ ap (λ b. numbers_by s order ++ one_if b n) (eq-eqb s s refl))) in
      let l = ap length whole ∙ length-append (numbers_by s order ++ n ∷ []) front.rest in
      let m = length-append (numbers_by s order) (n ∷ []) in absurd (omega arith)

  -- ---- the end of a list

  pub some_missing : (r : ℕ) → (length (numbers (suc r)) ≡ get_or taken r 0 → ⊥) → IsRight numbers order → ⊥
  some_missing r differs right =
      let l = ap length (sym (right (suc r)) ∙ so.first_ones (suc r)) in
      let m = length-take-le (get_or taken r 0) (numbers (suc r)) (so.within (suc r)) in
      differs (l ∙ m)

-- ---- receivers

pub nothing_from : (heard : List HeardInput) (list s : ℕ) → length heard < s → numbers_in_list heard list s ≡ []
nothing_from heard list zero past = refl
nothing_from heard list (suc w) past =
    ap (λ (h : HeardInput). get_or h.lists list []) (get_or_past heard w no_input (omega arith))

-- ---- where a list goes wrong

-- the pairs so far are each the next one, and the pair behind them isn't
pub wrong_at : (numbers : ℕ → List ℕ) (order : List (ℕ × ℕ)) (taken : List ℕ) (place : ℕ) (pair : ℕ × ℕ) → place < length order
    → pair ≡ get_or order place (0, 0) → HaveTaken numbers (take place order) taken
    → (AreNext numbers (take place order ++ pair ∷ []) → ⊥) → IsWrongAt numbers order place
wrong_at numbers order taken place pair inside is so differs = record {
  within = omega arith;
  right_before = next_so_far numbers (take place order) taken so;
  wrong_pair =
      λ h next. differs (subst (AreNext numbers) (take_more order place (0, 0) inside
      ∙ ap (λ p. take place order ++ p ∷ []) (sym is)) next);
  missing = λ e. absurd (omega arith);
}

pub wrong_end : (numbers : ℕ → List ℕ) (order : List (ℕ × ℕ)) (taken : List ℕ) → HaveTaken numbers order taken
    → (IsRight numbers order → ⊥) → IsWrongAt numbers order (length order)
wrong_end numbers order taken so misses = record {
  within = omega arith;
  right_before = subst (AreNext numbers) (sym (take-length order)) (next_so_far numbers order taken so);
  wrong_pair = λ h. absurd (omega arith);
  missing = λ e. misses;
}

pub taken_all : (numbers : ℕ → List ℕ) (order : List (ℕ × ℕ)) (taken : List ℕ) (n : ℕ) → n ≡ length order
    → HaveTaken numbers (take n order) taken → HaveTaken numbers order taken
taken_all numbers order taken n e so = subst (λ o. HaveTaken numbers o taken) (ap (λ k. take k order) e ∙ take-length order) so

-- no pair yet
pub none_taken : (numbers : ℕ → List ℕ) (n : ℕ) (taken : List ℕ) → taken ≡ replicate n 0 → HaveTaken numbers [] taken
none_taken numbers n taken e = subst (HaveTaken numbers []) (sym e) (record { first_ones = firsts; within = λ w. none w })
  where
    zeros : (k v : ℕ) → get_or {A = ℕ} (replicate k 0) v 0 ≡ 0
    zeros zero v = refl
    zeros (suc k) zero = refl
    zeros (suc k) (suc v) = zeros k v

    firsts : (w : ℕ) → [] ≡ take (taken_of (replicate n 0) w) (numbers w)
    firsts zero = refl
    firsts (suc v) = ap (λ k. take k (numbers (suc v))) (sym (zeros n v))

    none : (w : ℕ) → taken_of (replicate n 0) w ≤ length (numbers w)
    none zero = omega arith
    none (suc v) = let z = zeros n v in omega arith

-- the pair at the next place
pub taken_there : (numbers : ℕ → List ℕ) (order : List (ℕ × ℕ)) (taken : List ℕ) (place : ℕ) (pair : ℕ × ℕ) → place < length order
    → pair ≡ get_or order place (0, 0) → HaveTaken numbers (take place order ++ pair ∷ []) taken
    → HaveTaken numbers (take (place + 1) order) taken
taken_there numbers order taken place pair inside is so =
    subst (λ o. HaveTaken numbers o taken)
    (sym (take_more order place (0, 0) inside ∙ ap (λ p. take place order ++ p ∷ []) (sym is))) so

-- ---- tests of the code

pub number_there : (o : Option ℕ) (n : ℕ) (b : Bool) → b ≡ not (option_eq (λ x y. x == y) o (Some n)) → b ≡ false → o ≡ Some n
number_there None n b e off = absurd cc
number_there (Some m) n b e off = ap Some (eqb-true m n (not-false (m == n) (sym e ∙ off)))

pub number_other : (o : Option ℕ) (n : ℕ) (b : Bool) → b ≡ not (option_eq (λ x y. x == y) o (Some n)) → b ≡ true → o ≡ Some n → ⊥
number_other o n b e on same =
    let here : not (option_eq (λ x y. x == y) o (Some n)) ≡ false = rw same (ap not (eq-eqb n n refl)) in absurd cc

pub some_few : (o : Option ℕ) (n : ℕ) {P : Type 0} → o ≡ Some n → IfSome o (λ _. P) → P
some_few None n e h = absurd cc
some_few (Some m) n e h = h

pub same_place : {E : Type 0} (a b : ℕ) → (let r : Result (Option ℕ) E = Ok (Some a) in r) ≡ Ok (Some b) → a ≡ b
same_place a b e = cc

-- a receiver's numbers, by its place
pub numbers_at_place : (heard : List HeardInput) (list r : ℕ) (h : HeardInput) → r < length heard → h ≡ get_or heard r h
    → get_or h.lists list [] ≡ numbers_in_list heard list (suc r)
numbers_at_place heard list r h inside is = ap (λ (x : HeardInput). get_or x.lists list []) (get_or_read heard r h inside is no_input)
