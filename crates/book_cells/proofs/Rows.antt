-- Lists read by place, functions changed at one number, and numbers below a bound.
use Rattle.std.proofs.Common.{◌≡◌, ◌≢◌, ℕ, zero, suc, ◌<◌, ◌≤◌, ◌⊎◌, inl, inr, ⊎_elim, Bool, true, false, cond, eqb, eq-eqb, ne_eqb, List, [], ◌∷◌, ◌++◌, length, drop, ◌==◌, ◌||◌, nat_lt, refl, sym, ap, ◌∙◌, subst, arith, append-nil, append_assoc, length-append}
use mathlib.Core.Option.{some, some-injective, some-ne-none}
use mathlib.Core.Logic.{dite}
use native.Mathlib.Decide.{ℕ_discrete}
use lib.ListN.{get_elem?}
use Rattle.std.proofs.lemmas.Bool.{both_ways, eqb-true, cond-true, cond-false, cond_both, false_from_ne_true, or_cases, or_left, or_right}
use Rattle.std.proofs.lemmas.List.Elements.{filter-append}
use Rattle.std.proofs.Math.Seq.{drop-append_seam}
use Rattle.std.proofs.lemmas.Bool.Decides.{nat_tests}
use Rattle.book_cells.specs.declared.act.Act.{Act}
use Rattle.lists.specs.Each.{Each}
use Rattle.lists.proofs.Members.{each_map}
use Rattle.book_cells.specs.Acts.{StartsWith, acts_by, is_among, longer}

module _ {A : Type 0} where
  pub at_inside : (l : List A) (i : ℕ) (a : A) → get_elem? l i ≡ some a → i < length l
  at_inside [] i a e = absurd (some-ne-none a (sym e))
  at_inside (x ∷ xs) zero a e = omega arith
  at_inside (x ∷ xs) (suc i) a e = let h = at_inside xs i a e in omega arith

  pub at_one : (l : List A) (i j : ℕ) (a b : A) → i ≡ j → get_elem? l i ≡ some a → get_elem? l j ≡ some b → a ≡ b
  at_one l i j a b e p q = some-injective a b (sym p ∙ (ap (get_elem? l) e ∙ q))

  -- an element of a list with one more is an old one, or the new one at the end
  pub at_end : (l : List A) (a b : A) (j : ℕ) → get_elem? (l ++ a ∷ []) j ≡ some b → (get_elem? l j ≡ some b) ⊎ ((j ≡ length l) × (a ≡ b))
  at_end [] a b zero e = inr (refl, some-injective a b e)
  at_end [] a b (suc j) e = absurd (some-ne-none b (sym e))
  at_end (x ∷ xs) a b zero e = inl e
  at_end (x ∷ xs) a b (suc j) e = ⊎_elim inl (λ t. inr (ap suc t.0, t.1)) (at_end xs a b j e)

  pub starts_further : (log seen more : List A) → StartsWith log seen → StartsWith (log ++ more) seen
  starts_further log seen more h = (h.0 ++ more, ap (λ l. l ++ more) h.1 ∙ append_assoc seen h.0 more)

  pub starts_itself : (log : List A) → StartsWith log log
  starts_itself log = ([], sym (append-nil log))

-- n different numbers below m are no more than m
pub no_more : (n m : ℕ) (f : ℕ → ℕ) → ((i : ℕ) → i < n → f i < m) → ((i j : ℕ) → i < n → j < n → f i ≡ f j → i ≡ j) → n ≤ m
no_more zero m f below apart = omega arith
no_more (suc n) zero f below apart = let h = below 0 (omega arith) in absurd (omega arith)
no_more (suc n) (suc m) f below apart =
    let h : ℕ → ℕ = λ i. cond (eqb (f i) m) n i in
    let cases : (i : ℕ) → ((f i ≡ m) × (h i ≡ n)) ⊎ ((f i ≢ m) × (h i ≡ i)) = λ i. dite (ℕ_discrete (f i) m)
    (λ e. inl (e, cond-true (eqb (f i) m) n i (eq-eqb (f i) m e))) (λ e. inr (e, cond-false (eqb (f i) m) n i (ne_eqb (f i) m e))) in
    let inside : (i : ℕ) → i < n → h i < suc n = λ i l. ⊎_elim (λ t. let e = t.1 in omega arith) (λ t. let e = t.1 in omega arith) (cases i) in
    let less : n ≤ m = no_more n m (λ i. f (h i))
    (λ i l. let b = below (h i) (inside i l) in ⊎_elim
    (λ (t : (f i ≡ m) × (h i ≡ n)). let ne : f (h i) ≢ m = λ e. let w = apart i (h i) (omega arith) (inside i l) (t.0 ∙ sym e) in
    let e = t.1 in omega arith in omega arith)
    (λ (t : (f i ≢ m) × (h i ≡ i)). let ne : f (h i) ≢ m = λ e. t.0 (ap f (sym t.1) ∙ e) in omega arith)
    (cases i))
    (λ i j li lj e. let w : h i ≡ h j = apart (h i) (h j) (inside i li) (inside j lj) e in ⊎_elim
    (λ (t : (f i ≡ m) × (h i ≡ n)). ⊎_elim
    (λ (u : (f j ≡ m) × (h j ≡ n)). apart i j (omega arith) (omega arith) (t.0 ∙ sym u.0))
    (λ (u : (f j ≢ m) × (h j ≡ j)). let a = t.1 in let b = u.1 in absurd (omega arith)) (cases j))
    (λ (t : (f i ≢ m) × (h i ≡ i)). ⊎_elim
    (λ (u : (f j ≡ m) × (h j ≡ n)). let a = t.1 in let b = u.1 in absurd (omega arith))
    (λ (u : (f j ≢ m) × (h j ≡ j)). let a = t.1 in let b = u.1 in omega arith) (cases j))
    (cases i)) in
    omega arith

-- the one element of a list of one
pub only_one : {A : Type 0} (a b : A) (j : ℕ) → get_elem? (a ∷ []) j ≡ some b → (j ≡ 0) × (a ≡ b)
only_one a b zero e = (refl, some-injective a b e)
only_one a b (suc j) e = absurd (some-ne-none b (sym e))

module _ {C R : Type 0} where
  pub acts_by_all : (n : ℕ) (es : List (Act C R)) → Each (λ (e : Act C R). e.source ≡ n) es → acts_by n es ≡ es
  acts_by_all n [] h = refl
  acts_by_all n (e ∷ es) h = ap (λ b. cond b (e ∷ acts_by n es) (acts_by n es)) (eq-eqb e.source n h.0)
      ∙ ap (λ l. e ∷ l) (acts_by_all n es h.1)

  pub acts_by_none : (n : ℕ) (es : List (Act C R)) → Each (λ (e : Act C R). e.source ≢ n) es → acts_by n es ≡ []
  acts_by_none n [] h = refl
  acts_by_none n (e ∷ es) h = ap (λ b. cond b (e ∷ acts_by n es) (acts_by n es)) (ne_eqb e.source n h.0) ∙ acts_by_none n es h.1

  -- acts of one source add to its own, and not to another's
  pub acts_by_own : (n : ℕ) (log fresh log' own : List (Act C R)) → log' ≡ log ++ fresh → Each (λ (e : Act C R). e.source ≡ n) fresh
      → acts_by n log ≡ own → acts_by n log' ≡ own ++ fresh
  acts_by_own n log fresh log' own e all is = ap (acts_by n) e ∙ (filter-append (λ (e : Act C R). e.source == n) log fresh ∙ (λ i. is i ++ acts_by_all n fresh all i))

  pub acts_by_other : (n m : ℕ) (log fresh log' own : List (Act C R)) → log' ≡ log ++ fresh → Each (λ (e : Act C R). e.source ≡ n) fresh
      → m ≢ n → acts_by m log ≡ own → acts_by m log' ≡ own
  acts_by_other n m log fresh log' own e all other is =
      let none_here = each_map (λ (e : Act C R). e.source ≡ n) (λ (e : Act C R). e.source ≢ m) (λ x h k. other (sym k ∙ h)) fresh all in
      ap (acts_by m) e ∙ (filter-append (λ (e : Act C R). e.source == m) log fresh ∙ ((λ i. is i ++ acts_by_none m fresh none_here i) ∙ append-nil own))

  pub drop_seen : (seen fresh log : List (Act C R)) → log ≡ seen ++ fresh → drop (length seen) log ≡ fresh
  drop_seen seen fresh log e = ap (drop (length seen)) e ∙ drop-append_seam seen fresh

pub either_way : (a b c : Bool) → (b ≡ true → c ≡ true) → (a || b) ≡ true → (a || c) ≡ true
either_way true b c f h = refl
either_way false b c f h = f h

pub among_more : (n : ℕ) (ks ls : List ℕ) → is_among n ks ≡ true → is_among n (ks ++ ls) ≡ true
among_more n [] ls h = absurd cc
among_more n (k ∷ ks) ls h = either_way (k == n) (is_among n ks) (is_among n (ks ++ ls)) (among_more n ks ls) h

pub among_less : (n : ℕ) (ks ls : List ℕ) → is_among n (ks ++ ls) ≡ false → is_among n ks ≡ false
among_less n ks ls h = false_from_ne_true (is_among n ks) (λ e. both_ways (is_among n (ks ++ ls)) h (among_more n ks ls e))

pub among_last : (n : ℕ) (ks : List ℕ) → is_among n (ks ++ n ∷ []) ≡ true
among_last n [] = or_left (n == n) false (eq-eqb n n refl)
among_last n (k ∷ ks) = or_right (k == n) (is_among n (ks ++ n ∷ [])) (among_last n ks)

-- what holds of each number holds of one of them
pub among_each : (P : ℕ → Type 0) (n : ℕ) (ks : List ℕ) → Each P ks → is_among n ks ≡ true → P n
among_each P n [] h e = absurd cc
among_each P n (k ∷ ks) h e = ⊎_elim (λ is. subst P (eqb-true k n is) h.0) (among_each P n ks h.1) (or_cases (k == n) (is_among n ks) e)

no_rest : {X : Type 0} (xs rest log : List X) → log ≡ xs ++ rest → length log ≤ length xs → xs ≡ log
no_rest xs [] log e h = sym (e ∙ append-nil xs)
no_rest {X} xs (y ∷ ys) log e h = let n = ap length e in absurd (omega (arith, n, length-append xs (y ∷ ys)))

module _ {X : Type 0} (log xs ys : List X) where
  pub longer_starts : StartsWith log xs → StartsWith log ys → StartsWith log (longer xs ys)
  longer_starts h k = cond_both (nat_lt (length xs) (length ys)) ys xs (StartsWith log) (λ _. k) (λ _. h)

  -- the longer of two beginnings of a list, of which one is the whole
  pub longer_left : xs ≡ log → StartsWith log ys → longer xs ys ≡ log
  longer_left e h = cond_both (nat_lt (length xs) (length ys)) ys xs (λ z. z ≡ log)
      (λ t. let n = ap length e in let m = ap length h.1 in let k : length xs < length ys = grind (arith, nat_tests) in
      absurd (omega (arith, n, m, length-append ys h.0))) (λ _. e)

  pub longer_right : ys ≡ log → StartsWith log xs → longer xs ys ≡ log
  longer_right e h = cond_both (nat_lt (length xs) (length ys)) ys xs (λ z. z ≡ log) (λ _. e)
      (λ t. let n = ap length e in let k : length ys ≤ length xs = grind (arith, nat_tests) in no_rest xs h.0 log h.1 (omega (arith, n)))
