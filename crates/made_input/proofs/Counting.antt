-- How many telegrams are meters' and the stranger's, and the meters' last counters.
use Rattle.std.proofs.Common.{◌≡◌, ℕ, zero, suc, ◌+◌, ◌-◌, ◌*◌, ◌/◌, ◌%◌, ◌<◌, ◌≤◌, ◌==◌, nat_lt, max, min, Bool, true, false, cond, List}
use Rattle.std.proofs.Common.{[], ◌∷◌, ◌++◌, length, map, filter, refl, sym, ap, subst, ◌∙◌, arith, length-append, zero-add, add-one}
use Rattle.std.specs.List.{range_with_len, sum}
use Rattle.std.proofs.lemmas.Bool.Decides.{nat_tests}
use Rattle.std.proofs.lemmas.List.{append-nil}
use Rattle.std.proofs.lemmas.List.FromFn.{sum_by-map-range_with_len_more, filter_of_map_range_with_len_more}
use Rattle.std.proofs.lemmas.Nat.{div-mul-add, mod-mul-add}
use Rattle.std.proofs.Math.Nat.{add-mul, mul-add, mul-one, mul-suc, one-mul, zero-mul, mul-zero, max-zero, max-eq_right, le-max_left, le-max_right}
use Rattle.made_input.specs.Lines.{turn_of, round_of}
use Rattle.made_input.specs.Summary.{turns, of_meters, of_stranger, greatest, last_counter, highest}

abbrev one_if : Bool → ℕ
one_if b = cond b 1 0

-- after so many telegrams: how many whole rounds there were, and how many telegrams of the next one
record Counted (meters telegrams : ℕ) : Type 0 where
  pub rounds : ℕ
  pub place : ℕ
  pub whole : telegrams ≡ rounds * (meters + 1) + place
  pub below : place < meters + 1
  pub strangers : length (of_stranger meters telegrams) ≡ rounds
  pub own : length (of_meters meters telegrams) + rounds ≡ telegrams
  pub last : (p : ℕ) → p < meters → last_counter meters telegrams p ≡ rounds + one_if (nat_lt p place)

-- the telegrams that pass a test, with one more
one_more : (test : ℕ × ℕ → Bool) (meters telegrams rounds place : ℕ) → telegrams ≡ rounds * (meters + 1) + place → place < meters + 1
    → filter test (turns meters (telegrams + 1)) ≡ filter test (turns meters telegrams) ++ cond (test (place, 1 + rounds))
    ((place, 1 + rounds) ∷ []) []
one_more test meters telegrams rounds place whole below =
    let k : ℕ = telegrams + 1 in
    let before : k - 1 ≡ rounds * (meters + 1) + place = omega arith in
    let turn : turn_of meters k ≡ place = ap (λ n. n % (meters + 1)) before ∙ mod-mul-add rounds (meters + 1) place below in
    let round : round_of meters k ≡ 1 + rounds = ap (λ n. 1 + n / (meters + 1)) before
    ∙ ap (λ n. 1 + n) (div-mul-add rounds (meters + 1) place below) in
    filter_of_map_range_with_len_more test (λ k. (turn_of meters k, round_of meters k)) 1 telegrams k (omega arith)
    ∙ rw (turn, round) refl

-- counts and greatest numbers with one more
length-if : (xs : List (ℕ × ℕ)) (b : Bool) (x : ℕ × ℕ) → length (xs ++ cond b (x ∷ []) []) ≡ length xs + one_if b
length-if xs true x = length-append xs (x ∷ [])
length-if xs false x = length-append xs []

abbrev rounds_in : List (ℕ × ℕ) → List ℕ
rounds_in ts = map (λ t. t.1) ts

-- the greatest round, with one more that isn't less
greatest-if : (xs : List (ℕ × ℕ)) (b : Bool) (x : ℕ × ℕ) → greatest (rounds_in xs) ≤ x.1
    → greatest (rounds_in (xs ++ cond b (x ∷ []) [])) ≡ cond b x.1 (greatest (rounds_in xs))
greatest-if xs false x h = ap (λ ts. greatest (rounds_in ts)) (append-nil xs)
greatest-if [] true x h = max-zero x.1
greatest-if (y ∷ xs) true x h =
    let first = le-max_left y.1 (greatest (rounds_in xs)) in
    let rest = le-max_right y.1 (greatest (rounds_in xs)) in
    ap (max y.1) (greatest-if xs true x (omega arith)) ∙ max-eq_right (omega arith)

-- one telegram more
module _ (meters telegrams : ℕ) (h : Counted meters telegrams) where
  abbrev new : ℕ × ℕ
  new = (h.place, 1 + h.rounds)

  strangers_more : length (of_stranger meters (telegrams + 1)) ≡ h.rounds + one_if (h.place == meters)
  strangers_more =
      ap length (one_more (λ t. t.0 == meters) meters telegrams h.rounds h.place h.whole h.below)
      ∙ length-if (of_stranger meters telegrams) (h.place == meters) new ∙ ap (λ n. n + one_if (h.place == meters)) h.strangers

  own_more : length (of_meters meters (telegrams + 1)) ≡ length (of_meters meters telegrams) + one_if (nat_lt h.place meters)
  own_more =
      ap length (one_more (λ t. nat_lt t.0 meters) meters telegrams h.rounds h.place h.whole h.below)
      ∙ length-if (of_meters meters telegrams) (nat_lt h.place meters) new

  last_more : (p : ℕ) → p < meters
      → last_counter meters (telegrams + 1) p ≡ cond (h.place == p) (1 + h.rounds) (h.rounds + one_if (nat_lt p h.place))
  last_more p within =
      let few : h.rounds + one_if (nat_lt p h.place) ≤ 1 + h.rounds = grind (arith, nat_tests) in
      ap (λ ts. greatest (rounds_in ts)) (one_more (λ t. t.0 == p) meters telegrams h.rounds h.place h.whole h.below)
      ∙ greatest-if (filter (λ t. t.0 == p) (turns meters telegrams)) (h.place == p) new (omega (arith, h.last p within))
      ∙ ap (cond (h.place == p) (1 + h.rounds)) (h.last p within)

  next : (b : Bool) → nat_lt h.place meters ≡ b → Counted meters (telegrams + 1)
  next true e = record {
    rounds = h.rounds;
    place = h.place + 1;
    whole = omega (arith, h.whole);
    below = grind (arith, nat_tests);
    strangers = grind (arith, nat_tests, strangers_more);
    own = omega (arith, own_more, ap one_if e, h.own);
    last = λ p less. last_more p less ∙ grind (arith, nat_tests);
  }
  next false e =
      let at_end : h.place ≡ meters = grind (arith, nat_tests, h.below) in
      record {
        rounds = h.rounds + 1;
        place = 0;
        whole = omega (arith, h.whole, add-mul h.rounds 1 (meters + 1), one-mul (meters + 1), at_end);
        below = omega arith;
        strangers = grind (arith, nat_tests, strangers_more);
        own = omega (arith, own_more, ap one_if e, h.own);
        last = λ p less. last_more p less ∙ grind (arith, nat_tests);
      }

counted : (meters telegrams : ℕ) → Counted meters telegrams
counted meters zero = record {
  rounds = 0;
  place = 0;
  whole = omega (arith, zero-mul (meters + 1));
  below = omega arith;
  strangers = refl;
  own = refl;
  last = λ p within. grind (arith, nat_tests);
}
counted meters (suc n) =
    let h : Counted meters n = counted meters n in
    subst (Counted meters) (add-one n) (next meters n h (nat_lt h.place meters) refl)

-- ---- sums

module _ (meters telegrams : ℕ) (h : Counted meters telegrams) where
  sum_of : (m : ℕ) → m ≤ meters → sum (map (last_counter meters telegrams) (range_with_len 0 m)) ≡ h.rounds * m + min m h.place
  sum_of zero within = omega (arith, mul-zero h.rounds)
  sum_of (suc m) within =
      ap (λ n. sum (map (last_counter meters telegrams) (range_with_len 0 n))) (sym (add-one m))
      ∙ sum_by-map-range_with_len_more (λ n. n) (last_counter meters telegrams) 0 m m (zero-add m)
      ∙ (let before = sum_of m (omega arith) in
      let here = h.last m (omega arith) in
      let product = mul-suc h.rounds m in grind (arith, nat_tests))

-- ---- what the code computes

pub strangers_are : (meters telegrams : ℕ) → length (of_stranger meters telegrams) ≡ telegrams / (meters + 1)
strangers_are meters telegrams =
    let h = counted meters telegrams in
    h.strangers ∙ sym (ap (λ n. n / (meters + 1)) h.whole ∙ div-mul-add h.rounds (meters + 1) h.place h.below)

pub own_are : (meters telegrams : ℕ) → length (of_meters meters telegrams) ≡ telegrams - length (of_stranger meters telegrams)
own_are meters telegrams = let h = counted meters telegrams in omega (arith, h.own, h.strangers)

pub highest_is : (meters telegrams : ℕ) → highest meters telegrams ≡ telegrams - length (of_stranger meters telegrams)
unfolding highest
highest_is meters telegrams =
    let h = counted meters telegrams in
    omega (
      arith,
      sum_of meters telegrams h meters (omega arith),
      h.strangers,
      h.whole,
      h.below,
      mul-add h.rounds meters 1,
      mul-one h.rounds,
    )
