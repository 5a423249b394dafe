-- Sums that are mended key by key.
use Rattle.std.proofs.Common.{true≢false, ⊎_elim, ◌≡◌, ℕ, ◌<◌, Bool, true, false, cond, ◌||◌, List, [], ◌∷◌, length, get_or, remove, Option, Some, None, is_some, ℤ, refl, sym, ap, ◌∙◌, subst, Less, is_eq, unwrap_or}
use Rattle.std.specs.List.{AllByRecursion}
use Rattle.std.specs.List.Sorted.{IsStrictlySortedBy}
use Rattle.std.specs.Map.{keys_of}
use Rattle.std.specs.BTreeMap.{is_at}
use Rattle.std.proofs.lemmas.Bool.{cases_Bool, or_right, or_from, or_cases}
use Rattle.std.proofs.lemmas.Map.Made.{is_some-lookup}
use Rattle.std.proofs.lemmas.Map.Keys.{sorted_head, sorted_tail}
use Rattle.std.proofs.lemmas.Cmp.{tied_itself, eq_by_cmp_equiv}
use Rattle.usage_totals.specs.declared.key.UsageKey.{UsageKey}
use Rattle.usage_totals.specs.declared.sums.Sum.{Sum}
use Rattle.usage_totals.specs.Keys.{key_cmp, key_cmp_total}
use Rattle.usage_totals.specs.Amounts.{Row, amount_at}
use Rattle.usage_totals.specs.Usage.{usage_at, side}
use Rattle.usage_totals.specs.Sums.{with_usage, find_sum, has_sum, sum_at, no_sum, is_among}
use Rattle.usage_totals.proofs.Ends.{usage_removed}
use Rattle.usage_totals.proofs.SameKey.{same_by_test}

-- While keys are left, the sums of these are the old ones, and those of all others are mended.
pub record IsMending (before after : UsageKey → Option ℤ) (old now : List (UsageKey × Sum)) (left : List UsageKey) : Type 0 where
  pub ordered : IsStrictlySortedBy key_cmp left
  pub there : (q : UsageKey) → is_among q left ≡ true → has_sum q old ≡ true
  pub waiting : (q : UsageKey) → is_among q left ≡ true → find_sum q now ≡ find_sum q old
  pub mended : (q : UsageKey) (rest : Sum) → is_among q left ≡ false → sum_at q old ≡ with_usage (before q) rest
      → sum_at q now ≡ with_usage (after q) rest
  pub stays : (q : UsageKey) → has_sum q old ≡ true → has_sum q now ≡ true

-- ---- a row's keys

-- a row has an amount of its keys, and of no others
pub has_amount : (q : UsageKey) (row : Row) → is_some (amount_at q row) ≡ is_among q (keys_of row)
has_amount q row = is_some-lookup (is_at (key_cmp q)) row

pub none_by : {A : Type 0} (o : Option A) → is_some o ≡ false → o ≡ None
none_by None e = refl
none_by (Some v) e = absurd cc

pub mending_starts : (before after : UsageKey → Option ℤ) (old : List (UsageKey × Sum)) (row : Row)
    → IsStrictlySortedBy key_cmp (keys_of row)
    → ((q : UsageKey) → is_some (amount_at q row) ≡ true → has_sum q old ≡ true)
    → ((q : UsageKey) → amount_at q row ≡ None → before q ≡ after q)
    → IsMending before after old old (keys_of row)
mending_starts before after old row ordered there same = record {
  ordered = ordered;
  there = λ q has. there q (has_amount q row ∙ has);
  waiting = λ q has. refl;
  mended = λ q rest misses e. e ∙ ap (λ u. with_usage u rest) (same q (none_by (amount_at q row) (has_amount q row ∙ misses)));
  stays = λ q has. has;
}

-- ---- one key

pub has_first : (k : UsageKey) (left : List UsageKey) → is_among k (k ∷ left) ≡ true
has_first k left = ap (λ o. is_eq o || is_among k left) (tied_itself key_cmp_total k)

-- what holds of a key, and of every other one
pub at_key : (P : UsageKey → Type 0) (k q : UsageKey) → P k → (is_eq (key_cmp k q) ≡ false → P q) → P q
at_key P k q here others =
    ⊎_elim (λ same. subst P (same_by_test k q same) here) (λ other. others other) (cases_Bool (is_eq (key_cmp k q)))

-- the first key is none of the later ones
pub apart_in : (k q : UsageKey) (left : List UsageKey) → AllByRecursion (λ y. key_cmp k y ≡ Less) left → is_among q left ≡ true
    → is_eq (key_cmp k q) ≡ false
apart_in k q [] below has = absurd cc
apart_in k q (y ∷ ys) below has =
    ⊎_elim (λ here. ap is_eq (ap (key_cmp k) (same_by_test q y here) ∙ below.0)) (λ later. apart_in k q ys below.1 later)
    (or_cases (is_at (key_cmp q) y) (is_among q ys) has)

-- and what is neither the first nor a later one is none of both
pub no_key : (k q : UsageKey) (left : List UsageKey) → is_eq (key_cmp k q) ≡ false → is_among q left ≡ false → is_among q (k ∷ left) ≡ false
no_key k q left other misses = or_from _ _ ((eq_by_cmp_equiv key_cmp_total).symm q k ∙ other) misses

sum_same : (q : UsageKey) (a b : List (UsageKey × Sum)) → find_sum q a ≡ find_sum q b → sum_at q a ≡ sum_at q b
sum_same q a b e = ap (λ o. unwrap_or o no_sum) e

module _ {before after : UsageKey → Option ℤ} {old now : List (UsageKey × Sum)} {k : UsageKey} {left keys : List UsageKey}
    (mending : IsMending before after old now keys) (e : keys ≡ k ∷ left) where
  m : IsMending before after old now (k ∷ left)
  m = subst (IsMending before after old now) e mending

  pub mending_step : (new : List (UsageKey × Sum)) {u v : Option ℤ} → u ≡ before k → v ≡ after k
      → ((rest : Sum) → sum_at k now ≡ with_usage u rest → sum_at k new ≡ with_usage v rest)
      → ((q : UsageKey) → is_eq (key_cmp k q) ≡ false → find_sum q new ≡ find_sum q now) → has_sum k new ≡ true
      → IsMending before after old new left
  mending_step new is_u is_v here others put = record {
    ordered = sorted_tail key_cmp k left m.ordered;
    there = λ q has. m.there q (or_right _ _ has);
    waiting = λ q has. others q (apart_in k q left (sorted_head key_cmp k left m.ordered) has) ∙ m.waiting q (or_right _ _ has);
    mended = λ q rest misses.
        at_key (λ p. sum_at p old ≡ with_usage (before p) rest → sum_at p new ≡ with_usage (after p) rest) k q
        (λ is. here rest (sum_same k now old (m.waiting k (has_first k left)) ∙ is ∙ ap (λ o. with_usage o rest) (sym is_u))
        ∙ ap (λ o. with_usage o rest) is_v)
        (λ other is. sum_same q new now (others q other) ∙ m.mended q rest (no_key k q left other misses) is);
    stays = λ q.
        at_key (λ p. has_sum p old ≡ true → has_sum p new ≡ true) k q (λ _. put)
        (λ other has. ap is_some (others q other) ∙ m.stays q has);
  }

  pub next_waits : (has_sum k now ≡ true) × (sum_at k now ≡ sum_at k old)
  next_waits =
      let waits = m.waiting k (has_first k left) in
      (ap is_some waits ∙ m.there k (has_first k left), sum_same k now old waits)

-- ---- the row that comes or goes

pub sides_same : (q : UsageKey) (rows : List Row) (place : ℕ) (row : Row) (comes : Bool) → place < length rows → row ≡ get_or rows place row
    → amount_at q row ≡ None
    → usage_at q (side comes (remove rows place) rows) ≡ usage_at q (side comes rows (remove rows place))
sides_same q rows place row true lt at misses = usage_removed (amount_at q) rows place row lt (ap (amount_at q) (sym at) ∙ misses)
sides_same q rows place row false lt at misses = sym (usage_removed (amount_at q) rows place row lt (ap (amount_at q) (sym at) ∙ misses))

-- what the rows used before and after, by the key
abbrev pub used_before : List Row → ℕ → Bool → UsageKey → Option ℤ
used_before rows place comes q = usage_at q (side comes (remove rows place) rows)

abbrev pub used_after : List Row → ℕ → Bool → UsageKey → Option ℤ
used_after rows place comes q = usage_at q (side comes rows (remove rows place))

-- Room is made: no sum changes, and of the row's keys only those that are left may have none.
pub record IsMakingRoom (row : Row) (old now : List (UsageKey × Sum)) (left : List UsageKey) : Type 0 where
  pub same : (q : UsageKey) → sum_at q now ≡ sum_at q old
  pub there : (q : UsageKey) → is_some (amount_at q row) ≡ true → is_among q left ≡ false → has_sum q now ≡ true

pub room_starts : (row : Row) (old : List (UsageKey × Sum)) (left : List UsageKey) → left ≡ keys_of row → IsMakingRoom row old old left
room_starts row old left e =
    record { same = λ q. refl; there = λ q has misses. absurd (true≢false (sym has ∙ has_amount q row ∙ ap (is_among q) (sym e) ∙ misses)) }

pub room_step : {row : Row} (k : UsageKey) {left keys : List UsageKey} {old now : List (UsageKey × Sum)} (new : List (UsageKey × Sum))
    → IsMakingRoom row old now keys → keys ≡ k ∷ left → ((q : UsageKey) → sum_at q new ≡ sum_at q now)
    → ((q : UsageKey) → has_sum q now ≡ true → has_sum q new ≡ true) → has_sum k new ≡ true → IsMakingRoom row old new left
room_step {row} k {left} {keys} {old} {now} new m e same stays here =
    let m' : IsMakingRoom row old now (k ∷ left) = subst (IsMakingRoom row old now) e m in
    record {
      same = λ q. same q ∙ m.same q;
      there = λ q has misses.
          at_key (λ p. has_sum p new ≡ true) k q here (λ other. stays q (m'.there q has (no_key k q left other misses)));
    }

pub sum_none : (q : UsageKey) (sums : List (UsageKey × Sum)) → has_sum q sums ≡ false → sum_at q sums ≡ no_sum
sum_none q sums e = ap (λ o. unwrap_or o no_sum) (none_by (find_sum q sums) e)

-- a sum of nothing is put where there is none
pub room_put : (k q : UsageKey) (old new : List (UsageKey × Sum)) (test : Bool) → is_eq (key_cmp k q) ≡ test
    → find_sum q new ≡ cond test (Some no_sum) (find_sum q old) → has_sum k old ≡ false
    → (sum_at q new ≡ sum_at q old) × (has_sum q old ≡ true → has_sum q new ≡ true)
room_put k q old new true e put absent =
    let same : k ≡ q = same_by_test k q e in
    (ap (λ o. unwrap_or o no_sum) put ∙ sym (sum_none q old (ap (λ p. has_sum p old) (sym same) ∙ absent)), λ has. ap is_some put)
room_put k q old new false e put absent = (ap (λ o. unwrap_or o no_sum) put, λ has. ap is_some put ∙ has)
