-- The keys that are used.
use Rattle.std.proofs.Common.{◌≡◌, Bool, true, false, cond, ◌||◌, List, [], ◌∷◌, map, Some, Result, Ok, Err, IfOk, refl, sym, ap, ◌∙◌, filter, nat_lt, unwrap_or, Less}
use Rattle.std.specs.List.{AllByRecursion}
use Rattle.std.specs.List.Sorted.{IsStrictlySortedBy}
use Rattle.std.specs.Map.{keys_of}
use Rattle.std.specs.BTreeMap.{is_at}
use Rattle.std.proofs.lemmas.Bool.{or_parts, or_from, cond_both}
use Rattle.std.proofs.lemmas.Map.Keys.{sorted_head, sorted_tail}
use Rattle.usage_totals.specs.declared.key.UsageKey.{UsageKey}
use Rattle.usage_totals.specs.declared.sums.Sum.{Sum}
use Rattle.usage_totals.specs.Keys.{key_cmp}
use Rattle.usage_totals.specs.Sums.{no_sum, find_sum, sum_at, used_keys, is_among}
use Rattle.usage_totals.proofs.SameKey.{same_by_test}
use Rattle.usage_totals.proofs.KeysIn.{below_none}

-- a key that isn't among the keys isn't among those that are used
within : (q : UsageKey) (sums : List (UsageKey × Sum)) → is_among q (keys_of sums) ≡ false → is_among q (used_keys sums) ≡ false
within q [] misses = refl
within q (e ∷ es) misses =
    let both = or_parts (is_at (key_cmp q) e.0) (is_among q (keys_of es)) misses in
    let rest = within q es both.1 in
    cond_both (nat_lt 0 e.1.meters) _ (filter (λ x. nat_lt 0 x.1.meters) es) (λ used. is_among q (keys_of used) ≡ false)
    (λ _. or_from _ _ both.0 rest) (λ _. rest)

later : (q : UsageKey) (e : UsageKey × Sum) (es : List (UsageKey × Sum)) → IsStrictlySortedBy key_cmp (keys_of (e ∷ es))
    → is_at (key_cmp q) e.0 ≡ true → is_among q (keys_of es) ≡ false
later q e es ordered here =
    ap (λ k. is_among k (keys_of es)) (same_by_test q e.0 here) ∙ below_none e.0 (keys_of es) (sorted_head key_cmp e.0 (keys_of es) ordered)

used_by : (here p : Bool) (q : UsageKey) (e : UsageKey × Sum) (es : List (UsageKey × Sum)) → is_at (key_cmp q) e.0 ≡ here
    → nat_lt 0 e.1.meters ≡ p
    → (here ≡ true → is_among q (used_keys es) ≡ false) → is_among q (used_keys es) ≡ nat_lt 0 (sum_at q es).meters
    → is_among q (map (λ x. x.0) (cond p (e ∷ filter (λ x. nat_lt 0 x.1.meters) es) (filter (λ x. nat_lt 0 x.1.meters) es)))
    ≡ nat_lt 0 (unwrap_or (cond here (Some e.1) (find_sum q es)) no_sum).meters
used_by true true q e es is pos later rest = ap (λ t. t || is_among q (used_keys es)) is ∙ sym pos
used_by true false q e es is pos later rest = later refl ∙ sym pos
used_by false true q e es is pos later rest = ap (λ t. t || is_among q (used_keys es)) is ∙ rest
used_by false false q e es is pos later rest = rest

-- those that are used have meters in their sums
pub used_has : (q : UsageKey) (sums : List (UsageKey × Sum)) → IsStrictlySortedBy key_cmp (keys_of sums)
    → is_among q (used_keys sums) ≡ nat_lt 0 (sum_at q sums).meters
used_has q [] ordered = refl
used_has q (e ∷ es) ordered =
    used_by (is_at (key_cmp q) e.0) (nat_lt 0 e.1.meters) q e es refl refl
    (λ here. within q es (later q e es ordered here))
    (used_has q es (sorted_tail key_cmp e.0 (keys_of es) ordered))

below_used : (k : UsageKey) (sums : List (UsageKey × Sum)) → AllByRecursion (λ y. key_cmp k y ≡ Less) (keys_of sums)
    → AllByRecursion (λ y. key_cmp k y ≡ Less) (used_keys sums)
below_used k [] below = tt
below_used k (e ∷ es) below =
    let rest = below_used k es below.1 in
    cond_both (nat_lt 0 e.1.meters) _ (filter (λ x. nat_lt 0 x.1.meters) es) (λ used. AllByRecursion (λ y. key_cmp k y ≡ Less) (keys_of used))
    (λ _. (below.0, rest)) (λ _. rest)

-- and they ascend
pub used_ordered : (sums : List (UsageKey × Sum)) → IsStrictlySortedBy key_cmp (keys_of sums) → IsStrictlySortedBy key_cmp (used_keys sums)
unfolding IsStrictlySortedBy
used_ordered [] ordered = ordered
used_ordered (e ∷ es) ordered =
    let rest = used_ordered es ordered.1 in
    cond_both (nat_lt 0 e.1.meters) _ (filter (λ x. nat_lt 0 x.1.meters) es) (λ used. IsStrictlySortedBy key_cmp (keys_of used))
    (λ _. (below_used e.0 es ordered.0, rest)) (λ _. rest)

pub if_ok : {T E : Type 0} {P Q : T → Type 0} (r : Result T E) → IfOk r P → ((x : T) → P x → Q x) → IfOk r Q
if_ok (Ok x) p f = f x p
if_ok (Err e) p f = tt
