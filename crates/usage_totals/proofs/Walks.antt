-- An index whose amounts change key by key.
use Rattle.std.proofs.Common.{⊎_elim, ◌≡◌, ◌⊎◌, inl, inr, true, false, cond, List, [], ◌∷◌, Some, None, is_some, refl, sym, ap, ◌∙◌, subst, is_eq, unwrap_or}
use Rattle.std.specs.List.Sorted.{IsStrictlySortedBy}
use Rattle.std.specs.Map.{keys_of, lookup}
use Rattle.std.specs.BTreeMap.{is_at}
use Rattle.std.proofs.lemmas.Bool.{cases_Bool, or_right}
use Rattle.std.proofs.lemmas.Map.Keys.{sorted_head, sorted_tail}
use Rattle.usage_totals.specs.declared.key.UsageKey.{UsageKey}
use Rattle.usage_totals.specs.Keys.{key_cmp}
use Rattle.usage_totals.specs.Amounts.{Row, amount_at}
use Rattle.usage_totals.specs.Sums.{is_among}
use Rattle.usage_totals.specs.Indexed.{Numbered, indexed}
use Rattle.usage_totals.proofs.KeyByKey.{has_amount, has_first, none_by, at_key, apart_in, no_key}
use Rattle.usage_totals.proofs.SameKey.{same_by_test}

-- While keys of a row are left, the amounts of these are the old ones, and those of all others are changed.
pub record IsChanging (row : Row) (change : UsageKey → Numbered → Numbered) (old now : List (UsageKey × Numbered))
    (left : List UsageKey) : Type 0 where
  pub ordered : IsStrictlySortedBy key_cmp left
  pub there : (q : UsageKey) → is_among q left ≡ true → is_some (amount_at q row) ≡ true
  pub waiting : (q : UsageKey) → is_among q left ≡ true → indexed q now ≡ indexed q old
  pub changed : (q : UsageKey) → is_among q left ≡ false → indexed q now ≡ change q (indexed q old)

pub changing_starts : (row : Row) (change : UsageKey → Numbered → Numbered) (old : List (UsageKey × Numbered)) (left : List UsageKey)
    → left ≡ keys_of row → IsStrictlySortedBy key_cmp (keys_of row)
    → ((q : UsageKey) (es : Numbered) → amount_at q row ≡ None → change q es ≡ es) → IsChanging row change old old left
changing_starts row change old left e ordered same = subst (IsChanging row change old old) (sym e) (record {
  ordered = ordered;
  there = λ q has. has_amount q row ∙ has;
  waiting = λ q has. refl;
  changed = λ q misses. sym (same q (indexed q old) (none_by (amount_at q row) (has_amount q row ∙ misses)));
})

module _ {row : Row} {change : UsageKey → Numbered → Numbered} {old now : List (UsageKey × Numbered)} {k : UsageKey}
    {left keys : List UsageKey} (c : IsChanging row change old now keys) (e : keys ≡ k ∷ left) where
  stands : IsChanging row change old now (k ∷ left)
  stands = subst (IsChanging row change old now) e c

  -- the next key is one of the row's
  pub next_there : is_some (amount_at k row) ≡ true
  next_there = stands.there k (has_first k left)

  module _ (new : List (UsageKey × Numbered)) (others : (q : UsageKey) → is_eq (key_cmp k q) ≡ false → indexed q new ≡ indexed q now) where
    -- it is changed
    module _ (here : indexed k new ≡ change k (indexed k now)) where
      pub changing_goes_on : IsChanging row change old new left
      changing_goes_on = record {
        ordered = sorted_tail key_cmp k left stands.ordered;
        there = λ q has. stands.there q (or_right _ _ has);
        waiting = λ q has.
            others q (apart_in k q left (sorted_head key_cmp k left stands.ordered) has) ∙ stands.waiting q (or_right _ _ has);
        changed = λ q misses.
            at_key (λ p. indexed p new ≡ change p (indexed p old)) k q (here ∙ ap (change k) (stands.waiting k (has_first k left)))
            (λ other. others q other ∙ stands.changed q (no_key k q left other misses));
      }

    -- it is not
    module _ (here : indexed k new ≡ indexed k now) where
      pub changing_stopped : (q : UsageKey) → (indexed q new ≡ indexed q old) ⊎ (indexed q new ≡ change q (indexed q old))
      changing_stopped q =
          let same : indexed q new ≡ indexed q now = at_key (λ p. indexed p new ≡ indexed p now) k q here (others q) in
          ⊎_elim (λ has. inl (same ∙ stands.waiting q has)) (λ misses. inr (same ∙ stands.changed q misses))
          (cases_Bool (is_among q (k ∷ left)))

-- a key without amounts is forgotten
pub tidied : (k q : UsageKey) (old new : List (UsageKey × Numbered)) → lookup (is_at (key_cmp k)) old ≡ Some []
    → lookup (is_at (key_cmp q)) new ≡ cond (is_at (key_cmp k) q) None (lookup (is_at (key_cmp q)) old) → indexed q new ≡ indexed q old
tidied k q old new bare now =
    ⊎_elim (λ same. ap (λ o. unwrap_or o []) (now ∙ ap (λ b. cond b None (lookup (is_at (key_cmp q)) old)) same)
    ∙ ap (λ o. unwrap_or o []) (sym bare ∙ ap (λ p. lookup (is_at (key_cmp p)) old) (same_by_test k q same)))
    (λ other. ap (λ o. unwrap_or o []) (now ∙ ap (λ b. cond b None (lookup (is_at (key_cmp q)) old)) other)) (cases_Bool (is_at (key_cmp k) q))
