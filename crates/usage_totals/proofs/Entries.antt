-- Lists of entries: what holds of each stays so when one is put, set or removed, and what is found then.
use Rattle.std.proofs.Common.{Bool, List, [], ◌∷◌, Ordering, Less, Equal, Greater}
use Rattle.std.specs.Ordering.{match_ordering}
use Rattle.std.specs.List.{AllByRecursion}
use Rattle.std.specs.Map.{remove_entry, set_value}
use Rattle.std.specs.BTreeMap.{insert_entry}
use Rattle.std.proofs.lemmas.Bool.{cond_both}
use Rattle.indexmap.specs.IndexMap.{insert_entry as put_entry}

pub by_order : {A : Type 0} (P : A → Type 0) (o : Ordering) (x y z : A) → P x → P y → P z → P (match_ordering o x y z)
by_order P Less x y z a b c = a
by_order P Equal x y z a b c = b
by_order P Greater x y z a b c = c

pub all_both : {A : Type 0} (P Q R : A → Type 0) → ((x : A) → P x → Q x → R x) → (xs : List A) → AllByRecursion P xs → AllByRecursion Q xs
    → AllByRecursion R xs
all_both P Q R f [] p q = tt
all_both P Q R f (x ∷ xs) p q = (f x p.0 q.0, all_both P Q R f xs p.1 q.1)

module _ {K X : Type 0} (P : K × X → Type 0) where
  pub each_removed : (test : K → Bool) (es : List (K × X)) → AllByRecursion P es → AllByRecursion P (remove_entry test es)
  each_removed test [] a = tt
  each_removed test (e ∷ es) a =
      cond_both (test e.0) es (e ∷ remove_entry test es) (AllByRecursion P) (λ _. a.1) (λ _. (a.0, each_removed test es a.1))

  -- a value of which it holds in the place of any other
  module _ (v : X) (again : (e : K × X) → P e → P (e.0, v)) where
    pub each_set : (test : K → Bool) (es : List (K × X)) → AllByRecursion P es → AllByRecursion P (set_value test es v)
    each_set test [] a = tt
    each_set test (e ∷ es) a =
        cond_both (test e.0) ((e.0, v) ∷ es) (e ∷ set_value test es v) (AllByRecursion P) (λ _. (again e a.0, a.1))
        (λ _. (a.0, each_set test es a.1))

    pub each_put : (eq : K → K → Bool) (es : List (K × X)) (k : K) → P (k, v) → AllByRecursion P es → AllByRecursion P (put_entry eq es k v)
    each_put eq [] k here a = (here, tt)
    each_put eq (e ∷ es) k here a =
        cond_both (eq k e.0) ((e.0, v) ∷ es) (e ∷ put_entry eq es k v) (AllByRecursion P) (λ _. (again e a.0, a.1))
        (λ _. (a.0, each_put eq es k here a.1))

    pub each_inserted : (cmp : K → K → Ordering) (es : List (K × X)) (k : K) → P (k, v) → AllByRecursion P es
        → AllByRecursion P (insert_entry cmp es k v)
    each_inserted cmp [] k here a = (here, tt)
    each_inserted cmp (e ∷ es) k here a =
        by_order (AllByRecursion P) (cmp k e.0) _ _ _ (here, a) (again e a.0, a.1) (a.0, each_inserted cmp es k here a.1)
