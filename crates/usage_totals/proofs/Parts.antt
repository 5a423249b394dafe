-- Amounts parted at a number: what stands there comes, changes and goes.
use Rattle.std.proofs.Common.{◌≡◌, ◌⊎◌, inl, inr, ℕ, cond, [], ◌∷◌, ◌++◌, Option, Some, None, is_some, ℤ, refl, sym, ap, ◌∙◌, arith, Less, Greater, nat_cmp, option_map}
use Rattle.std.specs.List.{AllByRecursion, cons_option}
use Rattle.std.specs.Map.{lookup, set_value}
use Rattle.std.specs.BTreeMap.{is_at, insert_entry}
use Rattle.std.proofs.lemmas.Bool.Decides.{nat_tests}
use Rattle.std.proofs.lemmas.Cmp.{tied_itself, nat_cmp_total}
use Rattle.usage_totals.specs.Indexed.{Numbered, without, with_put, with_set, with_amount, parted, StandsAt}

-- where none stands, none is set
pub set_absent : (n : ℕ) (es : Numbered) (v : ℤ) → lookup (is_at (nat_cmp n)) es ≡ None → set_value (is_at (nat_cmp n)) es v ≡ es
set_absent n [] v misses = refl
set_absent n (e ∷ es) v misses = let rest = set_absent n es v in grind (arith, nat_tests)

module _ (n : ℕ) where
  abbrev pub AreBelow : Numbered → Type 0
  AreBelow es = AllByRecursion (λ e. nat_cmp n e.0 ≡ Greater) es

  abbrev pub AreAbove : Numbered → Type 0
  AreAbove es = AllByRecursion (λ e. nat_cmp n e.0 ≡ Less) es

  -- ---- one operation

  without_absent : (es : Numbered) → AreAbove es → without n es ≡ es
  without_absent [] a = refl
  without_absent (e ∷ es) a = rw a.0 (ap (λ z. e ∷ z) (without_absent es a.1))

  without_here : (x : Option ℤ) (back : Numbered) → AreAbove back → without n (cons_option (option_map (λ v. (n, v)) x) back) ≡ back
  without_here None back a = without_absent back a
  without_here (Some v) back a = rw (tied_itself nat_cmp_total n) refl

  pub without_parted : (front : Numbered) (x : Option ℤ) (back : Numbered) → AreBelow front → AreAbove back
      → without n (parted front n x back) ≡ front ++ back
  without_parted [] x back b a = without_here x back a
  without_parted (f ∷ front) x back b a = rw b.0 (ap (λ z. f ∷ z) (without_parted front x back b.1 a))

  insert_here : (x : Option ℤ) (back : Numbered) (v : ℤ) → AreAbove back
      → insert_entry nat_cmp (cons_option (option_map (λ w. (n, w)) x) back) n v ≡ (n, v) ∷ back
  insert_here None [] v a = refl
  insert_here None (e ∷ es) v a = rw a.0 refl
  insert_here (Some x) back v a = rw (tied_itself nat_cmp_total n) refl

  insert_parted : (front : Numbered) (x : Option ℤ) (back : Numbered) (v : ℤ) → AreBelow front → AreAbove back
      → insert_entry nat_cmp (parted front n x back) n v ≡ front ++ (n, v) ∷ back
  insert_parted [] x back v b a = insert_here x back v a
  insert_parted (f ∷ front) x back v b a = rw b.0 (ap (λ z. f ∷ z) (insert_parted front x back v b.1 a))

  set_parted : (front : Numbered) (x v : ℤ) (back : Numbered) → AreBelow front
      → set_value (is_at (nat_cmp n)) (front ++ (n, x) ∷ back) v ≡ front ++ (n, v) ∷ back
  set_parted [] x v back b = rw (tied_itself nat_cmp_total n) refl
  set_parted (f ∷ front) x v back b = rw b.0 (ap (λ z. f ∷ z) (set_parted front x v back b.1))

  -- the amount at the number becomes another one, or none
  pub amount_parted : (front : Numbered) (x y : Option ℤ) (back : Numbered) → AreBelow front → AreAbove back
      → with_amount n y (parted front n x back) ≡ parted front n y back
  amount_parted front x None back b a = without_parted front x back b a
  amount_parted front x (Some v) back b a = insert_parted front x back v b a

  -- ---- one row's amount in the place of another's

  module _ (front back : Numbered) (b : AreBelow front) (a : AreAbove back) where
    put_then_set : (x y : Option ℤ)
        → cond (is_some x) (with_set n y (with_put n y (parted front n x back))) (with_put n y (parted front n x back))
        ≡ with_amount n y (parted front n x back)
    put_then_set None None = sym (without_parted front None back b a)
    put_then_set None (Some v) = refl
    put_then_set (Some u) None = refl
    put_then_set (Some u) (Some v) =
        ap (λ z. set_value (is_at (nat_cmp n)) z v) (insert_parted front (Some u) back v b a)
        ∙ set_parted front v v back b ∙ sym (insert_parted front (Some u) back v b a)

    set_back : (x y : Option ℤ) → cond (is_some y) (with_set n x (parted front n x back)) (parted front n x back) ≡ parted front n x back
    set_back x None = refl
    set_back None (Some v) = without_parted front None back b a
    set_back (Some u) (Some v) = set_parted front u u back b

    put_then_back : (x y : Option ℤ)
        → cond (is_some y) (with_set n x (with_put n y (parted front n x back))) (with_put n y (parted front n x back))
        ≡ parted front n x back
    put_then_back x None = refl
    put_then_back None (Some v) = ap (without n) (insert_parted front None back v b a) ∙ without_parted front (Some v) back b a
    put_then_back (Some u) (Some v) =
        ap (λ z. set_value (is_at (nat_cmp n)) z u) (insert_parted front (Some u) back v b a) ∙ set_parted front v u back b

    set_away : (x : Option ℤ)
        → cond (is_some x) (without n (parted front n x back)) (parted front n x back) ≡ without n (parted front n x back)
    set_away None = sym (without_parted front None back b a)
    set_away (Some u) = refl

module _ {n : ℕ} {x : Option ℤ} {es : Numbered} (s : StandsAt n x es) where
  -- what was put, and then set where there was an amount before
  pub changed : (y : Option ℤ) {mid new : Numbered} → mid ≡ with_put n y es → new ≡ cond (is_some x) (with_set n y mid) mid
      → new ≡ with_amount n y es
  changed y put is =
      is ∙ ap (λ m. cond (is_some x) (with_set n y m) m) (put ∙ ap (with_put n y) s.parts)
      ∙ put_then_set n s.front s.back s.below s.above x y ∙ ap (with_amount n y) (sym s.parts)

  -- what was put, or was not, and then set back
  pub restored : (y : Option ℤ) {mid new : Numbered} → (mid ≡ es) ⊎ (mid ≡ with_put n y es)
      → new ≡ cond (is_some y) (with_set n x mid) mid → new ≡ es
  restored y (inl same) is =
      is ∙ ap (λ m. cond (is_some y) (with_set n x m) m) (same ∙ s.parts) ∙ set_back n s.front s.back s.below s.above x y ∙ sym s.parts
  restored y (inr put) is =
      is ∙ ap (λ m. cond (is_some y) (with_set n x m) m) (put ∙ ap (with_put n y) s.parts)
      ∙ put_then_back n s.front s.back s.below s.above x y ∙ sym s.parts

  -- what was taken away where there was an amount
  pub gone : {new : Numbered} → new ≡ cond (is_some x) (without n es) es → new ≡ without n es
  gone is =
      is ∙ ap (λ m. cond (is_some x) (without n m) m) s.parts ∙ set_away n s.front s.back s.below s.above x ∙ ap (without n) (sym s.parts)
