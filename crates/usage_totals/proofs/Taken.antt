-- The first and the last of amounts, as an iterator takes them.
use Rattle.std.proofs.Common.{◌≡◌, ℕ, Bool, true, false, List, [], ◌∷◌, ◌++◌, Option, Some, None, ℤ, refl, sym, ap, ◌∙◌, subst, arith, Greater, nat_cmp, option_map, unwrap_or}
use Rattle.std.specs.List.{AllByRecursion}
use Rattle.std.specs.List.Sorted.{IsStrictlySortedBy}
use Rattle.std.specs.Map.{keys_of}
use Rattle.std.specs.Map.Iter.{TakesLast}
use Rattle.std.specs.BTreeMap.{is_at}
use Rattle.std.proofs.lemmas.Bool.Decides.{nat_tests}
use Rattle.std.proofs.lemmas.List.{map-append}
use Rattle.usage_totals.specs.Usage.{last}
use Rattle.usage_totals.specs.Indexed.{Numbered, without}
use Rattle.usage_totals.proofs.Ends.{last-append}
use Rattle.usage_totals.proofs.Parts.{without_parted}
use Rattle.usage_totals.proofs.Numbering.{rising_around}

same_at : (n k : ℕ) → is_at (nat_cmp n) k ≡ true → n ≡ k
same_at n k same = grind (arith, nat_tests, same)

pub all_keys : {K X : Type 0} (P : K → Type 0) (es : List (K × X)) → AllByRecursion P (keys_of es) → AllByRecursion (λ e. P e.0) es
all_keys P [] a = tt
all_keys P (e ∷ es) a = (a.0, all_keys P es a.1)

keeps_last : (n : ℕ) (rest : Numbered) (e : ℕ × ℤ) → is_at (nat_cmp n) e.0 ≡ false
    → without n (rest ++ e ∷ []) ≡ without n rest ++ e ∷ []
keeps_last n [] e other = rw other refl
keeps_last n (f ∷ fs) e other = let rest = keeps_last n fs e other in grind (arith, nat_tests)

module _ (n : ℕ) (rest : Numbered) (e : ℕ × ℤ) (rising : IsStrictlySortedBy nat_cmp (keys_of (rest ++ e ∷ []))) (same : n ≡ e.0) where
  below : AllByRecursion (λ f. nat_cmp n f.0 ≡ Greater) rest
  below =
      subst (λ m. AllByRecursion (λ (f : ℕ × ℤ). nat_cmp m f.0 ≡ Greater) rest) (sym same)
      (all_keys (λ m. nat_cmp e.0 m ≡ Greater) rest
      (rising_around (keys_of rest) [] e.0 (subst (IsStrictlySortedBy nat_cmp) (map-append (λ (f : ℕ × ℤ). f.0) rest (e ∷ [])) rising)).below)

  last_gone : without n (rest ++ e ∷ []) ≡ rest ++ []
  last_gone = ap (λ m. without n (rest ++ (m, e.1) ∷ [])) (sym same) ∙ without_parted n rest (Some e.1) [] below tt

module _ {A : Type 0} (shows : A → ℕ × ℤ) where
  -- whether what was taken stands at a number
  abbrev pub is_there : ℕ → Option A → Bool
  is_there n r = unwrap_or (option_map (λ a. is_at (nat_cmp n) (shows a).0) r) false

  abbrev pub amount_taken : Option A → Option ℤ
  amount_taken r = option_map (λ a. (shows a).1) r

  pub took_last : (es rest : Numbered) (r : Option A) → TakesLast shows es r rest → amount_taken r ≡ last (λ e. Some e.1) es
  took_last es rest None t = sym (ap (last (λ e. Some e.1)) t.0)
  took_last es rest (Some a) t = sym (ap (last (λ e. Some e.1)) t ∙ last-append (λ e. Some e.1) rest (shows a ∷ []))

  -- the last one stands at the number, and is left out
  pub last_there : (n : ℕ) (es rest : Numbered) (r : Option A) → IsStrictlySortedBy nat_cmp (keys_of es) → TakesLast shows es r rest
      → is_there n r ≡ true → last (λ e. Some e.1) rest ≡ last (λ e. Some e.1) (without n es)
  last_there n es rest None rising t there = absurd cc
  last_there n es rest (Some a) rising t there =
      let gone = last_gone n rest (shows a) (subst (λ x. IsStrictlySortedBy nat_cmp (keys_of x)) t rising)
      (same_at n (shows a).0 there) in
      sym (ap (λ x. last (λ e. Some e.1) (without n x)) t ∙ ap (last (λ e. Some e.1)) gone ∙ last-append (λ e. Some e.1) rest [])

  -- it doesn't, and stays the last
  pub last_other : (n : ℕ) (es rest : Numbered) (r : Option A) → TakesLast shows es r rest → is_there n r ≡ false
      → amount_taken r ≡ last (λ e. Some e.1) (without n es)
  last_other n es rest None t other = sym (ap (λ x. last (λ e. Some e.1) (without n x)) t.0)
  last_other n es rest (Some a) t other =
      sym (ap (λ x. last (λ e. Some e.1) (without n x)) t
      ∙ ap (last (λ e. Some e.1)) (keeps_last n rest (shows a) other) ∙ last-append (λ e. Some e.1) (without n rest) (shows a ∷ []))
