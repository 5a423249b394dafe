-- The first and the last amount of rows.
use Rattle.std.proofs.Common.{◌≡◌, ℕ, zero, suc, ◌<◌, Bool, ◌||◌, is_some, length, get_or, remove, arith, List, [], ◌∷◌, ◌++◌, Option, Some, None, ℤ, refl, sym, ap, ◌∙◌}
use Rattle.std.proofs.Math.Bool.{or_comm}
use Rattle.std.specs.Option.{option_or}
use Rattle.std.specs.List.{list_any}
use Rattle.usage_totals.specs.Usage.{first, last, less, usage_by}

pub or_none : {T : Type 0} (o : Option T) → option_or o None ≡ o
or_none None = refl
or_none (Some x) = refl

pub or_assoc : {T : Type 0} (a b c : Option T) → option_or (option_or a b) c ≡ option_or a (option_or b c)
or_assoc None b c = refl
or_assoc (Some x) b c = refl

some_or : {T : Type 0} (a b : Option T) → is_some (option_or a b) ≡ is_some a || is_some b
some_or None b = refl
some_or (Some x) b = refl

some_less : (a b : Option ℤ) (there : Bool) → is_some a ≡ there → is_some b ≡ there → is_some (less a b) ≡ there
some_less None b there e f = e
some_less (Some x) None there e f = f
some_less (Some x) (Some y) there e f = f

module _ {X : Type 0} (amount_in : X → Option ℤ) where
  pub last-append : (xs ys : List X) → last amount_in (xs ++ ys) ≡ option_or (last amount_in ys) (last amount_in xs)
  last-append [] ys = sym (or_none (last amount_in ys))
  last-append (x ∷ xs) ys =
      ap (λ o. option_or o (amount_in x)) (last-append xs ys) ∙ or_assoc (last amount_in ys) (last amount_in xs) (amount_in x)

  first_some : (xs : List X) → is_some (first amount_in xs) ≡ list_any (λ x. is_some (amount_in x)) xs
  first_some [] = refl
  first_some (x ∷ xs) = some_or (amount_in x) (first amount_in xs) ∙ ap (λ b. is_some (amount_in x) || b) (first_some xs)

  last_some : (xs : List X) → is_some (last amount_in xs) ≡ list_any (λ x. is_some (amount_in x)) xs
  last_some [] = refl
  last_some (x ∷ xs) =
      some_or (last amount_in xs) (amount_in x) ∙ ap (λ b. b || is_some (amount_in x)) (last_some xs)
      ∙ or_comm (list_any (λ x. is_some (amount_in x)) xs) (is_some (amount_in x))

  -- there is a usage where some row has an amount
  pub usage_some : (xs : List X) → is_some (usage_by amount_in xs) ≡ list_any (λ x. is_some (amount_in x)) xs
  usage_some xs = some_less (last amount_in xs) (first amount_in xs) _ (last_some xs) (first_some xs)

  first_removed : (xs : List X) (i : ℕ) (d : X) → i < length xs → amount_in (get_or xs i d) ≡ None
      → first amount_in (remove xs i) ≡ first amount_in xs
  first_removed [] i d lt e = absurd (omega arith)
  first_removed (x ∷ xs) zero d lt e = sym (ap (λ o. option_or o (first amount_in xs)) e)
  first_removed (x ∷ xs) (suc i) d lt e = ap (option_or (amount_in x)) (first_removed xs i d (omega arith) e)

  last_removed : (xs : List X) (i : ℕ) (d : X) → i < length xs → amount_in (get_or xs i d) ≡ None
      → last amount_in (remove xs i) ≡ last amount_in xs
  last_removed [] i d lt e = absurd (omega arith)
  last_removed (x ∷ xs) zero d lt e = sym (ap (option_or (last amount_in xs)) e ∙ or_none (last amount_in xs))
  last_removed (x ∷ xs) (suc i) d lt e = ap (λ o. option_or o (amount_in x)) (last_removed xs i d (omega arith) e)

  -- a row that has no amount makes no difference
  pub usage_removed : (xs : List X) (i : ℕ) (d : X) → i < length xs → amount_in (get_or xs i d) ≡ None
      → usage_by amount_in (remove xs i) ≡ usage_by amount_in xs
  usage_removed xs i d lt e =
      ap (less (last amount_in (remove xs i))) (first_removed xs i d lt e)
      ∙ ap (λ o. less o (first amount_in xs)) (last_removed xs i d lt e)
