-- What is picked out of a list, and what is made of it.
use Rattle.std.proofs.Common.{◌≡◌, ℕ, ◌==◌, Bool, true, false, cond, List, [], ◌∷◌, map, filter, Option, Some, None, refl, ap, sym, ◌∙◌}
use Rattle.std.specs.Prelude.{option_map}
use Rattle.std.specs.List.{cons_option}
use Rattle.std.proofs.lemmas.Bool.{eqb-true}

module _ {A B : Type 0} where
  pub map_if : (f : A → B) (b : Bool) (x : A) (xs : List A) → map f (cond b (x ∷ xs) xs) ≡ cond b (f x ∷ map f xs) (map f xs)
  map_if f true x xs = refl
  map_if f false x xs = refl

  pub filter-map : (p : B → Bool) (f : A → B) (xs : List A) → filter p (map f xs) ≡ map f (filter (λ x. p (f x)) xs)
  filter-map p f [] = refl
  filter-map p f (x ∷ xs) = ap (λ ys. cond (p (f x)) (f x ∷ ys) ys) (filter-map p f xs)
      ∙ sym (map_if f (p (f x)) x (filter (λ y. p (f y)) xs))

  pub cons_map : (f : A → B) (o : Option A) (xs : List A) → map f (cons_option o xs) ≡ cons_option (option_map f o) (map f xs)
  cons_map f None xs = refl
  cons_map f (Some x) xs = refl

  -- one more, where it is picked, of those that are picked or are none
  pub picked_if : (f : A → B) (b : Bool) (x : A) (xs : List A) (ys : List B) → map f xs ≡ cond b ys []
      → map f (cond b (x ∷ xs) xs) ≡ cond b (f x ∷ ys) []
  picked_if f true x xs ys h = ap (λ l. f x ∷ l) h
  picked_if f false x xs ys h = h

-- what is made of one source's is made by it, where f makes of each what its source does
pub made_by_source : {A P : Type 0} (source : A → ℕ) (made : A → P) (f : A → A) (makes : ℕ → P → P)
    → ((x : A) → source (f x) ≡ source x) → ((x : A) → made (f x) ≡ makes (source x) (made x)) → (w : ℕ) (xs : List A)
    → map made (filter (λ x. source x == w) (map f xs)) ≡ map (makes w) (map made (filter (λ x. source x == w) xs))
made_by_source source made f makes same is w [] = refl
made_by_source {A} source made f makes same is w (x ∷ xs) =
    ap (λ n. map made (cond (n == w) (f x ∷ filter (λ y. source y == w) (map f xs)) (filter (λ y. source y == w) (map f xs)))) (same x)
    ∙ at (source x == w) refl (made_by_source source made f makes same is w xs)
  where
    at : (b : Bool) → (source x == w) ≡ b
        → map made (filter (λ y. source y == w) (map f xs)) ≡ map (makes w) (map made (filter (λ y. source y == w) xs))
        → map made (cond b (f x ∷ filter (λ y. source y == w) (map f xs)) (filter (λ y. source y == w) (map f xs))) ≡ map (makes w)
        (map made (cond b (x ∷ filter (λ y. source y == w) xs) (filter (λ y. source y == w) xs)))
    at true e h = λ i. (is x ∙ ap (λ n. makes n (made x)) (eqb-true (source x) w e)) i ∷ h i
    at false e h = h
