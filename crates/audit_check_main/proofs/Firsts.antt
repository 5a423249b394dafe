-- The first member that stops, where each one before it passes.
use Rattle.std.proofs.Common.{◌≡◌, ℕ, suc, ◌+◌, ◌<◌, List, [], ◌∷◌, ◌++◌, length, take, drop, get_or, ⊎_elim, inl, inr, sym, ap, ◌∙◌, subst, arith}
use Rattle.std.specs.List.{enumerate_from}
use Rattle.std.proofs.lemmas.List.{length-take-le}
use Rattle.std.proofs.Math.Seq.{split_at}
use Rattle.lists.specs.Each.{Each, PassUntil, IsFirst}

module _ {A : Type 0} (P Q : A → Type 0) where
  -- the member with a number, where the first one has the number n
  abbrev pub Stops : (n number : ℕ) → List A → Type 0
  Stops n number xs = PassUntil (λ (y : ℕ × A). P y.1) (λ (y : ℕ × A). (y.0 ≡ number) × Q y.1) (enumerate_from n xs)

  -- none stops of which each has what doesn't
  pub none_stops : (R : A → Type 0) → ((a : A) → R a → Q a → ⊥) → (n w : ℕ) (xs : List A) → Stops n w xs → Each R xs → ⊥
  none_stops R never n w [] h all = h
  none_stops R never n w (x ∷ xs) h all = ⊎_elim (λ stop. never x all.0 stop.1) (λ later. none_stops R never (n + 1) w xs later.1 all.1) h

  -- one member is the first
  pub one_stops : ((a : A) → P a → Q a → ⊥) → (n w v : ℕ) (xs : List A) → Stops n w xs → Stops n v xs → w ≡ v
  one_stops never n w v [] h k = absurd h
  one_stops never n w v (x ∷ xs) h k =
      ⊎_elim (λ stop. ⊎_elim (λ stops. sym stop.0 ∙ stops.0) (λ later. absurd (never x later.0 stop.1)) k)
      (λ later. ⊎_elim (λ stops. absurd (never x later.0 stops.1)) (λ laters. one_stops never (n + 1) w v xs later.1 laters.1) k) h

  -- one that stops behind those that pass
  pub stops_behind : (n m : ℕ) (xs : List A) (x : A) (ys : List A) → Each P xs → m ≡ n + length xs → Q x → Stops n m (xs ++ x ∷ ys)
  stops_behind n m [] x ys each e h = inl (omega arith, h)
  stops_behind n m (a ∷ xs) x ys each e h = inr (each.0, stops_behind (n + 1) m xs x ys each.1 (omega arith) h)

  -- the one at a place
  pub stops_at : (i : ℕ) (xs : List A) (x : A) → i < length xs → x ≡ get_or xs i x → Each P (take i xs) → Q x → IsFirst P Q (i + 1) xs
  stops_at i xs x inside is before stops =
      subst (λ l. Stops 1 (i + 1) l) (sym (split_at xs i x inside ∙ ap (λ y. take i xs ++ y ∷ drop (suc i) xs) (sym is)))
      (stops_behind 1 (i + 1) (take i xs) x (drop (suc i) xs) before (let l = length-take-le i xs (omega arith) in omega arith) stops)
