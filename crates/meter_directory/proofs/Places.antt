-- Places of addresses in a list.
use Rattle.std.proofs.Common.{◌≡◌, ℕ, zero, suc, ◌+◌, ◌<◌, ◌==◌, ◌||◌, List, [], ◌∷◌, ◌++◌, Bool, false, cond, length, take, get_or}
use Rattle.std.proofs.Common.{refl, ap, sym, ◌∙◌, arith}
use Rattle.std.specs.List.{list_any}
use Rattle.std.proofs.lemmas.Bool.{both_ways, false_from_ne_true}
use Rattle.std.proofs.lemmas.List.Folds.{list_any_at}
use Rattle.std.proofs.lemmas.List.{take_more}
use Rattle.meter_address.specs.declared.address.Address.{Address}
use Rattle.meter_address.specs.Address.{AreApart}

-- where none passes the test, that at a place doesn't
pub none_at : {X : Type 0} (p : X → Bool) (xs : List X) (i : ℕ) (d : X) → list_any p xs ≡ false → i < length xs → p (get_or xs i d) ≡ false
none_at p xs i d h within = false_from_ne_true (p (get_or xs i d)) (λ e. both_ways (list_any p xs) h (list_any_at p xs i d within e))

-- an address is none of those in front of it
new_at : (xs : List Address) (i : ℕ) (d : Address) → AreApart xs → i < length xs
    → list_any (λ b. (get_or xs i d).0 == b.0) (take i xs) ≡ false
new_at [] i d apart within = absurd (omega arith)
new_at (x ∷ xs) zero d apart within = refl
new_at (x ∷ xs) (suc i) d apart within =
    ap (λ t. t || list_any (λ b. (get_or xs i d).0 == b.0) (take i xs)) (none_at (λ (b : Address). b.0 == x.0) xs i d apart.0 (omega arith))
    ∙ new_at xs i d apart.1 (omega arith)

pub next_key : (xs keys new : List Address) (i : ℕ) (d : Address) → AreApart xs → i < length xs → keys ≡ take i xs
    → new ≡ cond (list_any (λ b. (get_or xs i d).0 == b.0) keys) keys (keys ++ get_or xs i d ∷ []) → new ≡ take (i + 1) xs
next_key xs keys new i d apart within is made =
    let a = get_or xs i d in
    made ∙ ap (λ ks. cond (list_any (λ b. a.0 == b.0) ks) ks (ks ++ a ∷ [])) is
    ∙ ap (λ t. cond t (take i xs) (take i xs ++ a ∷ [])) (new_at xs i d apart within) ∙ sym (take_more xs i d within)
