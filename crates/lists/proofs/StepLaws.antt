-- Steps that didn't refuse.
use Rattle.std.proofs.Common.{◌≡◌, Result, Ok, Err, refl, ap, inl, inr, ◌⊎◌}
use Rattle.std.specs.Result.{result_map_both}
use Rattle.lists.specs.Steps.{◌>>=◌}

pub bind_ok : {A B E : Type 0} (r : Result A E) (f : A → Result B E) (y : B) → (r >>= f) ≡ Ok y → (x : A) × (r ≡ Ok x) × (f x ≡ Ok y)
bind_ok (Ok x) f y e = (x, refl, e)
bind_ok (Err d) f y e = absurd cc

pub map_both_ok : {A B E F : Type 0} (f : A → B) (g : E → F) (r : Result A E) (y : B) → result_map_both f g r ≡ Ok y → (x : A) × (r ≡ Ok x)
    × (f x ≡ y)
map_both_ok f g (Ok x) y e = (x, refl, cc)
map_both_ok f g (Err d) y e = absurd cc

pub bind_err : {A B E : Type 0} (r : Result A E) (f : A → Result B E) (e : E) → (r >>= f) ≡ Err e → (r ≡ Err e)
    ⊎ ((x : A) × (r ≡ Ok x) × (f x ≡ Err e))
bind_err (Ok x) f e h = inr (x, refl, h)
bind_err (Err d) f e h = let same : d ≡ e = cc in inl (ap Err same)

pub map_both_err : {A B E F : Type 0} (f : A → B) (g : E → F) (r : Result A E) (y : F) → result_map_both f g r ≡ Err y → (x : E)
    × (r ≡ Err x) × (g x ≡ y)
map_both_err f g (Ok x) y e = absurd cc
map_both_err f g (Err d) y e = (d, refl, cc)
