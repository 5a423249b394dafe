-- What holds of each refusal of a chain of steps, by what each of its steps refuses.
use Rattle.std.proofs.Common.{◌≡◌, Bool, true, false, cond, Result, Ok, Err, refl, subst}
use Rattle.std.specs.Result.{result_map_both}
use Rattle.lists.specs.Steps.{◌>>=◌}

module _ {E : Type 0} (P : E → Type 0) where
  same : (d e : E) → d ≡ e → P d → P e
  same d e is h = subst P is h

  -- a step, and those behind it
  pub of_steps : {A B : Type 0} (r : Result A E) (f : A → Result B E) (e : E) → (r >>= f) ≡ Err e → ((d : E) → r ≡ Err d → P d)
      → ((x : A) → r ≡ Ok x → f x ≡ Err e → P e) → P e
  of_steps (Ok x) f e h first behind = behind x refl h
  of_steps (Err d) f e h first behind = same d e (cc) (first d refl)

  -- the last step, behind which nothing refuses
  pub of_last : {A B : Type 0} (r : Result A E) (f : A → B) (e : E) → (r >>= (λ x. Ok (f x))) ≡ Err e → ((d : E) → r ≡ Err d → P d) → P e
  of_last r f e h first = of_steps r (λ x. Ok (f x)) e h first (λ x _ passed. absurd (cc passed))

  -- a test without which there is a refusal
  pub of_test : {A : Type 0} (b : Bool) (d e : E) (x : A) → cond b (Ok x) (Err d) ≡ Err e → (b ≡ false → P d) → P e
  of_test true d e x h why = absurd cc
  of_test false d e x h why = same d e (cc) (why refl)

  -- a test that refuses
  pub of_fault : {A : Type 0} (b : Bool) (d e : E) (x : A) → cond b (Err d) (Ok x) ≡ Err e → (b ≡ true → P d) → P e
  of_fault true d e x h why = same d e (cc) (why refl)
  of_fault false d e x h why = absurd cc

  -- a fault by another name
  pub of_map : {A B F : Type 0} (f : A → B) (g : F → E) (r : Result A F) (e : E) → result_map_both f g r ≡ Err e
      → ((d : F) → r ≡ Err d → P (g d)) → P e
  of_map f g (Ok x) e h why = absurd cc
  of_map f g (Err d) e h why = same (g d) e (cc) (why d refl)
