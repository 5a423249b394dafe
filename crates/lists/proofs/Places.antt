-- What stands at a place of a list, and where the first member stands that passes a test.
use Rattle.std.proofs.Common.{◌≡◌, ℕ, ◌+◌, Bool, true, false, not, cond, ◌||◌, nat_lt, List, [], ◌∷◌, ◌++◌, length, map, reverse, get_or, refl, sym, ap, ◌∙◌, arith}
use Rattle.std.specs.List.{position_or_len, list_any}
use Rattle.std.proofs.Math.Seq.{get_or-append_seam}
use Rattle.std.proofs.lemmas.Bool.Decides.{nat_tests}
use Rattle.std.proofs.lemmas.List.{reverse-append, map-append}

module _ {A : Type 0} where
  pub head_is : (x y : A) (xs ys : List A) → x ∷ xs ≡ y ∷ ys → x ≡ y
  head_is x y xs ys e = cc

  pub tail_is : (x y : A) (xs ys : List A) → x ∷ xs ≡ y ∷ ys → xs ≡ ys
  tail_is x y xs ys e = cc

  pub at_seam : (xs : List A) (y : A) (k : ℕ) (d : A) → k ≡ length xs → get_or (xs ++ y ∷ []) k d ≡ y
  at_seam xs y k d e = ap (λ (z : ℕ). get_or (xs ++ y ∷ []) z d) e ∙ get_or-append_seam xs y [] d

  -- the first such member stands within the list just where there is one
  pub any_there : (p : A → Bool) (xs : List A) → nat_lt (position_or_len p xs) (length xs) ≡ list_any p xs
  any_there p [] = refl
  any_there p (x ∷ xs) = at (p x) refl (any_there p xs)
    where
      at : (b : Bool) → p x ≡ b → nat_lt (position_or_len p xs) (length xs) ≡ list_any p xs
          → nat_lt (position_or_len p (x ∷ xs)) (length (x ∷ xs)) ≡ list_any p (x ∷ xs)
      at true is h = ap (λ t. nat_lt (cond (not t) (1 + position_or_len p xs) 0) (length (x ∷ xs))) is
          ∙ ((let l : nat_lt 0 (length (x ∷ xs)) ≡ true = grind (arith, nat_tests) in l) ∙ ap (λ t. t || list_any p xs) (sym is))
      at false is h = ap (λ t. nat_lt (cond (not t) (1 + position_or_len p xs) 0) (length (x ∷ xs))) is
          ∙ ((let l : nat_lt (1 + position_or_len p xs) (length (x ∷ xs)) ≡ nat_lt (position_or_len p xs) (length xs) =
          grind (arith, nat_tests) in l) ∙ (h ∙ ap (λ t. t || list_any p xs) (sym is)))

pub map-reverse : {A B : Type 0} (f : A → B) (xs : List A) → map f (reverse xs) ≡ reverse (map f xs)
map-reverse f [] = refl
map-reverse f (x ∷ xs) =
    ap (map f) (reverse-append (x ∷ []) xs)
    ∙ (map-append f (reverse xs) (x ∷ []) ∙ (ap (λ ys. ys ++ f x ∷ []) (map-reverse f xs) ∙ sym (reverse-append (f x ∷ []) (map f xs))))
