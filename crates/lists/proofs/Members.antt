-- Facts on the members of a list, and of two lists that are as long.
use Rattle.std.proofs.Common.{◌≡◌, ℕ, ◌+◌, ◌<◌, suc, List, [], ◌∷◌, ◌++◌, length, take, get_or, sym, ap, ◌∙◌, subst, refl}
use Rattle.std.proofs.Math.Seq.{take-length}
use Rattle.std.proofs.lemmas.List.{take_more}
use Rattle.lists.specs.Each.{Each, EachWith}

module _ {A : Type 0} where
  pub each_map : (P Q : A → Type 0) → ((x : A) → P x → Q x) → (xs : List A) → Each P xs → Each Q xs
  each_map P Q f [] h = tt
  each_map P Q f (x ∷ xs) h = (f x h.0, each_map P Q f xs h.1)

  pub each_both : (P Q R : A → Type 0) → ((x : A) → P x → Q x → R x) → (xs : List A) → Each P xs → Each Q xs → Each R xs
  each_both P Q R f [] h k = tt
  each_both P Q R f (x ∷ xs) h k = (f x h.0 k.0, each_both P Q R f xs h.1 k.1)

  pub each_append : (P : A → Type 0) (xs ys : List A) → Each P xs → Each P ys → Each P (xs ++ ys)
  each_append P [] ys h k = k
  each_append P (x ∷ xs) ys h k = (h.0, each_append P xs ys h.1 k)

  pub each_push : (P : A → Type 0) (xs : List A) (x : A) → Each P xs → P x → Each P (xs ++ x ∷ [])
  each_push P xs x h k = each_append P xs (x ∷ []) h (k, tt)

  -- one more of those at the front
  pub each_more : (P : A → Type 0) (xs : List A) (i : ℕ) (x d : A) → Each P (take i xs) → i < length xs → x ≡ get_or xs i d → P x
      → Each P (take (i + 1) xs)
  each_more P xs i x d h inside is k =
      subst (Each P) (ap (λ y. take i xs ++ y ∷ []) is ∙ sym (take_more xs i d inside)) (each_push P (take i xs) x h k)

  pub each_whole : (P : A → Type 0) (xs : List A) (n : ℕ) → n ≡ length xs → Each P (take n xs) → Each P xs
  each_whole P xs n e h = subst (Each P) (ap (λ m. take m xs) e ∙ take-length xs) h

module _ {A B : Type 0} where
  -- two lists with a fact on each pair, from the last pair to the first
  pub with_fold : (P : A → B → Type 0) (Q : List A → List B → Type 0) → Q [] []
      → ((x : A) (y : B) (xs : List A) (ys : List B) → P x y → EachWith P xs ys → Q xs ys → Q (x ∷ xs) (y ∷ ys))
      → (xs : List A) (ys : List B) → EachWith P xs ys → Q xs ys
  with_fold P Q none one [] [] h = none
  with_fold P Q none one [] (y ∷ ys) h = absurd h
  with_fold P Q none one (x ∷ xs) [] h = absurd h
  with_fold P Q none one (x ∷ xs) (y ∷ ys) h = one x y xs ys h.0 h.1 (with_fold P Q none one xs ys h.1)

  pub with_length : (P : A → B → Type 0) (xs : List A) (ys : List B) → EachWith P xs ys → length ys ≡ length xs
  with_length P = with_fold P (λ xs ys. length ys ≡ length xs) refl (λ x y xs ys h k as_many. ap suc as_many)

  pub with_map : (P Q : A → B → Type 0) → ((x : A) (y : B) → P x y → Q x y) → (xs : List A) (ys : List B) → EachWith P xs ys → EachWith Q xs ys
  with_map P Q f = with_fold P (EachWith Q) tt (λ x y xs ys h k rest. (f x y h, rest))

  pub with_push : (P : A → B → Type 0) (xs : List A) (ys : List B) (x : A) (y : B) → EachWith P xs ys → P x y
      → EachWith P (xs ++ x ∷ []) (ys ++ y ∷ [])
  with_push P xs ys x y h k =
      with_fold P (λ xs ys. EachWith P (xs ++ x ∷ []) (ys ++ y ∷ [])) (k, tt) (λ a b us vs one _ rest. (one, rest)) xs ys h
