-- The sender of a message among all.
use Rattle.std.proofs.Common.{ℕ, suc, zero, ◌≡◌, ◌+◌, ◌<◌, ◌≤◌, take, Bool, true, false, cond, List, [], ◌∷◌, ◌++◌, map, length, get_or, position, slice_get, Option, Some, None, is_some, inl, inr, arith, refl, sym, ap, subst, ◌∙◌}
use Rattle.std.proofs.lemmas.Bool.{cases_Bool, cond-false, cond-true}
use Rattle.std.proofs.lemmas.List.{map-append, take_more, take_all, length-map}
use Rattle.std.proofs.lemmas.Option.{slice_get_within, get_or_from_slice_get}
use Rattle.std.proofs.lemmas.List.Quantifiers.{position-Some}
use Rattle.std.specs.Str.{bytes_eq}
use Rattle.std.specs.Map.{keys_of, values_of, lookup}
use Rattle.indexmap.specs.Layout.{set_value_at}
use Rattle.line_accept.specs.declared.fence.Numbered.{Numbered}
use Rattle.line_accept.specs.declared.fence.Fence.{Fence}
use Rattle.line_accept.specs.declared.fence.Answer.{Answer}
use Rattle.line_accept.specs.declared.fence.Answer.TheVariants.{Unknown}
use Rattle.line_accept.specs.Fences.{answer_of, passed}
use Rattle.line_accept.specs.Senders.{Sender, fence_of, answer_by, answer_in, passed_in}

-- the senders of entries whose keys have these names
module _ {K : Type 0} (items : K → List ℕ) (name : List ℕ) (m : Numbered) where
  abbrev pub kept : List (K × Fence) → List Sender
  kept es = map (λ (e : K × Fence). record { name = items e.0; fence = e.1 }) es

  abbrev pub is_own : K → Bool
  is_own k = bytes_eq name (items k)

  pub fence_is : (es : List (K × Fence)) → fence_of name (kept es) ≡ lookup is_own es
  unfolding fence_of
  fence_is [] = refl
  fence_is (e ∷ es) = ap (λ (r : Option Fence). cond (is_own e.0) (Some e.1) r) (fence_is es)

  -- ---- no sender has the name

  none_stays : (es : List (K × Fence)) → lookup is_own es ≡ None → kept es ≡ passed_in (kept es) name m
  unfolding passed_in
  none_stays [] none = refl
  none_stays (e ∷ es) none = elim (cases_Bool (is_own e.0)) [
    | inl own ↦ absurd (let found : Some e.1 ≡ None = sym (cond-true (is_own e.0) (Some e.1) (lookup is_own es) own) ∙ none in cc)
    | inr other ↦
        let later = none_stays es (sym (cond-false (is_own e.0) (Some e.1) (lookup is_own es) other) ∙ none) in
        rw other (ap (λ (xs : List Sender). record { name = items e.0; fence = e.1 } ∷ xs) later)
  ]

  -- ---- the first one that has it

  first_by : (d : K) (f : Fence) (es : List (K × Fence)) (i : ℕ) → i < length (keys_of es) → is_own (get_or (keys_of es) i d) ≡ true
      → ((k : ℕ) → k < i → is_own (get_or (keys_of es) k d) ≡ false) → slice_get (values_of es) i ≡ Some f
      → kept (set_value_at es i (passed f m)) ≡ passed_in (kept es) name m
  unfolding passed_in
  first_by d f [] i within here before at = absurd (omega (arith, within))
  first_by d f (e ∷ es) zero within here before at =
      let is : e.1 ≡ f = (let same : Some e.1 ≡ Some f = at in cc) in
      rw here (ap (λ (g : Fence). record { name = items e.0; fence = passed g m } ∷ kept es) (sym is))
  first_by d f (e ∷ es) (suc i) within here before at =
      rw (before 0 (omega arith)) (ap (λ (xs : List Sender). record { name = items e.0; fence = e.1 } ∷ xs)
      (first_by d f es i (omega (arith, within)) here (λ k less. before (suc k) (omega (arith, less))) at))

  first_passed : (f : Fence) (es : List (K × Fence)) (i : ℕ) → position is_own (keys_of es) ≡ Some i → slice_get (values_of es) i ≡ Some f
      → kept (set_value_at es i (passed f m)) ≡ passed_in (kept es) name m
  first_passed f [] i found at = absurd (let no : None ≡ Some i = found in cc)
  first_passed f (e ∷ es) i found at =
      let p = position-Some is_own (keys_of (e ∷ es)) i e.0 found in
      first_by e.0 f (e ∷ es) i p.0 p.1 p.2 at

  -- ---- the call, over senders that are kept by these entries

  module _ (es : List (K × Fence)) (now : List Sender) (view : kept es ≡ now) where
    here : fence_of name now ≡ lookup is_own es
    here = ap (fence_of name) (sym view) ∙ fence_is es

    pub known_is : (known : Bool) → known ≡ is_some (lookup is_own es) → known ≡ is_some (fence_of name now)
    known_is known is = is ∙ sym (ap (λ (o : Option Fence). is_some o) here)

    pub unknown : fence_of name now ≡ None → lookup is_own es ≡ None
    unknown none = sym here ∙ none

    no_fence : false ≡ is_some (lookup is_own es) → lookup is_own es ≡ None
    no_fence none = by (lookup is_own es) none
      where
        by : (r : Option Fence) → false ≡ is_some r → r ≡ None
        by None h = refl
        by (Some f) h = absurd (let no : false ≡ true = h in cc)

    pub none_answered : false ≡ is_some (lookup is_own es) → Unknown ≡ answer_in now name m
    unfolding answer_in
    none_answered none = sym (ap (λ (o : Option Fence). answer_by o m) (here ∙ no_fence none))

    pub none_passed : false ≡ is_some (lookup is_own es) → now ≡ passed_in now name m
    none_passed none = subst (λ (ss : List Sender). ss ≡ passed_in ss name m) view (none_stays es (no_fence none))

    pub one_answered : (i : ℕ) (f : Fence) → slice_get (values_of es) i ≡ Some f → slice_get (values_of es) i ≡ lookup is_own es
        → (a : Answer) → a ≡ answer_of f m → a ≡ answer_in now name m
    unfolding answer_in
    one_answered i f at found a is = is ∙ sym (ap (λ (o : Option Fence). answer_by o m) (here ∙ sym found ∙ at))

    pub one_passed : (i : ℕ) (f g : Fence) → Some i ≡ position is_own (keys_of es) → slice_get (values_of es) i ≡ Some f
        → g ≡ passed f m → kept (set_value_at es i g) ≡ passed_in now name m
    one_passed i f g place at is =
        ap (λ (h : Fence). kept (set_value_at es i h)) is ∙ first_passed f es i (sym place) at
        ∙ ap (λ (ss : List Sender). passed_in ss name m) view

-- one entry more
pub one_more : {K : Type 0} (items : K → List ℕ) (es new : List (K × Fence)) (now : List Sender) (k : K) (f : Fence)
    → map (λ (e : K × Fence). record { name = items e.0; fence = e.1 }) es ≡ now → new ≡ es ++ (k, f) ∷ []
    → map (λ (e : K × Fence). record { name = items e.0; fence = e.1 }) new ≡ now ++ record { name = items k; fence = f } ∷ []
one_more {K} items es new now k f view is =
    ap (map (λ (e : K × Fence). record { name = items e.0; fence = e.1 })) is
    ∙ map-append (λ (e : K × Fence). record { name = items e.0; fence = e.1 }) es ((k, f) ∷ [])
    ∙ ap (λ (ss : List Sender). ss ++ record { name = items k; fence = f } ∷ []) view

-- ---- all fences

fences_are : {K : Type 0} (items : K → List ℕ) (es : List (K × Fence))
    → values_of es ≡ map (λ (s : Sender). s.fence) (map (λ (e : K × Fence). record { name = items e.0; fence = e.1 }) es)
fences_are items [] = refl
fences_are items (e ∷ es) = ap (λ (fs : List Fence). e.1 ∷ fs) (fences_are items es)

-- one fence more
pub fence_more : (fs xs ys : List Fence) (i : ℕ) (f : Fence) → xs ≡ take i fs → slice_get fs i ≡ Some f → ys ≡ xs ++ f ∷ []
    → ys ≡ take (i + 1) fs
fence_more fs xs ys i f are at more =
    more ∙ ap (λ (t : List Fence). t ++ f ∷ []) are
    ∙ ap (λ (g : Fence). take i fs ++ g ∷ []) (sym (get_or_from_slice_get fs i f f at)) ∙ sym (take_more fs i f (slice_get_within fs i f at))

pub fences_end : {K : Type 0} (items : K → List ℕ) (es : List (K × Fence)) (now : List Sender) (xs : List Fence) (i : ℕ)
    → map (λ (e : K × Fence). record { name = items e.0; fence = e.1 }) es ≡ now → xs ≡ take i (values_of es) → length es ≤ i
    → xs ≡ map (λ (s : Sender). s.fence) now
fences_end {K} items es now xs i view are all =
    let many : length (values_of es) ≤ i = omega (arith, length-map es (λ (e : K × Fence). e.1), all) in
    are ∙ take_all i (values_of es) many ∙ fences_are items es ∙ ap (map (λ (s : Sender). s.fence)) view
