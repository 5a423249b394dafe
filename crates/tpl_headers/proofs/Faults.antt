-- Each fault is that of the bytes, and bytes with a fault give it.
use Rattle.std.proofs.Common.{◌≡◌, ℕ, ◌+◌, ◌↔◌, eqb, ◌||◌, List, [], ◌∷◌, length, drop, Option, Some, None, option_map, Result, Err, refl, sym, ap, subst, ◌∙◌, eq-eqb, arith, inl, inr}
use Rattle.std.specs.Prelude.{ok_or}
use Rattle.std.specs.Int.{w16, from_le_bytes}
use Rattle.std.proofs.lemmas.Bool.{eqb-true, false_from_ne_true}
use Rattle.lists.proofs.Choices.{chosen}
use Rattle.tpl_headers.specs.declared.header.Tpl.{Tpl}
use Rattle.tpl_headers.specs.declared.header.TplFault.{TplFault}
use Rattle.tpl_headers.specs.declared.header.TplFault.TheVariants.{Truncated, Unbuilt}
use Rattle.tpl_headers.specs.Configuration.{mode_of}
use Rattle.tpl_headers.specs.Header.{IsShortCi, IsLongCi, IsCutTail, IsCutOff, IsTplFault, cfe_at, tail_at, address_at, with_tail, short_at, long_at, tpl_at}
use Rattle.tpl_headers.proofs.Headers.{either_is, either_true, short_test}

abbrev no_header : TplFault → Result Tpl TplFault
no_header f = Err f

map_none : {A B : Type 0} (f : A → B) (o : Option A) → option_map f o ≡ None → o ≡ None
map_none f None e = refl
map_none f (Some x) e = absurd cc

ok_or_err : (o : Option Tpl) (d f : TplFault) → ok_or o d ≡ Err f → (o ≡ None) × (d ≡ f)
ok_or_err None d f e = (refl, cc)
ok_or_err (Some t) d f e = absurd cc

-- ---- the tail

tail_cut : (tail : List ℕ) → tail_at tail ≡ None → IsCutTail tail
unfolding tail_at cfe_at
tail_cut [] e = inl (omega arith)
tail_cut (a ∷ []) e = inl (omega arith)
tail_cut (a ∷ s ∷ []) e = inl (omega arith)
tail_cut (a ∷ s ∷ l ∷ []) e = inl (omega arith)
tail_cut (a ∷ s ∷ l ∷ h ∷ []) e =
    let cf : ℕ = from_le_bytes w16 (l ∷ h ∷ []) in
    elim (chosen (eqb (mode_of cf) 7) _ _ _ (map_none _ (cfe_at cf []) e)) [
      | inl seven ↦ inr (refl, eqb-true _ _ seven.0)
      | inr other ↦ absurd (cc other.1)
    ]
tail_cut (a ∷ s ∷ l ∷ h ∷ x ∷ rest) e =
    let cf : ℕ = from_le_bytes w16 (l ∷ h ∷ []) in
    elim (chosen (eqb (mode_of cf) 7) _ _ _ (map_none _ (cfe_at cf (x ∷ rest)) e)) [
      | inl seven ↦ absurd (cc seven.1)
      | inr other ↦ absurd (cc other.1)
    ]

tail_none : (tail : List ℕ) → IsCutTail tail → tail_at tail ≡ None
unfolding tail_at cfe_at
tail_none [] cut = refl
tail_none (a ∷ []) cut = refl
tail_none (a ∷ s ∷ []) cut = refl
tail_none (a ∷ s ∷ l ∷ []) cut = refl
tail_none (a ∷ s ∷ l ∷ h ∷ []) (inl few) = absurd (omega (arith, few))
tail_none (a ∷ s ∷ l ∷ h ∷ []) (inr seven) = rw (eq-eqb _ _ seven.1) refl
tail_none (a ∷ s ∷ l ∷ h ∷ x ∷ rest) (inl few) = absurd (omega (arith, few))
tail_none (a ∷ s ∷ l ∷ h ∷ x ∷ rest) (inr seven) = absurd (omega (arith, seven.0))

-- ---- the header behind its CI

short_cut : (ci : ℕ) (rest : List ℕ) → short_at ci rest ≡ None → IsCutTail rest
unfolding short_at
short_cut ci rest e = tail_cut rest (map_none _ (tail_at rest) e)

short_none : (ci : ℕ) (rest : List ℕ) → IsCutTail rest → short_at ci rest ≡ None
unfolding short_at
short_none ci rest cut = ap (option_map (with_tail ci None 1)) (tail_none rest cut)

long_cut : (ci : ℕ) (rest : List ℕ) → long_at ci rest ≡ None → IsCutTail (drop 8 rest)
unfolding long_at address_at
long_cut ci [] e = inl (omega arith)
long_cut ci (i ∷ []) e = inl (omega arith)
long_cut ci (i ∷ j ∷ []) e = inl (omega arith)
long_cut ci (i ∷ j ∷ k ∷ []) e = inl (omega arith)
long_cut ci (i ∷ j ∷ k ∷ l ∷ []) e = inl (omega arith)
long_cut ci (i ∷ j ∷ k ∷ l ∷ m ∷ []) e = inl (omega arith)
long_cut ci (i ∷ j ∷ k ∷ l ∷ m ∷ n ∷ []) e = inl (omega arith)
long_cut ci (i ∷ j ∷ k ∷ l ∷ m ∷ n ∷ v ∷ []) e = inl (omega arith)
long_cut ci (i ∷ j ∷ k ∷ l ∷ m ∷ n ∷ v ∷ d ∷ rest) e = tail_cut rest (map_none _ (tail_at rest) e)

long_none : (ci : ℕ) (rest : List ℕ) → IsCutTail (drop 8 rest) → long_at ci rest ≡ None
unfolding long_at address_at
long_none ci [] cut = refl
long_none ci (i ∷ []) cut = refl
long_none ci (i ∷ j ∷ []) cut = refl
long_none ci (i ∷ j ∷ k ∷ []) cut = refl
long_none ci (i ∷ j ∷ k ∷ l ∷ []) cut = refl
long_none ci (i ∷ j ∷ k ∷ l ∷ m ∷ []) cut = refl
long_none ci (i ∷ j ∷ k ∷ l ∷ m ∷ n ∷ []) cut = refl
long_none ci (i ∷ j ∷ k ∷ l ∷ m ∷ n ∷ v ∷ []) cut = refl
long_none ci (i ∷ j ∷ k ∷ l ∷ m ∷ n ∷ v ∷ d ∷ rest) cut = rw (tail_none rest cut) refl

-- ---- the fault

fault_found : (bytes : List ℕ) (f : TplFault) → tpl_at bytes ≡ Err f → IsTplFault bytes f
unfolding tpl_at
fault_found [] f e = let same : Truncated 0 ≡ f = cc in subst (IsTplFault []) same (tt, refl)
fault_found (ci ∷ rest) f e =
    let cut_off : TplFault = Truncated (1 + length rest) in
    elim (chosen (eqb ci 0x7A || eqb ci 0x8A) _ _ _ e) [
      | inl short ↦
          let none = ok_or_err (short_at ci rest) cut_off f short.1 in
          subst (IsTplFault (ci ∷ rest)) none.1 (inl (either_is ci 0x7A 0x8A short.0, short_cut ci rest none.0), omega arith)
      | inr others ↦
          elim (chosen (eqb ci 0x72 || eqb ci 0x8B) _ _ _ others.1) [
            | inl long ↦
                let none = ok_or_err (long_at ci rest) cut_off f long.1 in
                subst (IsTplFault (ci ∷ rest)) none.1 (inr (either_is ci 0x72 0x8B long.0, long_cut ci rest none.0), omega arith)
            | inr neither ↦
                let same : Unbuilt ci ≡ f = cc neither.1 in
                subst (IsTplFault (ci ∷ rest)) same (
                  refl,
                  λ short. absurd (cc (either_true ci 0x7A 0x8A short, others.0)),
                  λ long. absurd (cc (either_true ci 0x72 0x8B long, neither.0)),
                )
          ]
    ]

truncated : (ci : ℕ) (rest : List ℕ) → IsCutOff (ci ∷ rest) → tpl_at (ci ∷ rest) ≡ Err (Truncated (1 + length rest))
unfolding tpl_at
truncated ci rest (inl short) = rw (either_true ci 0x7A 0x8A short.0, short_none ci rest short.1) refl
truncated ci rest (inr long) = rw (short_test ci long.0, either_true ci 0x72 0x8B long.0, long_none ci rest long.1) refl

unbuilt : (ci : ℕ) (rest : List ℕ) → (¬ IsShortCi ci) → (¬ IsLongCi ci) → tpl_at (ci ∷ rest) ≡ Err (Unbuilt ci)
unfolding tpl_at
unbuilt ci rest short long =
    rw (false_from_ne_true _ (λ t. short (either_is ci 0x7A 0x8A t)), false_from_ne_true _ (λ t. long (either_is ci 0x72 0x8B t))) refl

fault_again : (bytes : List ℕ) (f : TplFault) → IsTplFault bytes f → tpl_at bytes ≡ Err f
unfolding tpl_at
fault_again [] (Truncated n) h = ap (λ (x : ℕ). no_header (Truncated x)) (sym h.1)
fault_again [] (Unbuilt ci) h = absurd cc
fault_again (b ∷ rest) (Truncated n) h =
    let all : 1 + length rest ≡ n = omega (arith, h.1) in
    truncated b rest h.0 ∙ ap (λ (x : ℕ). no_header (Truncated x)) all
fault_again (b ∷ rest) (Unbuilt ci) h =
    let same : b ≡ ci = cc h.0 in
    rw same (unbuilt ci rest h.1 h.2)

pub faults : (bytes : List ℕ) (f : TplFault) → (tpl_at bytes ≡ Err f) ↔ IsTplFault bytes f
faults bytes f = (fault_found bytes f, fault_again bytes f)

pub is_fault : (bytes : List ℕ) (r : Result Tpl TplFault) → r ≡ tpl_at bytes → (f : TplFault) → (r ≡ Err f) ↔ IsTplFault bytes f
is_fault bytes r h f = (λ e. fault_found bytes f (sym h ∙ e), λ is. h ∙ fault_again bytes f is)
