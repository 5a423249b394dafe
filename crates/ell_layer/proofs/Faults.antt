-- Each fault is that of the bytes, and bytes with a fault give it.
use Rattle.std.proofs.Common.{◌≡◌, ℕ, ◌↔◌, cond, eqb, ltb, List, [], ◌∷◌, length, get_or, Result, Ok, Err, refl, sym, ap, subst, ◌∙◌, arith, inl, inr}
use Rattle.std.specs.Prelude.{Some}
use Rattle.std.proofs.lemmas.Bool.{eqb-false, ltb-true, lt-ltb, ne_eqb}
use Rattle.lists.proofs.Choices.{chosen, guard_err}
use Rattle.lists.proofs.StepLaws.{bind_err}
use Rattle.ell_layer.specs.declared.extension.Ell.{Ell}
use Rattle.ell_layer.specs.declared.extension.EllFault.{EllFault}
use Rattle.ell_layer.specs.declared.extension.EllFault.TheVariants.{Truncated, Kind}
use Rattle.ell_layer.specs.Extension.{IsEllFault, header_len, ell_at}
use Rattle.ell_layer.proofs.Headers.{made, ci_of}

abbrev no_header : EllFault → Result Ell EllFault
no_header f = Err f

-- another CI is the fault
kind_is : (ci : ℕ) (rest : List ℕ) (f : EllFault) → header_len (ci ∷ rest) ≡ Err f → IsEllFault (ci ∷ rest) f
unfolding header_len
kind_is ci rest f e =
    elim (chosen (eqb ci 0x8C) _ _ _ e) [
      | inl short ↦ absurd (cc short.1)
      | inr others ↦
          elim (chosen (eqb ci 0x8E) _ _ _ others.1) [
            | inl long ↦ absurd (cc long.1)
            | inr neither ↦
                let same : Kind ci ≡ f = cc neither.1 in
                subst (IsEllFault (ci ∷ rest)) same (refl, eqb-false _ _ others.0, eqb-false _ _ neither.0)
          ]
    ]

fault_found : (bytes : List ℕ) (f : EllFault) → ell_at bytes ≡ Err f → IsEllFault bytes f
unfolding ell_at header_len
fault_found [] f e = let same : Truncated 0 ≡ f = cc in subst (IsEllFault []) same (inl refl, refl)
fault_found (ci ∷ rest) f e =
    let bytes : List ℕ = ci ∷ rest in
    elim (bind_err (header_len bytes) (λ n. cond (ltb (length bytes) n) (Err (Truncated (length bytes)))
    (Ok (made (get_or bytes 1 0) (get_or bytes 2 0) n))) f e) [
      | inl kind ↦ kind_is ci rest f kind
      | inr len ↦
          let cut = guard_err (ltb (length bytes) len.0) (Truncated (length bytes)) f _ len.2 in
          let few = ltb-true _ _ cut.0 in
          let off : IsEllFault bytes (Truncated (length bytes)) =
          elim (ci_of ci len.0 rest len.1) [
            | inl short ↦ (inr (inl (ap Some short.0, omega (arith, few, short.1))), refl)
            | inr long ↦ (inr (inr (ap Some long.0, omega (arith, few, long.1))), refl)
          ] in
          subst (IsEllFault bytes) cut.1 off
    ]

fault_again : (bytes : List ℕ) (f : EllFault) → IsEllFault bytes f → ell_at bytes ≡ Err f
unfolding ell_at header_len
fault_again [] (Truncated n) h = ap (λ (x : ℕ). no_header (Truncated x)) (sym h.1)
fault_again [] (Kind ci) h = absurd cc
fault_again (b ∷ rest) (Truncated n) h =
    elim h.0 [
      | inl none ↦ absurd (omega (arith, ap length none))
      | inr some ↦
          elim some [
            | inl short ↦
                let ci : b ≡ 0x8C = cc short.0 in
                rw (ci, lt-ltb (length (0x8C ∷ rest)) 3 short.1) (ap (λ (x : ℕ). no_header (Truncated x)) (sym h.1))
            | inr long ↦
                let ci : b ≡ 0x8E = cc long.0 in
                rw (ci, lt-ltb (length (0x8E ∷ rest)) 11 long.1) (ap (λ (x : ℕ). no_header (Truncated x)) (sym h.1))
          ]
    ]
fault_again (b ∷ rest) (Kind ci) h =
    let same : b ≡ ci = cc h.0 in
    rw (same, ne_eqb ci 0x8C h.1, ne_eqb ci 0x8E h.2) refl

pub faults : (bytes : List ℕ) (f : EllFault) → (ell_at bytes ≡ Err f) ↔ IsEllFault bytes f
faults bytes f = (fault_found bytes f, fault_again bytes f)

pub is_fault : (bytes : List ℕ) (r : Result Ell EllFault) → r ≡ ell_at bytes → (f : EllFault) → (r ≡ Err f) ↔ IsEllFault bytes f
is_fault bytes r h f = (λ e. fault_found bytes f (sym h ∙ e), λ is. h ∙ fault_again bytes f is)
