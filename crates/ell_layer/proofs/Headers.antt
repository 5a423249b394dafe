-- What is read is spelled so, and what is spelled so is read.
use Rattle.std.proofs.Common.{◌≡◌, ℕ, suc, ◌≤◌, ◌⊎◌, cond, eqb, ltb, List, [], ◌∷◌, ◌++◌, length, get_or, take, drop, Result, Ok, Err, refl, sym, ap, subst, ◌∙◌, arith, inl, inr}
use Rattle.std.specs.Prelude.{IfOk}
use Rattle.std.proofs.lemmas.Bool.{eqb-true, ltb-false, le-ltb}
use Rattle.std.proofs.lemmas.List.{take-append-drop, length-append, length-take}
use Rattle.lists.proofs.Choices.{chosen, guard_ok}
use Rattle.lists.proofs.StepLaws.{bind_ok}
use Rattle.ell_layer.specs.declared.extension.Ell.{Ell}
use Rattle.ell_layer.specs.declared.extension.EllFault.{EllFault}
use Rattle.ell_layer.specs.declared.extension.EllFault.TheVariants.{Truncated}
use Rattle.ell_layer.specs.Access.{access_in}
use Rattle.ell_layer.specs.Extension.{BeginsWithEll, header_len, ell_at}

-- the header with this control and access number
abbrev pub made : ℕ → ℕ → ℕ → Ell
made control acc len = record { access = access_in control; acc = acc; len = len }

abbrev read : Ell → Result Ell EllFault
read e = Ok e

-- the CI that goes with a length
pub ci_of : (ci n : ℕ) (rest : List ℕ) → header_len (ci ∷ rest) ≡ Ok n → ((ci ≡ 0x8C) × (n ≡ 3)) ⊎ ((ci ≡ 0x8E) × (n ≡ 11))
unfolding header_len
ci_of ci n rest e =
    elim (chosen (eqb ci 0x8C) _ _ _ e) [
      | inl short ↦ inl (eqb-true _ _ short.0, cc short.1)
      | inr others ↦
          elim (chosen (eqb ci 0x8E) _ _ _ others.1) [
            | inl long ↦ inr (eqb-true _ _ long.0, cc long.1)
            | inr neither ↦ absurd (cc neither.1)
          ]
    ]

short_takes : (bytes : List ℕ) (e : Ell) → 3 ≤ length bytes → made (get_or bytes 1 0) (get_or bytes 2 0) 3 ≡ e → get_or bytes 0 0 ≡ 0x8C
    → BeginsWithEll bytes e
short_takes [] e long same ci = absurd (omega arith)
short_takes (a ∷ []) e long same ci = absurd (omega arith)
short_takes (a ∷ b ∷ []) e long same ci = absurd (omega arith)
short_takes (a ∷ b ∷ c ∷ rest) e long same ci =
    subst (BeginsWithEll (a ∷ b ∷ c ∷ rest)) same (record {
      header = a ∷ b ∷ c ∷ [];
      rest = rest;
      parts = refl;
      len = refl;
      spelt = inl (record { control = b; bytes = ap (λ (x : ℕ). x ∷ b ∷ c ∷ []) ci; access = refl });
    })

long_takes : (bytes : List ℕ) (e : Ell) → 11 ≤ length bytes → made (get_or bytes 1 0) (get_or bytes 2 0) 11 ≡ e → get_or bytes 0 0 ≡ 0x8E
    → BeginsWithEll bytes e
long_takes [] e long same ci = absurd (omega arith)
long_takes (a ∷ []) e long same ci = absurd (omega arith)
long_takes (a ∷ b ∷ []) e long same ci = absurd (omega arith)
long_takes (a ∷ b ∷ c ∷ rest) e long same ci =
    let eight : length (take 8 rest) ≡ 8 = omega (arith, length-take 8 rest) in
    subst (BeginsWithEll (a ∷ b ∷ c ∷ rest)) same (record {
      header = a ∷ b ∷ c ∷ take 8 rest;
      rest = drop 8 rest;
      parts = ap (λ (x : List ℕ). a ∷ b ∷ c ∷ x) (sym (take-append-drop 8 rest));
      len = omega (arith, eight);
      spelt = inr (record {
        control = b;
        address = take 8 rest;
        eight = eight;
        bytes = ap (λ (x : ℕ). x ∷ b ∷ c ∷ take 8 rest) ci;
        access = refl;
      });
    })

-- what is read is spelled so
pub takes : (bytes : List ℕ) (e : Ell) → ell_at bytes ≡ Ok e → BeginsWithEll bytes e
unfolding ell_at header_len
takes [] e h = absurd cc
takes (ci ∷ rest) e h =
    let bytes : List ℕ = ci ∷ rest in
    let len =
    bind_ok (header_len bytes) (λ n. cond (ltb (length bytes) n) (Err (Truncated (length bytes)))
    (Ok (made (get_or bytes 1 0) (get_or bytes 2 0) n))) e h in
    let enough = guard_ok (ltb (length bytes) len.0) (Truncated (length bytes)) _ e len.2 in
    let long = ltb-false _ _ enough.0 in
    let same : made (get_or bytes 1 0) (get_or bytes 2 0) len.0 ≡ e = cc enough.1 in
    elim (ci_of ci len.0 rest len.1) [
      | inl short ↦ short_takes bytes e (omega arith) (ap (made (get_or bytes 1 0) (get_or bytes 2 0)) (sym short.1) ∙ same) short.0
      | inr other ↦ long_takes bytes e (omega arith) (ap (made (get_or bytes 1 0) (get_or bytes 2 0)) (sym other.1) ∙ same) other.0
    ]

is_made : (e : Ell) (control n : ℕ) → e.access ≡ access_in control → e.len ≡ n → e ≡ made control e.acc n
is_made e control n access len = rw (← access, ← len) refl

short_again : (control acc : ℕ) (rest : List ℕ) → ell_at (0x8C ∷ control ∷ acc ∷ rest) ≡ Ok (made control acc 3)
unfolding ell_at header_len
short_again control acc rest = rw (le-ltb (length (0x8C ∷ control ∷ acc ∷ rest)) 3 (omega arith)) refl

long_again : (control acc : ℕ) (rest : List ℕ) → 8 ≤ length rest → ell_at (0x8E ∷ control ∷ acc ∷ rest) ≡ Ok (made control acc 11)
unfolding ell_at header_len
long_again control acc rest long = rw (le-ltb (length (0x8E ∷ control ∷ acc ∷ rest)) 11 (omega arith)) refl

-- what is spelled so is read
pub again : (bytes : List ℕ) (e : Ell) → BeginsWithEll bytes e → ell_at bytes ≡ Ok e
again bytes e h =
    elim h.spelt [
      | inl short ↦
          let whole : bytes ≡ 0x8C ∷ short.control ∷ e.acc ∷ h.rest = h.parts ∙ ap (λ (x : List ℕ). x ++ h.rest) short.bytes in
          let len : e.len ≡ 3 = h.len ∙ ap length short.bytes in
          ap ell_at whole ∙ short_again short.control e.acc h.rest ∙ ap read (sym (is_made e short.control 3 short.access len))
      | inr long ↦
          let whole : bytes ≡ 0x8E ∷ long.control ∷ e.acc ∷ (long.address ++ h.rest) =
          h.parts ∙ ap (λ (x : List ℕ). x ++ h.rest) long.bytes in
          let len : e.len ≡ 11 = h.len ∙ ap length long.bytes ∙ ap (λ (n : ℕ). suc (suc (suc n))) long.eight in
          ap ell_at whole
          ∙ long_again long.control e.acc (long.address ++ h.rest) (omega (arith, length-append long.address h.rest, long.eight))
          ∙ ap read (sym (is_made e long.control 11 long.access len))
    ]

pub is_found : (bytes : List ℕ) (r : Result Ell EllFault) → r ≡ ell_at bytes → IfOk r (λ e. BeginsWithEll bytes e)
is_found bytes (Ok e) h = takes bytes e (sym h)
is_found bytes (Err f) h = tt

pub is_only : (bytes : List ℕ) (r : Result Ell EllFault) → r ≡ ell_at bytes → (e : Ell) → BeginsWithEll bytes e → r ≡ Ok e
is_only bytes r h e begins = h ∙ again bytes e begins
