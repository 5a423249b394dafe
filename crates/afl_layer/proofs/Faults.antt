-- Each fault is the first of the bytes, and bytes with a fault give it.
use Rattle.std.proofs.Common.{◌≡◌, ℕ, ◌+◌, ◌<◌, ◌↔◌, Bool, true, false, cond, not, eqb, ltb, List, [], ◌∷◌, ◌++◌, length, Some, Result, Ok, Err, refl, sym, ap, subst, ◌∙◌, eq-eqb, arith, inl, inr}
use Rattle.std.specs.Prelude.{slice_get}
use Rattle.std.specs.Int.{w16, from_le_bytes}
use Rattle.std.proofs.lemmas.Bool.{eqb-true, eqb-false, false_from_ne_true, ltb-true, ltb-false, lt-ltb, le-ltb}
use Rattle.std.proofs.lemmas.Nat.{le_bytes_2, from_le_bytes-to_le_bytes_2}
use Rattle.lists.proofs.Choices.{not_true, not_false}
use Rattle.afl_layer.specs.declared.header.Afl.{Afl}
use Rattle.afl_layer.specs.declared.header.AflFault.{AflFault}
use Rattle.afl_layer.specs.declared.header.AflFault.TheVariants.{Truncated, AflLength, FieldPlace, FidZero}
use Rattle.afl_layer.specs.Fields.{fields_len}
use Rattle.afl_layer.specs.Header.{misplaces, uncounts, BeginsWithFcl, HasFields, IsAflFault, fields_at, afl_at}
use Rattle.afl_layer.proofs.FieldLaws.{IsBytes}
use Rattle.afl_layer.proofs.HeaderLaws.{two_bytes, judged, word_at}

abbrev no_header : AflFault → Result Afl AflFault
no_header f = Err f

-- a test that refuses, or what stands behind it
of_test : (bytes : List ℕ) (b : Bool) (d f : AflFault) (r : Result Afl AflFault) → cond b (Err d) r ≡ Err f
    → (b ≡ true → IsAflFault bytes d) → (b ≡ false → r ≡ Err f → IsAflFault bytes f) → IsAflFault bytes f
of_test bytes true d f r e here behind = let is : d ≡ f = cc in subst (IsAflFault bytes) is (here refl)
of_test bytes false d f r e here behind = behind refl e

-- ---- what is refused has its fault

judged_fault : (bytes : List ℕ) (said fcl : ℕ) (rest : List ℕ) (f : AflFault) → BeginsWithFcl bytes said fcl rest
    → length bytes ≡ 4 + length rest → judged said fcl rest ≡ Err f
    → IsAflFault bytes f
unfolding judged
judged_fault bytes said fcl rest f begins len e =
    let counted : ℕ = 2 + fields_len fcl in
    of_test bytes (not (eqb said counted)) _ f _ e (λ other. (fcl, rest, begins, refl, eqb-false _ _ (not_true _ other)))
    (λ counts e1.
    let begins_so = subst (λ (x : ℕ). BeginsWithFcl bytes x fcl rest) (eqb-true _ _ (not_false _ counts)) begins in
    of_test bytes (ltb (length rest) (fields_len fcl)) _ f _ e1 (λ few. (inr (fcl, rest, begins_so, ltb-true _ _ few), sym len))
    (λ enough e2.
    let has : HasFields bytes fcl = record { rest = rest; begins = begins_so; enough = ltb-false _ _ enough } in
    of_test bytes (misplaces fcl) _ f _ e2 (λ misplaced. (has, misplaced))
    (λ placed e3. of_test bytes (uncounts fcl) _ f _ e3 (λ unnumbered. (fcl, has, placed, unnumbered)) (λ _ passed. absurd (cc passed)))))

short_fault : (bytes : List ℕ) (f : AflFault) → length bytes < 4 → Truncated (length bytes) ≡ f → IsAflFault bytes f
short_fault bytes f few same =
    let is : IsAflFault bytes (Truncated (length bytes)) = (inl few, refl) in
    subst (IsAflFault bytes) same is

begins_at : (ci said low high : ℕ) (rest : List ℕ) → ci ≡ 0x90 → low < 256 → high < 256
    → BeginsWithFcl (ci ∷ said ∷ low ∷ high ∷ rest) said (from_le_bytes w16 (low ∷ high ∷ [])) rest
begins_at ci said low high rest is_afl l h =
    let word = le_bytes_2 (low ∷ high ∷ []) _ refl (two_bytes low high l h) refl in
    record {
      word = omega (arith, l, h);
      parts = ap (λ (x : ℕ). x ∷ said ∷ low ∷ high ∷ rest) is_afl ∙ ap (λ (x : List ℕ). 0x90 ∷ said ∷ (x ++ rest)) (sym word);
    }

fault_found : (bytes : List ℕ) (f : AflFault) → slice_get bytes 0 ≡ Some 0x90 → IsBytes bytes → afl_at bytes ≡ Err f → IsAflFault bytes f
unfolding afl_at judged
fault_found (a ∷ said ∷ low ∷ high ∷ rest) f ci fits e =
    let is_afl : a ≡ 0x90 = cc in
    judged_fault (a ∷ said ∷ low ∷ high ∷ rest) said _ rest f (begins_at a said low high rest is_afl (fits 2) (fits 3)) (omega arith) e
fault_found bytes f ci fits e = short_fault bytes f (omega arith) (cc)

-- ---- a fault gives its refusal

judged_at : (bytes : List ℕ) (said fcl : ℕ) (rest : List ℕ) → BeginsWithFcl bytes said fcl rest → afl_at bytes ≡ judged said fcl rest
judged_at bytes said fcl rest h = ap afl_at h.parts ∙ word_at 0x90 said _ _ fcl rest (from_le_bytes-to_le_bytes_2 fcl h.word)

few_at : (bytes : List ℕ) → length bytes < 4 → afl_at bytes ≡ Err (Truncated (length bytes))
unfolding afl_at
few_at (a ∷ b ∷ c ∷ d ∷ rest) few = absurd (omega (arith, few))
few_at bytes few = refl

-- where AFLL counts the fields, and they are there
with_fields : (bytes : List ℕ) (fcl : ℕ) (h : HasFields bytes fcl)
    → afl_at bytes ≡ cond (misplaces fcl) (Err (FieldPlace fcl)) (cond (uncounts fcl) (Err FidZero) (Ok (fields_at fcl h.rest)))
unfolding judged
with_fields bytes fcl h =
    judged_at bytes (2 + fields_len fcl) fcl h.rest h.begins
    ∙ rw (eq-eqb (2 + fields_len fcl) (2 + fields_len fcl) refl, le-ltb (length h.rest) (fields_len fcl) h.enough) refl

too_few : (bytes : List ℕ) (fcl : ℕ) (rest : List ℕ) → BeginsWithFcl bytes (2 + fields_len fcl) fcl rest → length rest < fields_len fcl
    → afl_at bytes ≡ Err (Truncated (4 + length rest))
unfolding judged
too_few bytes fcl rest h few =
    judged_at bytes (2 + fields_len fcl) fcl rest h
    ∙ rw (eq-eqb (2 + fields_len fcl) (2 + fields_len fcl) refl, lt-ltb (length rest) (fields_len fcl) few) refl

fault_again : (bytes : List ℕ) (f : AflFault) → IsAflFault bytes f → afl_at bytes ≡ Err f
unfolding judged
fault_again bytes (Truncated n) h =
    elim h.0 [
      | inl few ↦ few_at bytes few ∙ ap (λ (x : ℕ). no_header (Truncated x)) (sym h.1)
      | inr cut ↦
          let all : 4 + length cut.1 ≡ n = omega (arith, h.1, ap length cut.2.parts) in
          too_few bytes cut.0 cut.1 cut.2 cut.3 ∙ ap (λ (x : ℕ). no_header (Truncated x)) all
    ]
fault_again bytes (AflLength said fields) h =
    let other : eqb said (2 + fields_len h.0) ≡ false = false_from_ne_true _ (λ same. h.4 (eqb-true _ _ same ∙ sym h.3)) in
    judged_at bytes said h.0 h.1 h.2 ∙ rw other (ap (λ (x : ℕ). no_header (AflLength said x)) (sym h.3))
fault_again bytes (FieldPlace fcl) h = with_fields bytes fcl h.0 ∙ rw h.1 refl
fault_again bytes FidZero h = with_fields bytes h.0 h.1 ∙ rw (h.2, h.3) refl

pub faults : (bytes : List ℕ) (f : AflFault) → slice_get bytes 0 ≡ Some 0x90 → IsBytes bytes → (afl_at bytes ≡ Err f) ↔ IsAflFault bytes f
faults bytes f ci fits = (fault_found bytes f ci fits, fault_again bytes f)

pub is_fault : (bytes : List ℕ) (r : Result Afl AflFault) → slice_get bytes 0 ≡ Some 0x90 → IsBytes bytes → r ≡ afl_at bytes
    → (f : AflFault) → (r ≡ Err f) ↔ IsAflFault bytes f
is_fault bytes r ci fits h f = (λ e. fault_found bytes f ci fits (sym h ∙ e), λ is. h ∙ fault_again bytes f is)
