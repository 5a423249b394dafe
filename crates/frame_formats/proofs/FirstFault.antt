-- Each fault that is answered is the first of the bytes, and the first is answered.
use Rattle.std.proofs.Common.{◌≡◌, ◌≢◌, ℕ, ◌+◌, ◌-◌, ◌<◌, List, [], ◌∷◌, length, true, false, eqb, ltb, Result, Ok, Err, refl, sym, ◌∙◌, ap, subst, arith, length-drop, eq-eqb, inl, inr}
use Rattle.std.proofs.lemmas.List.{length-take}
use Rattle.std.proofs.lemmas.Bool.{eqb-true, eqb-false, lt-ltb, le-ltb, ltb-true, ne_eqb, cases_lt, or_cases, or_left, or_right, cond-false}
use Rattle.lists.proofs.Choices.{chosen}
use Rattle.lists.proofs.StepLaws.{bind_err}
use Rattle.frame_formats.specs.declared.fault.FrameFault.{FrameFault}
use Rattle.frame_formats.specs.declared.fault.FrameFault.TheVariants as faults
use Rattle.frame_formats.specs.declared.format.Format.{Format}
use Rattle.frame_formats.specs.declared.format.Format.TheVariants as formats
use Rattle.frame_formats.specs.Crc.{IsBytes}
use Rattle.frame_formats.specs.Faults.{BeginsWith, IsFirstWrong, Fault, FaultA}
use Rattle.frame_formats.specs.Decoding.{pieces_a, pieces_b, content_of, counted, telegram_in, telegram_b, least, leaves_out, whole_len, decoded, decoded_a}
use Rattle.frame_formats.proofs.Tests.{Fits, tests_of, fits_by, decoded_again, not_empty}
use Rattle.frame_formats.proofs.Checked.{bytes-take, bytes-drop}
use Rattle.frame_formats.proofs.FirstWrong.{ArePieces, wrong_found, first_wrong_again, are_pieces_a}
use Rattle.frame_formats.proofs.RelationB.{one_piece, two_pieces, counted_fault}

-- a frame in its blocks
abbrev pieces : Format → List ℕ → List (List ℕ)
pieces formats.A bytes = pieces_a bytes
pieces formats.B bytes = pieces_b bytes

-- why bytes are no frame
abbrev Cause : Format → List ℕ → FrameFault → Type 0
Cause format bytes faults.Empty = bytes ≡ []
Cause format bytes (faults.Short l) = BeginsWith bytes l × (l < least format)
Cause format bytes (faults.Gap l) = Fault format bytes (faults.Gap l)
Cause format bytes (faults.Length want have) =
    (l : ℕ) × BeginsWith bytes l × Fits format l × (want ≡ whole_len format l) × (have ≡ length bytes) × (have ≢ want)
Cause format bytes (faults.Crc n) =
    (l : ℕ) × BeginsWith bytes l × Fits format l × (length bytes ≡ whole_len format l) × IsFirstWrong n (pieces format bytes)

same_cause : (format : Format) (bytes : List ℕ) (e : FrameFault) → Cause format bytes e ≡ Fault format bytes e
same_cause formats.A bytes faults.Empty = refl
same_cause formats.B bytes faults.Empty = refl
same_cause _ bytes _ = refl

-- what L is left out
gap_by : (format : Format) (bytes : List ℕ) (l : ℕ) → BeginsWith bytes l → leaves_out format l ≡ true → Fault format bytes (faults.Gap l)
gap_by formats.A bytes l begins is = cc
gap_by formats.B bytes l begins is = elim (or_cases _ _ is) [
  | inl one ↦ (begins, inl (eqb-true _ _ one))
  | inr two ↦ (begins, inr (eqb-true _ _ two))
]

gap_tests : (format : Format) (bytes : List ℕ) (l : ℕ) → Fault format bytes (faults.Gap l)
    → BeginsWith bytes l × (ltb l (least format) ≡ false) × (leaves_out format l ≡ true)
gap_tests formats.A bytes l is = absurd is
gap_tests formats.B bytes l (begins, inl is) = (begins, le-ltb _ _ (omega arith), or_left _ _ (eq-eqb _ _ is))
gap_tests formats.B bytes l (begins, inr is) = (begins, le-ltb _ _ (omega arith), or_right _ _ (eq-eqb _ _ is))

-- the blocks of as many bytes as L says
are_pieces : (format : Format) (bytes : List ℕ) (l : ℕ) → IsBytes bytes → Fits format l → length bytes ≡ whole_len format l
    → ArePieces (pieces format bytes)
are_pieces formats.A bytes l all fits whole = are_pieces_a bytes (l - 9) all (omega arith)
are_pieces formats.B bytes l all fits whole = elim (cases_lt (length bytes) 129) [
  | inl short ↦ rw (one_piece bytes (omega arith)) (record { bytes = all; room = omega (arith, fits.least) }, tt)
  | inr long ↦ rw (two_pieces bytes (omega arith)) (
    record { bytes = bytes-take 128 bytes all; room = omega (arith, length-take 128 bytes) },
    (record { bytes = bytes-drop 128 bytes all; room = omega (arith, length-drop 128 bytes, fits.not_128, fits.not_129) }, tt),
  )
]

-- they are at fault where the telegram is
content_err : (format : Format) (bytes : List ℕ) (e : FrameFault) → telegram_in format bytes ≡ Err e
    → content_of 1 (pieces format bytes) ≡ Err e
unfolding telegram_b
content_err formats.A bytes e is = is
content_err formats.B bytes e is = elim (bind_err (content_of 1 (pieces_b bytes)) (λ sent. Ok (counted sent)) e is) [
  | inl read ↦ read
  | inr ok ↦ let none : Ok (counted ok.0) ≡ Err e = ok.2 in cc
]

telegram_err : (format : Format) (bytes : List ℕ) (e : FrameFault) → content_of 1 (pieces format bytes) ≡ Err e
    → telegram_in format bytes ≡ Err e
telegram_err formats.A bytes e is = is
telegram_err formats.B bytes e is = counted_fault bytes e is

abbrev at_fault : FrameFault → Result (List ℕ) FrameFault
at_fault e = Err e

same_fault : (format : Format) (bytes : List ℕ) (f e : FrameFault) → at_fault f ≡ at_fault e → Cause format bytes f → Cause format bytes e
same_fault format bytes f e same h = let is : f ≡ e = cc in subst (Cause format bytes) is h

cause_found : (format : Format) (bytes : List ℕ) (e : FrameFault) → IsBytes bytes → decoded format bytes ≡ Err e → Cause format bytes e
unfolding decoded
cause_found format [] e all is = let same : faults.Empty ≡ e = cc in subst (Cause format []) same refl
cause_found format (l ∷ rest) e all is =
    let bytes : List ℕ = l ∷ rest
    in let begins : BeginsWith bytes l = record { rest = rest; is = refl }
    in let long = chosen (ltb l (least format)) _ _ _ (sym (cond-false _ _ _ (not_empty l rest)) ∙ is)
    in elim long [
      | inl short ↦ same_fault format bytes (faults.Short l) e short.1 (begins, ltb-true _ _ short.0)
      | inr some ↦ elim (chosen (leaves_out format l) _ _ _ some.1) [
        | inl gap ↦ same_fault format bytes (faults.Gap l) e gap.1 (gap_by format bytes l begins gap.0)
        | inr no_gap ↦ elim (chosen (eqb (length bytes) (whole_len format l)) _ _ _ no_gap.1) [
          | inl all_there ↦
              let fits : Fits format l = fits_by format l some.0 no_gap.0
              in let whole : length bytes ≡ whole_len format l = eqb-true _ _ all_there.0
              in let at =
              wrong_found 1 (pieces format bytes) e (are_pieces format bytes l all fits whole) (content_err format bytes e all_there.1)
              in let place : 1 + at.before ≡ at.before + 1 = omega arith
              in same_fault format bytes (faults.Crc (at.before + 1)) e (ap Err (ap faults.Crc (sym place) ∙ sym at.fault))
              (l, begins, fits, whole, at.wrong)
          | inr other ↦
              same_fault format bytes (faults.Length (whole_len format l) (length bytes)) e other.1
              (l, begins, fits_by format l some.0 no_gap.0, refl, refl, eqb-false _ _ other.0)
        ]
      ]
    ]

cause_again : (format : Format) (bytes : List ℕ) (e : FrameFault) → IsBytes bytes → Cause format bytes e → decoded format bytes ≡ Err e
unfolding decoded
cause_again format bytes faults.Empty all is = rw is refl
cause_again format bytes (faults.Short l) all is = rw (is.0.is, not_empty l is.0.rest, lt-ltb l (least format) is.1) refl
cause_again format bytes (faults.Gap l) all is =
    let tests = gap_tests format bytes l is in rw (tests.0.is, not_empty l tests.0.rest, tests.1, tests.2) refl
cause_again format bytes (faults.Length want have) all is =
    let tests = tests_of format is.0 is.2
    in let other : eqb (length (is.0 ∷ is.1.rest)) (whole_len format is.0) ≡ false =
    ne_eqb _ _ (λ e. is.5 (is.4 ∙ (ap length is.1.is ∙ e) ∙ sym is.3))
    in rw (is.3, is.4, is.1.is, not_empty is.0 is.1.rest, tests.0, tests.1, other) refl
cause_again format bytes (faults.Crc n) all is =
    decoded_again format bytes is.0 (record { begins = is.1; fits = is.2; whole = is.3 })
    ∙ telegram_err format bytes (faults.Crc n)
    (first_wrong_again n (pieces format bytes) (are_pieces format bytes is.0 all is.2 is.3) is.4)

pub fault_found : (format : Format) (bytes : List ℕ) (e : FrameFault) → IsBytes bytes → decoded format bytes ≡ Err e → Fault format bytes e
fault_found format bytes e all is = subst (λ (X : Type 0). X) (same_cause format bytes e) (cause_found format bytes e all is)

pub fault_only : (format : Format) (bytes : List ℕ) (e : FrameFault) → IsBytes bytes → Fault format bytes e → decoded format bytes ≡ Err e
fault_only format bytes e all is = cause_again format bytes e all (subst (λ (X : Type 0). X) (sym (same_cause format bytes e)) is)

pub fault_found_a : (bytes : List ℕ) (e : FrameFault) → IsBytes bytes → decoded_a bytes ≡ Err e → FaultA bytes e
fault_found_a bytes e all is = fault_found formats.A bytes e all is

pub fault_only_a : (bytes : List ℕ) (e : FrameFault) → IsBytes bytes → FaultA bytes e → decoded_a bytes ≡ Err e
fault_only_a bytes e all is = fault_only formats.A bytes e all is
