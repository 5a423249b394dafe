-- The tests of a decoder of either format, one after another, and what passes all of them.
use Rattle.std.proofs.Common.{◌≡◌, ℕ, ◌<◌, ◌≤◌, List, [], ◌∷◌, ◌++◌, length, get_or, true, false, eqb, ltb, Ok, refl, sym, ◌∙◌, ap, arith, eq-eqb}
use Rattle.std.proofs.lemmas.Bool.{eqb-true, eqb-false, le-ltb, ltb-false, ne_eqb, or_parts, or_from}
use Rattle.lists.proofs.Choices.{guard_ok, guard_ok_if}
use Rattle.frame_formats.specs.declared.format.Format.{Format}
use Rattle.frame_formats.specs.declared.format.Format.TheVariants as formats
use Rattle.frame_formats.specs.Faults.{BeginsWith, IsLengthB}
use Rattle.frame_formats.specs.Decoding.{least, leaves_out, whole_len, telegram_in, decoded}

-- what L may be
abbrev pub Fits : Format → ℕ → Type 0
Fits formats.A l = 10 ≤ l
Fits formats.B l = IsLengthB l

pub tests_of : (format : Format) (l : ℕ) → Fits format l → (ltb l (least format) ≡ false) × (leaves_out format l ≡ false)
tests_of formats.A l is = (le-ltb _ _ is, refl)
tests_of formats.B l is = (le-ltb _ _ is.least, or_from _ _ (ne_eqb _ _ is.not_128) (ne_eqb _ _ is.not_129))

pub fits_by : (format : Format) (l : ℕ) → ltb l (least format) ≡ false → leaves_out format l ≡ false → Fits format l
fits_by formats.A l least no_gap = ltb-false _ _ least
fits_by formats.B l least no_gap =
    let both = or_parts _ _ no_gap
    in record { least = ltb-false _ _ least; not_128 = eqb-false _ _ both.0; not_129 = eqb-false _ _ both.1 }

-- L fits, and the bytes are as many as it says
pub record IsWhole (format : Format) (bytes : List ℕ) (l : ℕ) : Type 0 where
  pub begins : BeginsWith bytes l
  pub fits : Fits format l
  pub whole : length bytes ≡ whole_len format l

-- what stands in front of the bytes begins with their L
pub begins_with : (bytes first rest : List ℕ) (l : ℕ) → bytes ≡ first ++ rest → get_or first 0 0 ≡ l → 0 < length first
    → BeginsWith bytes l
begins_with bytes [] rest l is head some = absurd (omega arith)
begins_with bytes (b ∷ first) rest l is head some = record { rest = first ++ rest; is = is ∙ ap (λ x. x ∷ (first ++ rest)) head }

pub decoded_ok : (format : Format) (bytes t : List ℕ) → decoded format bytes ≡ Ok t
    → IsWhole format bytes (get_or bytes 0 0) × (telegram_in format bytes ≡ Ok t)
unfolding decoded
decoded_ok format [] t is = cc
decoded_ok format (l ∷ rest) t is =
    let some = guard_ok (eqb (length (l ∷ rest)) 0) _ _ _ is
    in let long = guard_ok (ltb l (least format)) _ _ _ some.1
    in let no_gap = guard_ok (leaves_out format l) _ _ _ long.1
    in let all = guard_ok_if (eqb (length (l ∷ rest)) (whole_len format l)) _ _ _ no_gap.1
    in (
      record {
        begins = record { rest = rest; is = refl };
        fits = fits_by format l long.0 no_gap.0;
        whole = eqb-true _ _ all.0;
      },
      all.1,
    )

pub not_empty : (l : ℕ) (rest : List ℕ) → eqb (length (l ∷ rest)) 0 ≡ false
not_empty l rest = ne_eqb _ _ (λ e. omega arith)

pub decoded_again : (format : Format) (bytes : List ℕ) (l : ℕ) → IsWhole format bytes l → decoded format bytes ≡ telegram_in format bytes
unfolding decoded
decoded_again format bytes l is =
    let tests = tests_of format l is.fits
    in let whole : eqb (length (l ∷ is.begins.rest)) (whole_len format l) ≡ true = eq-eqb _ _ (sym (ap length is.begins.is) ∙ is.whole)
    in rw (is.begins.is, not_empty l is.begins.rest, tests.0, tests.1, whole) refl
