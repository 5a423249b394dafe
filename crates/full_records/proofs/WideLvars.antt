-- No LVAR of the profile announces a long number.
use Rattle.std.proofs.Common.{⊎_elim, ◌≡◌, ℕ, ◌%◌, ◌<◌, ◌≤◌, Bool, true, false, not, eqb, ltb, Option, Some, None, refl, sym, ap, ◌∙◌}
use Rattle.std.proofs.lemmas.Bool.{cond_both, lt-ltb, cases_lt}
use Rattle.std.proofs.lemmas.Option.{none-some}
use Rattle.dif_vif.specs.Spelling.{data_width, lvar_width}
use Rattle.full_spans.proofs.Found.{unused}
use Rattle.full_records.specs.Values.{is_long}

no_width : (dif lvar : ℕ) → 240 ≤ lvar → data_width dif (Some lvar) ≡ None
no_width dif lvar le =
    cond_both (eqb (dif % 16) 13) (lvar_width lvar) None (λ (w : Option ℕ). w ≡ None) (λ _. unused lvar le) (λ _. refl)

pub short_lvar : (dif lvar n : ℕ) → data_width dif (Some lvar) ≡ Some n → ltb lvar 240 ≡ true
short_lvar dif lvar n width =
    ⊎_elim (λ lt. lt-ltb lvar 240 lt) (λ le. absurd (none-some n (sym (no_width dif lvar le) ∙ width))) (cases_lt lvar 240)

pub short_data : (dif n : ℕ) (lvar : Option ℕ) → data_width dif lvar ≡ Some n → is_long lvar ≡ false
short_data dif n None width = refl
short_data dif n (Some lvar) width = ap not (short_lvar dif lvar n width)
