-- Qualifiers whose words are put one after another.
use Rattle.std.proofs.Common.{ℕ, ◌+◌, ◌<◌, ◌∷◌, Bool, true, List, length, drop, get_or, ap, refl}
use Rattle.std.proofs.lemmas.List.{drop_more}
use Rattle.paper.specs.Puts.{Puts}
use Rattle.paper.proofs.Calls.{three_make}
use Rattle.paper.proofs.Items.{is_put}
use Rattle.full_records.specs.declared.qualifiers.Qualifier.{Qualifier}
use Rattle.full_text.specs.Said.{one_qualifier_text, qualifiers_behind, space_if}

pub qualifier_more : {P : Type 0} {takes : P → List ℕ → P → Type 0} {p q r s : P} (later unset : Bool) (all : List Qualifier) (i : ℕ) (d : Qualifier)
    → i < length all → Puts takes p (space_if later) q → Puts takes q (one_qualifier_text (get_or all i d)) r
    → Puts takes r (qualifiers_behind true (drop (i + 1) all) unset) s
    → Puts takes p (qualifiers_behind later (drop i all) unset) s
qualifier_more later unset all i d within one two three =
    is_put _ _ (ap (λ qs. qualifiers_behind later qs unset) (drop_more all i d within))
    (three_make (qualifiers_behind later (get_or all i d ∷ drop (i + 1) all) unset) one two three refl)
