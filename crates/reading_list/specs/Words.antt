-- The words of the program.
use Rattle.std.specs.Prelude.{ℕ, List, [], ◌∷◌, codes, nat_eq, Option, Some, None, if◌then◌else◌}
use Rattle.std.specs.Cmp.Lexicographic.{pointwise}
use Rattle.reading_list.specs.declared.forms.Form.{Form}
use Rattle.reading_list.specs.declared.forms.Form.TheVariants as forms

-- the form that the words ask for: JSON for a report alone, comma separated values where `--csv` stands before it
abbrev pub form_asked : List (List ℕ) → Option Form
form_asked (report ∷ []) = Some forms.Json
form_asked (flag ∷ report ∷ []) = if pointwise nat_eq flag (codes "--csv") then Some forms.Csv else None
form_asked words = None
