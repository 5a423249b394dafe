-- What the words of the program ask for.
use Rattle.std.specs.Prelude.{ℕ, Bool, true, false, List, [], ◌∷◌, codes, nat_eq, Option, Some, None, if◌then◌else◌}
use Rattle.std.specs.Cmp.Lexicographic.{pointwise}
use Rattle.usage_totals.specs.declared.asked.Asked.{Asked}

-- a file of edits, and whether each answer has the address of its meter in it
pub record Wanted : Type 0 where
  pub addressed : Bool
  pub edits : List ℕ

-- what a value of the code says
abbrev pub wanted_of : Asked → Wanted
wanted_of asked = record { addressed = asked.addressed; edits = asked.edits.now }

-- what the words ask for: a file, with addresses where `--addressed` stands in front of it
abbrev pub totals_asked : List (List ℕ) → Option Wanted
totals_asked (edits ∷ []) = Some (record { addressed = false; edits = edits })
totals_asked (flag ∷ edits ∷ []) =
    if pointwise nat_eq flag (codes "--addressed") then Some (record { addressed = true; edits = edits }) else None
totals_asked words = None

abbrev pub is_addressed : Option Wanted → Bool
is_addressed (Some wanted) = wanted.addressed
is_addressed None = false
