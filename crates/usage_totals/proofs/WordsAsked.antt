-- What the words of a run ask for.
use Rattle.std.proofs.Common.{◌≡◌, Option, Some, refl, sym, ap, ◌∙◌, subst}
use Rattle.std.specs.Prelude.{IsSome, option_map}
use Rattle.usage_totals.specs.declared.asked.Asked.{Asked}
use Rattle.usage_totals.specs.Words.{Wanted, wanted_of, is_addressed}

-- words that were read ask for something
pub asked_some : (result : Option Asked) (asked : Asked) (wanted : Option Wanted) → result ≡ Some asked
    → option_map wanted_of result ≡ wanted → IsSome wanted
asked_some result asked wanted is read = subst IsSome (ap (option_map wanted_of) (sym is) ∙ read) refl

-- and for addresses where the code says so
pub asked_addressed : (result : Option Asked) (asked : Asked) (wanted : Option Wanted) → result ≡ Some asked
    → option_map wanted_of result ≡ wanted → asked.addressed ≡ is_addressed wanted
asked_addressed result asked wanted is read = ap is_addressed (ap (option_map wanted_of) (sym is) ∙ read)
