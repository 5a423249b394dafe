-- A text that differs by now.
use Rattle.std.proofs.Common.{◌≡◌, ℕ, Bool, true, List, sym, ◌∙◌}
use Rattle.paper.specs.Puts.{Puts}
use Rattle.paper.proofs.Calls.{once}
use Rattle.audit_check_main.specs.Comparing.{Compared, Compares}
use Rattle.audit_check_main.proofs.Compared.{skipped}

-- where the text differs by now, all that is put yet changes nothing
pub skips : (p : Compared) (text : List ℕ) (differs : Bool) → differs ≡ p.differs → differs ≡ true → Puts Compares p text p
skips p text differs is on = once (skipped p text (sym is ∙ on))
