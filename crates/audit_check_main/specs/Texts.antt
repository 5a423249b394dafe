-- What is printed of a verdict.
use Rattle.std.specs.Prelude.{ℕ, List, ◌++◌, codes}
use Rattle.paper.specs.Pieces.{labelled, labelled_two}
use Rattle.roster_file.specs.declared.roster.LineCause.{LineCause}
use Rattle.state_file.specs.declared.fault.FileCause.{FileCause}
use Rattle.state_file.specs.Words.{roster_word, state_word}
use Rattle.audit_check_main.specs.declared.verdict.Cause.{Cause}
use Rattle.audit_check_main.specs.declared.verdict.Cause.TheVariants as causes
use Rattle.audit_check_main.specs.declared.verdict.Verdict.{Verdict}
use Rattle.audit_check_main.specs.declared.verdict.Verdict.TheVariants.{Yes, No}

unfoldable pub roster_cause_text : ℕ → LineCause → List ℕ
roster_cause_text line cause = labelled (codes "roster ") line ++ codes " " ++ roster_word cause

unfoldable pub state_cause_text : ℕ → FileCause → List ℕ
state_cause_text line cause = labelled (codes "state ") line ++ codes " " ++ state_word cause

abbrev pub cause_text : Cause → List ℕ
cause_text (causes.Roster line cause) = roster_cause_text line cause
cause_text (causes.State line cause) = state_cause_text line cause
cause_text (causes.Over w) = labelled (codes "over ") w
cause_text (causes.Form line) = labelled (codes "form ") line
cause_text (causes.Order list place) = labelled_two (codes "order ") list place
cause_text (causes.Text place) = labelled (codes "text ") place
cause_text (causes.Next line place) = labelled_two (codes "next ") line place

unfoldable pub no_text : Cause → List ℕ
no_text cause = codes "no " ++ cause_text cause ++ codes "\n"

abbrev pub verdict_text : Verdict → List ℕ
verdict_text Yes = codes "yes\n"
verdict_text (No cause) = no_text cause
