-- Words of private contracts: a report that is compared with the text of a session.
use Rattle.std.specs.Prelude.{ℕ, ◌≡◌, ◌<◌, ◌≤◌, ◌^◌, false, List, [], map, length, reverse, slice_index_or, Option, Some, None, IfSome, Ok}
use Rattle.lists.specs.Each.{Each}
use Rattle.line_reader.specs.Lines.{is_over}
use Rattle.meter_address.specs.Address.{AreApart}
use Rattle.meter_address.specs.declared.address.Address.{Address}
use Rattle.meter_slots.specs.Journal.{Start, SlotView}
use Rattle.stranger_ring.specs.declared.strangers.Heard.{Heard}
use Rattle.receivers.specs.Orders.{AreOrderedStrangers}
use Rattle.report_text.specs.Orders.{lines_in, orders}
use Rattle.report_text.specs.Report.{report_text}
use Rattle.state_file.specs.Whole.{Known, state_of}
use Rattle.audit_check_main.specs.declared.verdict.Cause.TheVariants as causes
use Rattle.audit_check_main.specs.declared.verdict.Verdict.{Verdict}
use Rattle.audit_check_main.specs.declared.verdict.Verdict.TheVariants.{Yes, No}
use Rattle.audit_check_main.specs.Audit.{IsVerdict}
use Rattle.audit_check_main.specs.Comparing.{Compared, IsSoFar}
use Rattle.audit_check_main.specs.Difference.{DiffersAt}
use Rattle.audit_check_main.specs.Hearing.{HeardInput, tells}
use Rattle.audit_check_main.specs.Leaving.{IsReadBack, left_text, line_at}
use Rattle.audit_check_main.specs.Lists.{AreInForm, lists_printed}
use Rattle.audit_check_main.specs.Printing.{end_of}
use Rattle.audit_check_main.specs.Stepping.{AreOrderedSlots}

-- the first byte at which a text differs from another one, if it does
abbrev pub IsDifference : (text other : List ℕ) → Option ℕ → Type 0
IsDifference text other None = text ≡ other
IsDifference text other (Some place) = DiffersAt place text other

-- the state that is judged differs from a text at this byte of this line
pub record IsOtherNext (line place : ℕ) (next : Option (List ℕ)) (left : List ℕ) : Type 0 where
  pub text : List ℕ
  pub text_is : next ≡ Some text
  pub line_is : line ≡ line_at place text
  pub differs : DiffersAt place text left

-- what the state that is judged is found to be beside a text
abbrev pub IsNextCompared : (next : Option (List ℕ)) → (left : List ℕ) → Verdict → Type 0
IsNextCompared next left Yes = IfSome next (λ text. text ≡ left)
IsNextCompared next left (No (causes.Next line place)) = IsOtherNext line place next left
IsNextCompared next left _ = ⊥

-- the paper of the state that is judged has its text, of which this was put
pub record IsNextSoFar (paper : Compared) (next : Option (List ℕ)) (put : List ℕ) : Type 0 where
  pub text_is : IfSome next (λ text. paper.text ≡ text)
  pub so_far : IsSoFar paper put

-- what a report, and the state that is judged, are found to be beside two texts
abbrev pub IsCompared : (report text : List ℕ) → (next : Option (List ℕ)) → (left : List ℕ) → Verdict → Type 0
IsCompared report text next left (No (causes.Text place)) = DiffersAt place report text
IsCompared report text next left verdict = (report ≡ text) × IsNextCompared next left verdict

-- slots and strangers in the order of some lists, and what a report and a state are found to be beside the texts of that session
pub record IsStepped (own : Address) (meters : List Start) (heard : List HeardInput) (lists : List (List (ℕ × ℕ))) (report : List ℕ)
    (next : Option (List ℕ)) (verdict : Verdict) : Type 0 where
  pub slots : List SlotView
  pub strangers : List Heard
  pub so : AreOrderedSlots own (map tells heard) meters lists slots
  pub noted : AreOrderedStrangers meters (map tells heard) (slice_index_or lists (length meters) []) strangers
  pub read_back : IsReadBack own slots
  pub compared : IsCompared report (report_text (map end_of heard) slots strangers) next (left_text own slots) verdict

-- meters whose addresses differ, 4,096 at most, inputs within the limits, and a report in form with the lists that it prints
pub record AreListsRead (r : Known) (report : List ℕ) (inputs : List (List ℕ)) (lists : List (List (ℕ × ℕ))) : Type 0 where
  pub apart : AreApart (map (λ c. c.address) r.starts)
  pub few : length r.starts ≤ 4096
  pub within : Each (λ input. is_over input ≡ false) inputs
  pub few_lines : length (lines_in report) < 2 ^ 32
  pub in_form : AreInForm (length r.starts) (reverse (lines_in report))
  pub lists_are : lists ≡ lists_printed (length r.starts) (orders report)

-- the verdict on a report by each text that says this of the meters
abbrev pub IsVerdictBy : Known → (next : Option (List ℕ)) → (report : List ℕ) → (inputs : List (List ℕ)) → Verdict → Type 0
IsVerdictBy r next report inputs verdict = (text : List ℕ) → state_of text ≡ Ok r →
    IsVerdict (record { state = text; next = next; report = report; inputs = inputs }) verdict
