-- What the audit of a printed session answers.
use Rattle.std.specs.Prelude.{ℕ, ◌≡◌, false, true, List, length, map, reverse, Option, Some, IfSome, Ok, Err}
use Rattle.lists.specs.Each.{Each, IsFirst}
use Rattle.line_reader.specs.Lines.{is_over, all_lines}
use Rattle.meter_address.specs.declared.address.Address.{Address}
use Rattle.meter_slots.specs.declared.counts.Ended.TheVariants as ends
use Rattle.meter_slots.specs.World.{WorldView}
use Rattle.receivers.specs.declared.told.Told.{Told}
use Rattle.receivers.specs.Classes.{counts_of}
use Rattle.receivers.specs.Session.{IsSession}
use Rattle.receivers.specs.Told.{told_of}
use Rattle.report_text.specs.declared.lent.ReceiverEnd.{ReceiverEnd}
use Rattle.report_text.specs.Orders.{orders, lines_in}
use Rattle.report_text.specs.OrdersLaw.{orders_of}
use Rattle.report_text.specs.Report.{report_text}
use Rattle.state_file.specs.declared.fault.StateFault.TheVariants as faults
use Rattle.state_file.specs.Whole.{Known, state_of}
use Rattle.audit_check_main.specs.declared.verdict.Cause.{Cause}
use Rattle.audit_check_main.specs.declared.verdict.Cause.TheVariants as causes
use Rattle.audit_check_main.specs.declared.verdict.Verdict.{Verdict}
use Rattle.audit_check_main.specs.declared.verdict.Verdict.TheVariants.{Yes, No}
use Rattle.audit_check_main.specs.Leaving.{IsLeftBy, left_text, line_at}
use Rattle.audit_check_main.specs.Lists.{AreInForm, IsFirstFaulty, lists_printed}
use Rattle.audit_check_main.specs.Order.{wanted, IsFirstWrong}
use Rattle.audit_check_main.specs.Difference.{DiffersAt}

-- the bytes that are looked at: the state from which the session began, which may be a roster, the one that it is said to have left, where
-- that is judged too, the report, and what each receiver heard
pub record Audited : Type 0 where
  pub state : List ℕ
  pub next : Option (List ℕ)
  pub report : List ℕ
  pub inputs : List (List ℕ)

-- ---- what the inputs tell

-- what all lines of an input tell
abbrev pub told_in : List ℕ → List Told
told_in input = map told_of (all_lines input)

abbrev pub heard_of : Audited → List (List Told)
heard_of a = map told_in a.inputs

-- a receiver that heard an input to its end
abbrev pub heard_out : List Address → List ℕ → ReceiverEnd
heard_out addresses input = record { counts = counts_of addresses (told_in input); ended = ends.End }

-- the report of a session in which every input was heard to its end
abbrev pub report_of : Audited → Known → WorldView → List ℕ
report_of a r world = report_text (map (heard_out (map (λ c. c.address) r.starts)) a.inputs) world.slots world.strangers

-- ---- one stage after another

-- the state's bytes are one, and no input goes past the limits
pub record IsReadable (a : Audited) (r : Known) : Type 0 where
  pub state_is : state_of a.state ≡ Ok r
  pub within : Each (λ input. is_over input ≡ false) a.inputs

-- and each line of the report that belongs to a list stands in its own
pub record IsInForm (a : Audited) (r : Known) : Type 0 where
  pub readable : IsReadable a r
  pub in_form : AreInForm (length r.starts) (reverse (lines_in a.report))

-- and the printed lists are the orders of a session of what the inputs tell
pub record IsOrdered (a : Audited) (r : Known) (world : WorldView) : Type 0 where
  pub form : IsInForm a r
  pub session : IsSession r.own r.starts (heard_of a) world
  pub printed : lists_printed (length r.starts) (orders a.report)
      ≡ lists_printed (length r.starts) (orders_of world.slots world.strangers)

-- ---- verdicts

-- The report is the text of a session of just what the inputs tell, in the orders that it prints; and the state that is judged is what
-- this session leaves.
pub record IsFaithful (a : Audited) : Type 0 where
  pub known : Known
  pub world : WorldView
  pub ordered : IsOrdered a known world
  pub text : a.report ≡ report_of a known world
  pub left : IfSome a.next (IsLeftBy known.own world.slots)

-- it is another text than that of the session
pub record IsUnfaithfulAt (place : ℕ) (a : Audited) : Type 0 where
  pub known : Known
  pub world : WorldView
  pub ordered : IsOrdered a known world
  pub differs : DiffersAt place a.report (report_of a known world)

-- the report is that of the session, but the state is another than the one that it leaves
pub record IsOtherwiseLeftAt (line place : ℕ) (a : Audited) : Type 0 where
  pub known : Known
  pub world : WorldView
  pub ordered : IsOrdered a known world
  pub text : a.report ≡ report_of a known world
  pub next : List ℕ
  pub next_is : a.next ≡ Some next
  pub line_is : line ≡ line_at place next
  pub differs : DiffersAt place next (left_text known.own world.slots)

-- the first cause of a `no`: each stands only where none of those before it does
abbrev pub IsCause : Audited → Cause → Type 0
IsCause a (causes.Roster line cause) = state_of a.state ≡ Err (faults.Roster line cause)
IsCause a (causes.State line cause) = state_of a.state ≡ Err (faults.Line line cause)
IsCause a (causes.Over w) = (r : Known) × (state_of a.state ≡ Ok r)
    × IsFirst (λ input. is_over input ≡ false) (λ input. is_over input ≡ true) w a.inputs
IsCause a (causes.Form line) = (r : Known) × IsReadable a r × IsFirstFaulty (length r.starts) (lines_in a.report) line
IsCause a (causes.Order list place) = (r : Known) × IsInForm a r
    × IsFirstWrong (wanted r.starts (heard_of a)) (lists_printed (length r.starts) (orders a.report)) list place
IsCause a (causes.Text place) = IsUnfaithfulAt place a
IsCause a (causes.Next line place) = IsOtherwiseLeftAt line place a

abbrev pub IsVerdict : Audited → Verdict → Type 0
IsVerdict a Yes = IsFaithful a
IsVerdict a (No cause) = IsCause a cause
