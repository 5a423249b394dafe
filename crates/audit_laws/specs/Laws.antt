-- The law that the audit answers yes to what the collector wrote.
use Rattle.std.specs.Prelude.{ℕ, ◌≡◌, ◌⊎◌, ◌≤◌, IsTrue, List, Some, IfSome, length, map}
use Rattle.std.specs.List.{Contains}
use Rattle.outer_io.specs.Shown.{Change, SourceShown, SinkShown}
use Rattle.meter_address.specs.declared.address.Address.{Address}
use Rattle.meter_slots.specs.Journal.{Start}
use Rattle.meter_slots.specs.World.{WorldView}
use Rattle.receivers.specs.declared.told.Told.{Told}
use Rattle.receivers.specs.Cuts.{AreHeardOn, world_on}
use Rattle.receivers.specs.Session.{IsSession}
use Rattle.collector_main.specs.declared.form.Form.TheVariants.{State}
use Rattle.collector_main.specs.Heard.{next_of}
use Rattle.collector_main.specs.Run as collector
use Rattle.collector_main.specs.Showing.{report_output}
use Rattle.collector_main.specs.declared.status.Status.TheVariants.{Done}
use Rattle.audit_check_main.specs.Audit.{Audited, IsFaithful, heard_of}
use Rattle.audit_check_main.specs.Leaving.{IsLeftBy}
use Rattle.audit_check_main.specs.Run as audit
use Rattle.audit_check_main.specs.declared.status.AuditStatus.TheVariants.{Yes, No, Memory}
use Rattle.audit_check_main.specs.declared.verdict.Cause.{Cause}

-- A source gives what a run of `continue` wrote of what it leaves for the next session.
pub record IsNextOf (c : collector.Run) (source : Change SourceShown) : Type 0 where
  pub continues : c.form ≡ State
  pub sends : IsTrue c.sends
  pub next : Change SinkShown
  pub is_output : Contains c.outputs (record { number = 1; text = next_of State; sink = next })
  pub same_next : source.before.left ≡ next.now.written

-- The audit is given what the collector was given and what it wrote: the bytes of the roster or state from which the session began, the
-- report, and the bytes of each receiver, of at most sixteen, in their order; and where it judges a state too, that is what `continue` left.
-- Contracts know all these bytes.
pub record IsAuditOf (c : collector.Run) (a : audit.Run) : Type 0 where
  pub sources_tell : IsTrue c.sources_tell
  pub sinks_tell : IsTrue c.sinks_tell
  pub audited_tell : IsTrue a.sources_tell
  pub report : Change SinkShown
  pub is_output : Contains c.outputs (report_output report)
  pub same_report : a.report.before.left ≡ report.now.written
  pub same_beginning : a.state.before.left ≡ c.beginning.before.left
  pub same_lines : map (λ input. input.before.left) a.inputs ≡ map (λ r. r.source.before.left) c.receivers
  pub few : length c.receivers ≤ 16
  pub same_next : IfSome a.next (IsNextOf c)

-- A run of the collector that ended with status 0, and an audit of it.
pub record IsAudited (c : collector.Run) (a : audit.Run) : Type 0 where
  pub collected : collector.IsRun c
  pub done : c.status ≡ Done
  pub audited : audit.IsRun a
  pub audit_of : IsAuditOf c a

-- The answer is never no, and where nothing stands in the way of a verdict, it is yes, or there was no memory.
pub record ReportsAreAnsweredYes : Type 0 where
  pub never_no : (c : collector.Run) (a : audit.Run) → IsAudited c a → (cause : Cause) → a.status ≡ No cause → ⊥
  pub yes : (c : collector.Run) (a : audit.Run) → IsAudited c a → audit.IsFaultless a → (a.status ≡ Yes) ⊎ (a.status ≡ Memory)

-- ---- chains of sessions

-- A session of all lines so far and the one that goes on from it are one session of all lines, in which each meter's journal is the one so
-- far and then that of the later session, its lines numbered on; and this one session leaves what the later one leaves.
pub record GoOn (own : Address) (starts : List Start) (before all : List (List Told)) (world : WorldView) (later : Audited)
    (faithful : IsFaithful later) : Type 0 where
  pub session : IsSession own starts all (world_on before world faithful.world)
  pub left : (text : List ℕ) → IsLeftBy faithful.known.own faithful.world.slots text → IsLeftBy own (world_on before world faithful.world).slots text

-- That is so of each session that is answered `yes` and began from what the session so far left, wherever each receiver's lines were cut: so
-- of a chain of them, one after the other.
abbrev pub AuditedSessionsGoOn : Type 0
AuditedSessionsGoOn = (own : Address) (starts : List Start) (before all : List (List Told)) (world : WorldView) (later : Audited)
    (faithful : IsFaithful later) → IsSession own starts before world → IsLeftBy own world.slots later.state
    → AreHeardOn before (heard_of later) all → GoOn own starts before all world later faithful

-- It is so of two sessions that are both answered `yes`, the first one with the state from which the second one began.
abbrev pub AuditedSessionsAreOne : Type 0
AuditedSessionsAreOne = (first later : Audited) (one : IsFaithful first) (two : IsFaithful later) (all : List (List Told))
    → first.next ≡ Some later.state → AreHeardOn (heard_of first) (heard_of later) all
    → GoOn one.known.own one.known.starts (heard_of first) all one.world later two
