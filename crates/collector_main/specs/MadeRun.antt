-- A run of a made session: four receivers hear the lines of telegrams that were made, and what is promised of it.
use Rattle.std.specs.Prelude.{ℕ, ◌≡◌, Bool, false, List, [], ◌∷◌, Ok, IsTrue, map}
use Rattle.lists.specs.Each.{Each, PassUntil}
use Rattle.outer_io.specs.Shown.{Change, SinkShown, WriteFailed, IsSilent, HasText}
use Rattle.line_reader.specs.Lines.{all_lines}
use Rattle.made_input.specs.Made.{Session}
use Rattle.made_input.specs.Summary.{summary_text}
use Rattle.meter_slots.specs.declared.counts.Ended.TheVariants as ends
use Rattle.receivers.specs.HeardLines.{HeardLines, tellings}
use Rattle.receivers.specs.Session.{IsSession}
use Rattle.report_text.specs.Orders.{orders}
use Rattle.collector_main.specs.declared.status.Status.{Status}
use Rattle.collector_main.specs.declared.status.Status.TheVariants as statuses
use Rattle.collector_main.specs.declared.form.Form.TheVariants.{Roster}
use Rattle.collector_main.specs.Begin.{known_of}
use Rattle.collector_main.specs.Heard.{Heard, report_of, order_of}
use Rattle.collector_main.specs.Run.{Output, IsWhole, IsUnwritten}
use Rattle.collector_main.specs.Statuses.{was_heard, IsDone}

-- a run: the session that was made, whether contracts know the bytes of sinks, the outputs in the order of their writing, the status
pub record MadeRun : Type 0 where
  pub made : Session
  pub sinks_tell : Bool
  pub outputs : List Output
  pub status : Status

-- the outputs: the report of the session, which goes to sink 2, and the summary, which goes to sink 3
abbrev pub made_outputs : (meters telegrams : ℕ) → (readings report : Change SinkShown) → List Output
made_outputs meters telegrams readings report =
    record { number = 2; text = report_of; sink = readings }
    ∷ record { number = 3; text = λ heard. summary_text meters telegrams; sink = report } ∷ []

-- ---- what was heard

-- the texts of the four receivers
abbrev pub heard_texts : Session → List (List ℕ)
heard_texts made = made.first ∷ made.second ∷ made.third ∷ made.fourth ∷ []

-- all lines of a text were heard, to its end
abbrev pub heard_whole : List ℕ → HeardLines
heard_whole text = record { lines = all_lines text; ended = ends.End }

-- The made roster is that of these meters, each receiver heard all lines of its text and ended at its end, each meter's slot is that of its
-- own lines alone and the strangers' list has the others, and the report's text tells their order.
pub record IsMadeHeard (made : Session) (heard : Heard) : Type 0 where
  pub known_is : known_of Roster made.roster ≡ Ok heard.known
  pub receivers : heard.receivers ≡ map heard_whole (heard_texts made)
  pub session : IsSession heard.known.own heard.known.starts (map tellings heard.receivers) heard.world
  pub told : orders (report_of heard) ≡ order_of heard

-- ---- all that is promised

-- all that was made was heard, and the outputs have their texts of it: after status 0 whole, after status 7 whole before the one that the
-- status names, and else a front where a write failed
pub record MadeHeadline (run : MadeRun) : Type 0 where
  pub heard : Heard
  pub is_heard : IsMadeHeard run.made heard
  pub written : IsTrue run.sinks_tell → Each (λ o. HasText (o.text heard) o.sink) run.outputs
  pub whole : IsTrue run.sinks_tell → run.status ≡ statuses.Done → Each (IsWhole heard) run.outputs
  pub stopped : IsTrue run.sinks_tell → (which : ℕ) → run.status ≡ statuses.Write which →
      PassUntil (IsWhole heard) (IsUnwritten which) run.outputs

-- the cause of a status: the first output that couldn't be written; no other fault comes
abbrev pub IsMadeCause : MadeRun → Status → Type 0
IsMadeCause run statuses.Done = Unit {0}
IsMadeCause run (statuses.Write which) = PassUntil (λ o. Unit {0}) (IsUnwritten which) run.outputs
IsMadeCause run statuses.Memory = Unit {0}
IsMadeCause run _ = ⊥

pub record IsMadeRun (run : MadeRun) : Type 0 where
  -- after statuses 0 and 7
  pub headline : IsTrue (was_heard run.status) → MadeHeadline run
  -- each status has its cause, and where no write fails all is done
  pub status_caused : IsMadeCause run run.status
  pub complete : Each (λ o. ¬ WriteFailed o.sink) run.outputs → IsDone run.status
  -- after the other status nothing was written
  pub silent : was_heard run.status ≡ false → Each (λ o. IsSilent o.sink) run.outputs
