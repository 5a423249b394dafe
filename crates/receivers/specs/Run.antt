-- A receiver's one run of work, as contracts see it.
use Rattle.std.specs.Prelude.{ℕ, ◌≡◌, ◌≤◌, Bool, List, [], ◌∷◌, take, map, Option, IsTrue}
use Rattle.outer_io.specs.declared.sources.Source as sources
use Rattle.outer_io.specs.declared.sinks.Sink as sinks
use Rattle.line_reader.specs.Lines.{all_lines}
use Rattle.meter_address.specs.declared.address.Address.{Address}
use Rattle.meter_slots.specs.declared.counts.Counts.{Counts}
use Rattle.meter_slots.specs.declared.counts.Ended.{Ended}
use Rattle.meter_slots.specs.declared.counts.Ended.TheVariants as ends
use Rattle.receivers.specs.declared.told.Told.{Told}
use Rattle.receivers.specs.Told.{told_of}
use Rattle.receivers.specs.Classes.{counts_of}
use Rattle.receivers.specs.Ending.{IsEnding}
use Rattle.receivers.specs.Receiver.{Receiving}
use Rattle.outer_io.specs.Shown.{Change, SourceShown, SinkShown, source_change, sink_change, ReadFailed, LosesNothing}

-- what a run shows of its hearing: the source before and now, whether contracts know its bytes, the counts of the lines, and how it ended
pub record Hearing : Type 0 where
  pub tells : Bool
  pub source : Change SourceShown
  pub counts : Counts
  pub ended : Ended

abbrev pub hearing : {S : Type 0} → sources.Ghosts S → (old new : S) → Counts → Ended → Hearing
hearing s old new counts ended = record { tells = s.tells; source = source_change s old new; counts = counts; ended = ended }

-- so many first lines of the bytes taken
abbrev pub lines_taken : ℕ → List ℕ → List (List ℕ)
lines_taken count taken = take count (all_lines taken)

-- the lines taken in a run: as many as are counted
abbrev pub lines_of : Hearing → List (List ℕ)
lines_of h = lines_taken h.counts.lines h.source.now.taken

-- What was heard is what the lines taken tell, where contracts know them. The counts are those of these lines, for the meters of a
-- directory. The run ended as it says after these lines, a fault of reading has its cause, and no byte is lost.
pub record HasHeard (directory : List Address) (h : Hearing) (heard : List Told) : Type 0 where
  pub lines : IsTrue h.tells → heard ≡ map told_of (lines_of h)
  pub counts : h.counts ≡ counts_of directory heard
  pub ending : IsTrue h.tells → IsEnding h.ended h.source.now.taken h.source.now.left (lines_of h)
  pub read_fault : h.ended ≡ ends.ReadFault → ReadFailed h.source
  pub later : h.source.before.faults ≤ h.source.now.faults
  pub no_loss : IsTrue h.tells → LosesNothing h.source

-- ---- with a sink

-- what a run shows of a receiver: its source and its sink before and now, whether contracts know their bytes, the counts of its lines,
-- and how it ended, if it worked
pub record ReceiverRun : Type 0 where
  pub source_tells : Bool
  pub source : Change SourceShown
  pub tx_tells : Bool
  pub tx : Change SinkShown
  pub counts : Counts
  pub ended : Option Ended

abbrev pub run_between : {S K : Type 0} → sources.Ghosts S → sinks.Ghosts K → (old new : S) → (tx tx' : K) → Counts → Option Ended
    → ReceiverRun
run_between s k old new tx tx' counts ended = record {
  source_tells = s.tells;
  source = source_change s old new;
  tx_tells = k.tells;
  tx = sink_change k tx tx';
  counts = counts;
  ended = ended;
}

abbrev pub receiver_run : {S K : Type 0} → sources.Ghosts S → sinks.Ghosts K → (old new : Receiving S K) → ReceiverRun
receiver_run s k old new = run_between s k old.source new.source old.tx new.tx new.counts new.ended

-- each receiver before the run with the same one after it
abbrev pub receiver_runs : {S K : Type 0} → sources.Ghosts S → sinks.Ghosts K → (old new : List (Receiving S K)) → List ReceiverRun
receiver_runs s k [] news = []
receiver_runs s k (old ∷ olds) [] = []
receiver_runs s k (old ∷ olds) (new ∷ news) = receiver_run s k old new ∷ receiver_runs s k olds news

-- its hearing, where it ended so
abbrev pub hearing_of : ReceiverRun → Ended → Hearing
hearing_of run ended = record { tells = run.source_tells; source = run.source; counts = run.counts; ended = ended }
