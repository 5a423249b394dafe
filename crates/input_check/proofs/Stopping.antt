-- Why a check stops.
use Rattle.std.proofs.Common.{◌≡◌, ◌≤◌, ℕ, ◌+◌, zero, suc, Bool, List, [], ◌∷◌, ◌++◌, take, refl, sym, ap, ◌∙◌, append_assoc, append-nil, IsTrue}
use Rattle.lists.specs.Each.{Each}
use Rattle.outer_io.specs.Shown.{Change, SourceShown, SinkShown, ReadFailed, LosesNothing, IsSilent}
use Rattle.outer_io.specs.declared.sources.Source as sources
use Rattle.line_reader.specs.Lines.{all_lines}
use Rattle.line_reader.specs.Reader.{Reader}
use Rattle.input_check.specs.declared.states.Stop.{Stop}
use Rattle.input_check.specs.declared.states.Stop.TheVariants as stops
use Rattle.input_check.specs.Faulty.{faulty_lines}
use Rattle.input_check.specs.Findings.{receiver_lines}
use Rattle.input_check.specs.Receivers.{reader_changes, receivers_text}
use Rattle.input_check.specs.Stops.{StopsBy, FileStops, StopsAt, ReceiversStop, IsHeardOut, IsLong, IsUnread}
use Rattle.input_check.proofs.LaterFaults.{rose_later}

-- one cause of each stop for another
pub stops_so : {read cut write read' cut' write' : Type 0} (stop : Stop) → (read → read') → (cut → cut') → (write → write')
    → StopsBy read cut write stop → StopsBy read' cut' write' stop
stops_so stops.Read r c w why = r why
stops_so stops.Cut r c w why = c why
stops_so stops.Write r c w why = w why
stops_so stops.Memory r c w why = tt

-- where nothing was printed yet
pub unprinted : (long read : Type 0) (file : Change SourceShown) (out : Change SinkShown) (stop : Stop) → IsSilent out
    → StopsBy (ReadFailed file) long ⊥ stop → FileStops long read file out stop
unprinted long read file out stop silent why = stops_so stop (λ failed. (failed, silent)) (λ long. (long, silent)) (λ no. absurd no) why

-- ---- receivers that nothing was done to

pub kept : {S : Type 0} (s : sources.Ghosts S) (readers : List (Reader S)) → Each LosesNothing (reader_changes s readers readers)
kept s [] = tt
kept s (r ∷ readers) = (refl, kept s readers)

pub unread : {S : Type 0} (s : sources.Ghosts S) (readers : List (Reader S)) → Each IsUnread (reader_changes s readers readers)
unread s [] = tt
unread s (r ∷ readers) = (refl, unread s readers)

-- ---- a receiver among others

module _ (s k : Bool) (before : ℕ) (r : Change SourceShown) (later : List (Change SourceShown)) (b : List ℕ) (bytes : List (List ℕ)) where
  at_first : (why : Change SourceShown → Type 0) (old new : List ℕ) → Each IsUnread later → why r → new ≡ old
      → StopsAt s k why before (r ∷ later) (b ∷ bytes) old new
  at_first why old new waiting reason same = record {
    place = zero;
    stopped = (reason, waiting);
    printed = λ tells sinks_tell. same ∙ sym (append-nil old);
  }

  at_later : (why : Change SourceShown → Type 0) (old mid new : List ℕ) → (IsTrue s → IsHeardOut r)
      → (IsTrue s → IsTrue k → mid ≡ old ++ receiver_lines (before + 1) (faulty_lines (all_lines b)))
      → StopsAt s k why (before + 1) later bytes mid new → StopsAt s k why before (r ∷ later) (b ∷ bytes) old new
  at_later why old mid new heard printed at = record {
    place = suc at.place;
    stopped = (heard, at.stopped);
    printed = λ tells sinks_tell.
        at.printed tells sinks_tell
        ∙ ap (λ t. t ++ receivers_text (before + 1) (take at.place bytes)) (printed tells sinks_tell)
        ∙ append_assoc old (receiver_lines (before + 1) (faulty_lines (all_lines b))) (receivers_text (before + 1) (take at.place bytes));
  }

  -- it stops at the first one
  pub first_stops : (read : Type 0) (out : Change SinkShown) (stop : Stop) → Each IsUnread later → FileStops (IsLong s r) read r out stop
      → ReceiversStop s k before (r ∷ later) (b ∷ bytes) out stop
  first_stops read out stop waiting why =
      stops_so stop (λ w. at_first ReadFailed out.before.written out.now.written waiting w.0 w.1)
      (λ w. at_first (IsLong s) out.before.written out.now.written waiting w.0 w.1) (λ w. w.0) why

  -- it stops at a later one
  pub later_stops : (old mid new : SinkShown) (stop : Stop) → (IsTrue s → IsHeardOut r)
      → (IsTrue s → IsTrue k → mid.written ≡ old.written ++ receiver_lines (before + 1) (faulty_lines (all_lines b)))
      → old.faults ≤ mid.faults
      → ReceiversStop s k (before + 1) later bytes (record { before = mid; now = new }) stop
      → ReceiversStop s k before (r ∷ later) (b ∷ bytes) (record { before = old; now = new }) stop
  later_stops old mid new stop heard printed rises why =
      stops_so stop (at_later ReadFailed old.written mid.written new.written heard printed)
      (at_later (IsLong s) old.written mid.written new.written heard printed)
      (rose_later old.faults mid.faults new.faults rises) why
