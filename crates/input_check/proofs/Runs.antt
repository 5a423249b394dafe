-- A whole check, by what its parts came to.
use Rattle.std.proofs.Common.{◌≡◌, ◌≤◌, ℕ, zero, suc, ◌&&◌, not, Bool, true, false, List, [], ◌∷◌, ◌++◌, length, take, Result, Ok, Err, refl, sym, ap, ap₂, ◌∙◌, subst, inl, inr, ⊎_elim, arith, nat_lt, IsTrue, IfOk, IfErr}
use Rattle.lists.specs.Each.{Each}
use Rattle.outer_io.specs.Shown.{Change, SourceShown, SinkShown, ReadFailed, WriteFailed, IsSilent}
use Rattle.outer_io.specs.declared.sources.Source as sources
use Rattle.line_reader.specs.Lines.{is_over}
use Rattle.line_reader.specs.Reader.{Reader}
use Rattle.meter_address.specs.declared.address.Address.{Address}
use Rattle.meter_address.specs.Commission.{Commissioned}
use Rattle.state_file.specs.Whole.{state_of}
use Rattle.input_check.specs.declared.states.Stop.{Stop}
use Rattle.input_check.specs.declared.states.Stop.TheVariants as stops
use Rattle.input_check.specs.Receivers.{bytes_of_each, heard_by_all, receivers_text}
use Rattle.input_check.specs.States.{is_faulty_text, meters_in, IsTooLong, IsReadWithin}
use Rattle.input_check.specs.Stops.{StopsBy, FileStops, StopsAt, ReceiversStop, IsLong, IsUnread, StopsBehind}
use Rattle.input_check.specs.Run.{Run, AddsNotes, AddsNoteFront, AddsNotesInPart, IsPrinted, IsPrintedInPart, IsChecked, StopsAtState, StopsAtReceiver, IsUnwritten, IsCausedBy, IsCut, IsFaultless, IsDone, is_compared, said_of_state, said_of_files}
use Rattle.outer_io.proofs.Fronts.{both, whole}
use Rattle.input_check.proofs.LaterFaults.{rose_later}
use Rattle.input_check.proofs.Stopping.{stops_so}

pub length-bytes_of_each : {S : Type 0} (s : sources.Ghosts S) (readers : List (Reader S)) → length (bytes_of_each s readers) ≡ length readers
length-bytes_of_each s [] = refl
length-bytes_of_each s (r ∷ readers) = ap (λ n. suc n) (length-bytes_of_each s readers)

none_stops : (tells : Bool) (why : Change SourceShown → Type 0) (n : ℕ) (receivers : List (Change SourceShown))
    → StopsBehind tells why n receivers → Each (λ r. why r → ⊥) receivers → ⊥
none_stops tells why n [] stopped steady = stopped
none_stops tells why zero (r ∷ receivers) stopped steady = steady.0 stopped.0
none_stops tells why (suc n) (r ∷ receivers) stopped steady = none_stops tells why n receivers stopped.1 steady.1

-- ---- a check that stops

module _ (run : Run) where
  at_state : (why : Type 0) → Each IsUnread run.receivers → why → IsSilent run.out → StopsAtState why run
  at_state why unread caused silent = record { caused = caused; unread = unread; silent = silent }

  -- at the state
  pub state_stops : (stop : Stop) → Each IsUnread run.receivers
      → FileStops (IsTrue run.sources_tell → IsTooLong run.state.before.left) (IsTrue run.sources_tell → IsReadWithin run.state)
      run.state run.out stop
      → IsCausedBy run stop
  state_stops stop unread why =
      stops_so stop (λ w. inl (at_state (ReadFailed run.state) unread w.0 w.1))
      (λ w. inl (at_state (IsTrue run.sources_tell → IsTooLong run.state.before.left) unread w.0 w.1))
      (λ w. record { failed = w.0; state = w.1 }) why

  module _ (mid : SinkShown) (rises : run.out.before.faults ≤ mid.faults) (read : IsTrue run.sources_tell → IsReadWithin run.state) where
    unwritten : WriteFailed (record { before = mid; now = run.out.now }) → IsUnwritten run
    unwritten failed = record { failed = rose_later run.out.before.faults mid.faults run.out.now.faults rises failed; state = read }

    module _ (said : IsTrue run.sources_tell → IsTrue run.sinks_tell
        → mid.written ≡ run.out.before.written ++ said_of_state run.state.before.left) where
      at_receiver : (why : Change SourceShown → Type 0)
          → StopsAt run.sources_tell run.sinks_tell why 0 run.receivers run.bytes mid.written run.out.now.written → StopsAtReceiver why run
      at_receiver why at = record {
        state = read;
        place = at.place;
        stopped = at.stopped;
        printed = λ tells sinks_tell.
            both (said_of_state run.state.before.left) (receivers_text 0 (take at.place run.bytes)) run.out.before.written mid.written
            run.out.now.written (said tells sinks_tell) (at.printed tells sinks_tell);
      }

      -- at a receiver
      pub receivers_stop : (stop : Stop)
          → ReceiversStop run.sources_tell run.sinks_tell 0 run.receivers run.bytes (record { before = mid; now = run.out.now }) stop
          → IsCausedBy run stop
      receivers_stop stop why =
          stops_so stop (λ w. inr (at_receiver ReadFailed w)) (λ w. inr (at_receiver (IsLong run.sources_tell) w)) unwritten why

    -- at the notes on what was heard
    pub notes_stop : (stop : Stop) → StopsBy ⊥ ⊥ (WriteFailed (record { before = mid; now = run.out.now })) stop → IsCausedBy run stop
    notes_stop stop why = stops_so stop (λ no. absurd no) (λ no. absurd no) unwritten why

-- ---- what follows of the causes

module _ (run : Run) where
  pub too_long : (checked : Result Bool Stop) → IfOk checked (λ faulty. IsTrue run.sources_tell → IsChecked run faulty)
      → IfErr checked (IsCausedBy run) → IsTrue run.sources_tell → IsTooLong run.state.before.left → IsCut checked
  too_long (Ok faulty) all why tells long = absurd (omega (arith, (all tells).state.within, long))
  too_long (Err stops.Read) all why tells long = inr (inl refl)
  too_long (Err stops.Cut) all why tells long = inl refl
  too_long (Err stops.Write) all why tells long = absurd (omega (arith, (why.state tells).within, long))
  too_long (Err stops.Memory) all why tells long = inr (inr refl)

  short_ones : (receivers : List (Change SourceShown)) → IsTrue run.sources_tell → Each (λ r. is_over r.before.left ≡ false) receivers
      → Each (λ r. IsLong run.sources_tell r → ⊥) receivers
  short_ones [] tells short = tt
  short_ones (r ∷ receivers) tells short =
      (λ long. let clash : false ≡ true = sym short.0 ∙ long tells in absurd cc, short_ones receivers tells short.1)

  pub complete : (checked : Result Bool Stop) → IfErr checked (IsCausedBy run) → IsTrue run.sources_tell → IsFaultless run → IsDone checked
  complete (Ok faulty) why tells free = tt
  complete (Err stops.Read) why tells free =
      absurd (⊎_elim (λ at. free.state_steady at.caused)
      (λ at. none_stops run.sources_tell ReadFailed at.place run.receivers at.stopped free.receivers_steady) why)
  complete (Err stops.Cut) why tells free =
      absurd (⊎_elim (λ at. free.state_short (at.caused tells))
      (λ at. none_stops run.sources_tell (IsLong run.sources_tell) at.place run.receivers at.stopped
      (short_ones run.receivers tells free.receivers_short)) why)
  complete (Err stops.Write) why tells free = absurd (free.out_steady why.failed)
  complete (Err stops.Memory) why tells free = refl

-- ---- notes on what was heard

-- of a state, readers, and what was handed on of them
module _ {S : Type 0} (s : sources.Ghosts S) (state : List ℕ) (readers : List (Reader S)) (faulty compares : Bool) (none heard lent : List Address)
    (known met : List Commissioned) (old mid last new : List ℕ) (f : faulty ≡ is_faulty_text state)
    (c : compares ≡ (not faulty && nat_lt 0 (length readers))) (n : none ≡ []) (h : heard ≡ none ++ heard_by_all (bytes_of_each s readers))
    (l : lent ≡ heard) (k : known ≡ meters_in (state_of state)) (m : met ≡ known) (said : mid ≡ old ++ said_of_state state)
    (more : last ≡ mid ++ receivers_text 0 (bytes_of_each s readers)) where
  abbrev bytes : List (List ℕ)
  bytes = bytes_of_each s readers

  compared : compares ≡ is_compared state bytes
  compared = c ∙ ap₂ (λ (b : Bool) (count : ℕ). not b && nat_lt 0 count) f (sym (length-bytes_of_each s readers))

  by_all : lent ≡ heard_by_all bytes
  by_all = l ∙ h ∙ ap (λ first. first ++ heard_by_all bytes) n

  of_files : last ≡ old ++ said_of_files state bytes
  of_files = both (said_of_state state) (receivers_text 0 bytes) old mid last said more

  noted : (P : Bool → List Address → List Commissioned → List ℕ → Type 0) → P compares lent met last
      → P (is_compared state bytes) (heard_by_all bytes) (meters_in (state_of state)) (old ++ said_of_files state bytes)
  noted P p =
      subst (λ b. P b (heard_by_all bytes) (meters_in (state_of state)) (old ++ said_of_files state bytes)) compared
      (subst (λ hs. P compares hs (meters_in (state_of state)) (old ++ said_of_files state bytes)) by_all
      (subst (λ ms. P compares lent ms (old ++ said_of_files state bytes)) (m ∙ k) (subst (P compares lent met) of_files p)))

  pub printed : AddsNotes compares lent met last new → IsPrinted state bytes old new
  printed adds = noted (λ b hs ms text. AddsNotes b hs ms text new) adds

  pub printed_in_part : AddsNotesInPart compares lent met last new → IsPrintedInPart state bytes old new
  printed_in_part (inl same) = inl (whole (said_of_files state bytes) old new (same ∙ of_files))
  printed_in_part (inr adds) = inr (noted (λ b hs ms text. AddsNoteFront b hs ms text new) adds)
