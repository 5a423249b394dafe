-- A run by how its lines ended, and by what became of the texts behind them.
use Rattle.std.proofs.Common.{◌≡◌, ◌≤◌, ◌⊎◌, ℕ, Bool, true, false, List, [], ◌++◌, map, Ok, Err, refl, sym, ap, ◌∙◌, subst, inl, inr}
use Rattle.std.specs.Prelude.{IsTrue}
use Rattle.outer_io.specs.Bytes.{AppendsFront}
use Rattle.outer_io.specs.Faults.{Rose}
use Rattle.outer_io.specs.Shown.{Change, SinkShown, ReadFailed, LosesNothing, IsReadOut, IsSilent}
use Rattle.outer_io.proofs.Fronts.{behind, both, first}
use Rattle.line_reader.specs.Lines.{is_over}
use Rattle.line_teller.specs.declared.ending.LinesEnd.{LinesEnd}
use Rattle.line_teller.specs.declared.ending.LinesEnd.TheVariants as ends
use Rattle.line_teller.specs.Ending.{Ended, EndsLines, EndsText, is_whole}
use Rattle.meter_address.specs.declared.address.Address.{Address}
use Rattle.meter_slots.specs.Journal.{Start}
use Rattle.meter_worlds.proofs.PassingWorlds.{passing_is_known}
use Rattle.receivers.specs.Alone.{steps_among}
use Rattle.receivers.proofs.Numbers.{counted_none, rose_since}
use Rattle.receivers.proofs.OneSession.{session_alone}
use Rattle.state_file.specs.Rooms.{HasRoom}
use Rattle.state_file.specs.Whole.{Known, state_of}
use Rattle.state_file.specs.declared.fault.StateFault.{StateFault}
use Rattle.state_file.specs.declared.fault.StateFault.TheVariants as faults
use Rattle.state_file.specs.Written.{state_text}
use Rattle.steps_main.specs.declared.status.StepsStatus.{StepsStatus}
use Rattle.steps_main.specs.declared.status.StepsStatus.TheVariants as statuses
use Rattle.steps_main.specs.declared.telling.Stepper.{Stepper}
use Rattle.steps_main.specs.Beginning.{IsRefusal}
use Rattle.steps_main.specs.Ending.{known_of, end_text, Finish, Finishes}
use Rattle.steps_main.specs.Run.{Run, HasWhole, HasFront, IsWhole, IsWritten, Headline, IsStill, IsCausedBy, IsFaultless, IsRun}
use Rattle.steps_main.specs.Statuses.{status_of, IsDone, IsRefused, IsUnread, was_heard, fault_status}
use Rattle.steps_main.specs.Steps.{Heard, tellings, lines_told, end_told, next_known, next_text}
use Rattle.steps_main.specs.Telling.{IsFresh, TellsLine}
use Rattle.steps_main.proofs.Ends.{left_is, end_is, room_behind}
use Rattle.steps_main.proofs.Lines.{StandsBehind, AreSo, lines_so}
use Rattle.steps_main.proofs.Told.{said_is_told}

-- ---- a run that ends before a line is read

module _ (run : Run) where
  -- a status with its cause, where nothing stands in the way
  done_by : (status : StepsStatus) → IsCausedBy run status → IsTrue run.sources_tell → IsFaultless run → IsDone status
  done_by statuses.Done cause tells free = inl refl
  done_by statuses.ReadState cause tells free = absurd (free.beginning_steady cause)
  done_by (statuses.Roster line why) cause tells free = absurd (let clash = sym free.known_is ∙ cause tells in cc)
  done_by (statuses.State line why) cause tells free = absurd (let clash = sym free.known_is ∙ cause tells in cc)
  done_by statuses.Read cause tells free = absurd (free.receiver_steady cause)
  done_by statuses.Cut cause tells free = absurd (let clash : true ≡ false = sym (cause tells) ∙ free.within in cc)
  done_by statuses.WriteNext cause tells free = absurd (free.next_steady cause)
  done_by statuses.WriteSteps cause tells free = absurd (free.out_steady cause)
  done_by statuses.Memory cause tells free = inr refl

  -- what a refusal says of its status
  record Refused (status : StepsStatus) : Type 0 where
    unheard : IsTrue (was_heard status) → ⊥
    caused : IsCausedBy run status
    first : IsTrue run.sources_tell → (fault : StateFault) → state_of run.beginning.before.left ≡ Err fault → IsRefused fault status

  same_fault : (fault again : StateFault) → state_of run.beginning.before.left ≡ Err fault → state_of run.beginning.before.left ≡ Err again
      → fault_status again ≡ fault_status fault
  same_fault fault again one other = let is : again ≡ fault = cc in ap fault_status is

  refusal_is : (status : StepsStatus) → IsRefusal run.sources_tell run.beginning status → Refused status
  refusal_is statuses.ReadState refusal =
      record { unheard = λ heard. cc; caused = refusal; first = λ tells fault faulty. inr (inl refl) }
  refusal_is (statuses.Roster line why) refusal = record {
    unheard = λ heard. cc;
    caused = refusal;
    first = λ tells fault faulty. inl (same_fault fault (faults.Roster line why) faulty (refusal tells));
  }
  refusal_is (statuses.State line why) refusal = record {
    unheard = λ heard. cc;
    caused = refusal;
    first = λ tells fault faulty. inl (same_fault fault (faults.Line line why) faulty (refusal tells));
  }
  refusal_is statuses.Memory refusal = record { unheard = λ heard. cc; caused = tt; first = λ tells fault faulty. inr (inr refl) }
  refusal_is _ refusal = absurd refusal

  pub refused_run : IsRefusal run.sources_tell run.beginning run.status → run.next.now ≡ run.next.before
      → run.out.now ≡ run.out.before → (IsTrue run.sources_tell → LosesNothing run.beginning)
      → run.receiver.now ≡ run.receiver.before → IsRun run
  refused_run refusal next out kept same =
      let refused = refusal_is run.status refusal in
      let still : IsStill run = record {
        next = ap (λ (s : SinkShown). s.written) next;
        out = ap (λ (s : SinkShown). s.written) out;
      } in record {
        headline = λ was tells. absurd (refused.unheard was);
        unmade = λ memory tells. inl still;
        still = λ unread. still;
        caused = refused.caused;
        refused = refused.first;
        complete = done_by run.status refused.caused;
        no_loss = λ tells. (kept tells, ap (λ s. s.taken ++ s.left) same);
      }

-- ---- ends

whole_text : (end : LinesEnd) (text : List ℕ) (sink : Change SinkShown) → IsTrue (is_whole end) → EndsText end text sink → HasWhole text sink
whole_text ends.Write text sink whole ends = absurd cc
whole_text ends.Memory text sink whole ends = absurd cc
whole_text _ text sink whole ends = ends

written_whole : (end : LinesEnd) (h : Heard) (run : Run) → IsTrue (is_whole end) → IsWhole h run → IsWritten (status_of end) h run
written_whole ends.Write h run whole w = absurd cc
written_whole ends.Memory h run whole w = absurd cc
written_whole _ h run whole w = w

written_short : (end : LinesEnd) (h : Heard) (run : Run) → is_whole end ≡ false → (IsTrue run.next_tells → IsSilent run.next)
    → (IsTrue run.out_tells → EndsText end (lines_told h.known [] 1 h.lines) run.out) → IsWritten (status_of end) h run
written_short ends.Write h run short next out =
    record { next = λ tells. inl (next tells); out = λ tells. first (lines_told h.known [] 1 h.lines) (end_told h) _ _ (out tells) }
written_short ends.Memory h run short next out = record { next = next; out = out }
written_short _ h run short next out = absurd cc

read_by : (end : LinesEnd) → IsUnread (status_of end) → ⊥
read_by ends.Done unread = unread
read_by _ unread = unread

-- once lines were read, no status says that none was
pub unread_never : (f : Finish) → Finishes f → IsUnread f.status → ⊥
unread_never f (inl g) unread = read_by f.end (subst IsUnread g.status_is unread)
unread_never f (inr (inl g)) unread = subst IsUnread g.status_is unread
unread_never f (inr (inr (inl g))) unread = subst IsUnread g.status_is unread
unread_never f (inr (inr (inr g))) unread = read_by f.end (subst IsUnread g.status_is unread)

-- ---- a run whose lines were told

abbrev finish_of : Run → Address → Stepper → LinesEnd → SinkShown → Finish
finish_of run own now end mid = record {
  end = end;
  left = state_text (known_of own now.world);
  ending = end_text now end;
  next_tells = run.next_tells;
  next = run.next;
  out_tells = run.out_tells;
  out = record { before = mid; now = run.out.now };
  status = run.status;
}

module _ (run : Run) (state : Known) (own : Address) (starts : List Start) (first_teller now : Stepper) (end : LinesEnd) (mid : SinkShown)
    (notes_tell : Bool) (notes : Change SinkShown) (own_is : own ≡ state.own) (starts_are : starts ≡ state.starts)
    (state_found : IsTrue run.sources_tell → state_of run.beginning.before.left ≡ Ok state)
    (begun : IsTrue run.sources_tell → IsReadOut run.beginning)
    (kept : IsTrue run.sources_tell → LosesNothing run.beginning)
    (state_room : HasRoom state.starts) (fresh : IsFresh own starts first_teller)
    (ended : IsTrue run.sources_tell → Ended TellsLine first_teller now end run.receiver.now run.out_tells
    (record { before = run.out.before; now = mid }) notes_tell notes)
    (read : end ≡ ends.Read → ReadFailed run.receiver)
    (write : end ≡ ends.Write → Rose run.out.before.faults mid.faults)
    (later : run.out.before.faults ≤ mid.faults)
    (receiver_kept : IsTrue run.sources_tell → LosesNothing run.receiver)
    (readable : HasRoom (known_of own now.world).starts → state_of (state_text (known_of own now.world)) ≡ Ok (known_of own now.world))
    (finishes : Finishes (finish_of run own now end mid)) where
  abbrev known : Known
  known = record { own = own; starts = starts }

  found : IsTrue run.sources_tell → state_of run.beginning.before.left ≡ Ok known
  found tells = state_found tells ∙ (λ i. Ok (record { own = sym own_is i; starts = sym starts_are i }))

  room : HasRoom starts
  room = subst HasRoom (sym starts_are) state_room

  stands_first : StandsBehind known [] first_teller
  unfolding steps_among
  stands_first = record {
    meters = fresh.meters;
    counts = fresh.counts ∙ counted_none (map (λ (c : Start). c.address) starts);
  }

  module _ (tells : IsTrue run.sources_tell) where
    abbrev heard : Heard
    heard = record { known = known; lines = (ended tells).lines; end = end }

    so : AreSo known [] 1 (ended tells).lines (ended tells).text (ended tells).last
    so = lines_so known room.apart said_is_told 1 [] refl first_teller (ended tells).last (ended tells).lines (ended tells).text (ended tells).note
        stands_first (ended tells).told

    stands : IsTrue (is_whole end) → StandsBehind known (tellings heard) now
    stands whole = subst (StandsBehind known (tellings heard)) ((ended tells).last_is whole) so.stands

    left : IsTrue (is_whole end) → known_of own now.world ≡ next_known heard
    left whole = left_is passing_is_known heard now (stands whole)

    ending : IsTrue (is_whole end) → end_text now end ≡ end_told heard
    ending whole = end_is passing_is_known heard now (stands whole)

    read_back : IsTrue (is_whole end) → state_of (next_text heard) ≡ Ok (next_known heard)
    read_back whole =
        subst (λ (k : Known). state_of (state_text k) ≡ Ok k) (left whole)
        (readable (subst (λ (k : Known). HasRoom k.starts) (sym (left whole)) (room_behind heard room)))

    told : IsTrue (is_whole end) → IsTrue run.out_tells → mid.written ≡ run.out.before.written ++ lines_told known [] 1 (ended tells).lines
    told whole on =
        whole_text end (ended tells).text (record { before = run.out.before; now = mid }) whole ((ended tells).written on)
        ∙ ap (λ t. run.out.before.written ++ t) so.text_is

    written_by : Finishes (finish_of run own now end mid) → IsWritten run.status heard run
    written_by (inl f) = subst (λ s. IsWritten s heard run) (sym f.status_is) (written_whole end heard run f.whole (record {
      ended = f.status_is;
      next = λ on. subst (λ (k : Known). HasWhole (state_text k) run.next) (left f.whole) (f.next on);
      out = λ on.
          both (lines_told known [] 1 (ended tells).lines) (end_told heard) run.out.before.written mid.written run.out.now.written
          (told f.whole on) (f.out on ∙ ap (λ t. mid.written ++ t) (ending f.whole));
    }))
    written_by (inr (inl f)) = subst (λ s. IsWritten s heard run) (sym f.status_is) (record {
      ended = f.whole;
      next = λ on. subst (λ (k : Known). HasFront (state_text k) run.next) (left f.whole) (f.next on);
      out = λ on. ap (λ (s : SinkShown). s.written) f.out ∙ told f.whole on;
    })
    written_by (inr (inr (inl f))) = subst (λ s. IsWritten s heard run) (sym f.status_is) (record {
      next = λ on. inr (f.whole, subst (λ (k : Known). HasWhole (state_text k) run.next) (left f.whole) (f.next on));
      out = λ on.
          behind (lines_told known [] 1 (ended tells).lines) (end_told heard) run.out.before.written mid.written run.out.now.written
          (told f.whole on) (subst (λ t. AppendsFront t mid.written run.out.now.written) (ending f.whole) (f.out on));
    })
    written_by (inr (inr (inr f))) = subst (λ s. IsWritten s heard run) (sym f.status_is)
        (written_short end heard run f.short (λ on. ap (λ (s : SinkShown). s.written) f.next) (λ on.
        subst (λ (o : SinkShown). EndsText end (lines_told known [] 1 (ended tells).lines) (record { before = run.out.before; now = o })) (sym f.out)
        (subst (λ t. EndsText end t (record { before = run.out.before; now = mid })) so.text_is ((ended tells).written on))))

    headline : Headline run
    headline = record {
      heard = heard;
      begun = begun tells;
      known_is = found tells;
      lines = (ended tells).lines_are;
      session = session_alone own starts (tellings heard);
      left = read_back;
      written = written_by finishes;
    }

  cut_over : end ≡ ends.Cut → IsTrue run.sources_tell → is_over (run.receiver.before.taken ++ run.receiver.before.left) ≡ true
  cut_over is tells =
      ap is_over (sym (receiver_kept tells))
      ∙ (subst (λ e. EndsLines e run.receiver.now.taken run.receiver.now.left (ended tells).lines) is (ended tells).lines_are).0

  cause_of : (e : LinesEnd) → end ≡ e → run.out.now ≡ mid ⊎ IsTrue (is_whole e) → IsCausedBy run (status_of e)
  cause_of ends.Done is same = tt
  cause_of ends.Cut is same = cut_over is
  cause_of ends.Read is same = read is
  cause_of ends.Write is (inl same) = subst (λ (s : SinkShown). Rose run.out.before.faults s.faults) (sym same) (write is)
  cause_of ends.Write is (inr whole) = absurd cc
  cause_of ends.Memory is same = tt

  caused_by : Finishes (finish_of run own now end mid) → IsCausedBy run run.status
  caused_by (inl f) = subst (IsCausedBy run) (sym f.status_is) (cause_of end refl (inr f.whole))
  caused_by (inr (inl f)) = subst (IsCausedBy run) (sym f.status_is) f.failed
  caused_by (inr (inr (inl f))) = subst (IsCausedBy run) (sym f.status_is) (rose_since _ _ _ later f.failed)
  caused_by (inr (inr (inr f))) = subst (IsCausedBy run) (sym f.status_is) (cause_of end refl (inl f.out))

  pub told_run : IsRun run
  told_run = record {
    headline = λ was tells. headline tells;
    unmade = λ memory tells. inr (headline tells);
    still = λ unread. absurd (unread_never (finish_of run own now end mid) finishes unread);
    caused = caused_by finishes;
    refused = λ tells fault faulty. absurd (let clash = sym (found tells) ∙ faulty in cc);
    complete = done_by run run.status (caused_by finishes);
    no_loss = λ tells. (kept tells, receiver_kept tells);
  }
