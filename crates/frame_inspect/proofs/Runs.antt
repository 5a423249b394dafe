-- What a run comes to, by how its roster was loaded and how its lines ended.
use Rattle.std.proofs.Common.{Bool, true, false, inl, inr, ◌≡◌, ◌++◌, ℕ, refl, sym, ap, ◌∙◌, subst, IsTrue, Ok, Err, append-nil}
use Rattle.outer_io.specs.Shown.{Change, SinkShown, ReadFailed, WriteFailed, LosesNothing}
use Rattle.line_reader.specs.Lines.{is_over, all_lines}
use Rattle.line_teller.specs.declared.ending.LinesEnd.{LinesEnd}
use Rattle.line_teller.specs.declared.ending.LinesEnd.TheVariants as ends
use Rattle.line_teller.specs.Ending.{Ended, EndsLines, EndsText}
use Rattle.roster_file.specs.Roster.{Enrolled, roster_of}
use Rattle.roster_file.specs.declared.load.LoadFault.{LoadFault}
use Rattle.roster_file.specs.declared.load.LoadFault.TheVariants as faults
use Rattle.roster_file.specs.declared.roster.LineCause.{LineCause}
use Rattle.roster_file.specs.declared.roster.RosterFault.TheVariants.{Line}
use Rattle.frame_inspect.specs.declared.status.RecordsStatus.TheVariants as statuses
use Rattle.frame_inspect.specs.declared.telling.Opener.{Opener}
use Rattle.frame_inspect.specs.Shown.{shown_from, ShowsLine}
use Rattle.frame_inspect.specs.Statuses.{status_of}
use Rattle.frame_inspect.specs.Run.{Showing, AreShown, IsDone, IsEndCause, IsShowing, bytes_of, Run, Says, IsUnshown, showing_of, IsUnhindered, IsComplete, IsRun}
use Rattle.frame_inspect.proofs.Lines.{are_shown}

-- ---- lines that are shown

module _ (s : Showing) (first now : Opener) (notes_tell : Bool) (notes : Change SinkShown) (same : first.roster.meters ≡ s.meters)
    (ended : IsTrue s.source_tells → Ended ShowsLine first now s.end s.frames.now s.out_tells s.out notes_tell notes)
    (read : s.end ≡ ends.Read → ReadFailed s.frames) (write : s.end ≡ ends.Write → WriteFailed s.out)
    (kept : IsTrue s.source_tells → LosesNothing s.frames) where
  shown : IsTrue s.source_tells → AreShown s
  shown tells =
      let e = ended tells in
      record {
        lines = e.lines;
        lines_are = e.lines_are;
        written = λ on.
            subst (λ t. EndsText s.end t s.out)
            (are_shown 1 first e.last e.lines e.text e.note e.told ∙ ap (λ ms. shown_from ms 1 e.lines) same) (e.written on);
      }

  all_done : s.end ≡ ends.Done → IsTrue s.source_tells → IsDone s
  all_done is tells =
      let so = shown tells in
      let lines = subst (λ e. EndsLines e s.frames.now.taken s.frames.now.left so.lines) is so.lines_are in
      let all : s.frames.now.taken ≡ bytes_of s.frames =
      sym (append-nil s.frames.now.taken) ∙ ap (λ l. s.frames.now.taken ++ l) (sym lines.0) ∙ kept tells in
      record {
        within = ap is_over (sym all) ∙ lines.1;
        written = λ on. subst (λ e. EndsText e (shown_from s.meters 1 so.lines) s.out) is (so.written on)
            ∙ ap (λ ls. s.out.before.written ++ shown_from s.meters 1 ls) (lines.2 ∙ ap all_lines all);
      }

  cut : s.end ≡ ends.Cut → IsTrue s.source_tells → is_over (bytes_of s.frames) ≡ true
  cut is tells =
      ap is_over (sym (kept tells))
      ∙ (subst (λ e. EndsLines e s.frames.now.taken s.frames.now.left (shown tells).lines) is (shown tells).lines_are).0

  caused_by : (end : LinesEnd) → s.end ≡ end → IsEndCause s end
  caused_by ends.Done is = tt
  caused_by ends.Read is = read is
  caused_by ends.Write is = write is
  caused_by ends.Cut is = cut is
  caused_by ends.Memory is = tt

  pub showing : IsShowing s
  showing = record { shown = shown; done = all_done; caused = caused_by s.end refl; no_loss = kept }

-- ---- the whole run

complete_by : (run : Run) (end : LinesEnd) (roster : Enrolled) → IsTrue run.sources_tell → IsEndCause (showing_of run roster.meters end) end
    → IsUnhindered run → IsComplete (statuses.Shown end)
complete_by run ends.Done roster tells cause free = inl refl
complete_by run ends.Read roster tells cause free = absurd (free.frames_steady cause)
complete_by run ends.Write roster tells cause free = absurd (free.out_steady cause)
complete_by run ends.Cut roster tells cause free = absurd (let clash : true ≡ false = sym (cause tells) ∙ free.within in cc)
complete_by run ends.Memory roster tells cause free = inr (inl refl)

-- where the roster was loaded
pub shown_run : (run : Run) (end : LinesEnd) (roster : Enrolled) → run.status ≡ statuses.Shown end
    → (IsTrue run.sources_tell → roster_of run.keys.before.left ≡ Ok roster) → IsShowing (showing_of run roster.meters end)
    → (IsTrue run.sources_tell → LosesNothing run.keys) → IsRun run
shown_run run end roster is roster_is showing kept = record {
  says = subst (Says run) (sym is) (record { roster = roster; roster_is = roster_is; showing = showing });
  complete = λ tells free. subst IsComplete (sym is) (complete_by run end roster tells showing.caused free);
  no_loss = kept;
}

module _ (run : Run) (fault : LoadFault)
    (line : (number : ℕ) (cause : LineCause) → fault ≡ faults.Line number cause → IsTrue run.sources_tell
    → roster_of run.keys.before.left ≡ Err (Line number cause))
    (failed : fault ≡ faults.Read → ReadFailed run.keys) (unshown : IsUnshown run) where
  says_by : (f : LoadFault) → fault ≡ f → Says run (status_of f)
  says_by faults.Read is = (failed is, unshown)
  says_by (faults.Line number cause) is = (λ tells. line number cause is tells, unshown)
  says_by faults.Memory is = unshown

  unloaded_by : (f : LoadFault) → fault ≡ f → IsTrue run.sources_tell → IsUnhindered run → IsComplete (status_of f)
  unloaded_by faults.Read is tells free = absurd (free.keys_steady (failed is))
  unloaded_by (faults.Line number cause) is tells free =
      absurd (let faulty = line number cause is tells in let right = free.roster_is in cc)
  unloaded_by faults.Memory is tells free = inr (inr refl)

  -- where it wasn't
  pub unloaded_run : run.status ≡ status_of fault → (IsTrue run.sources_tell → LosesNothing run.keys) → IsRun run
  unloaded_run is kept = record {
    says = subst (Says run) (sym is) (says_by fault refl);
    complete = λ tells free. subst IsComplete (sym is) (unloaded_by fault refl tells free);
    no_loss = kept;
  }
