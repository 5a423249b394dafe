-- The exit statuses of a run.
use Rattle.std.proofs.Common.{◌≡◌, ℕ, List, [], ◌∷◌, true, None, refl, sym, subst, IsTrue, arith}
use Rattle.std.specs.Prelude.{IsSome}
use Rattle.std.proofs.lemmas.Bool.{false≢true}
use Rattle.line_reader.specs.Lines.{all_lines}
use Rattle.frame_inspect_main.specs.declared.status.InspectStatus.{InspectStatus}
use Rattle.frame_inspect_main.specs.declared.status.InspectStatus.TheVariants as statuses
use Rattle.frame_inspect_main.specs.Run.{Run, IsRun, IsCausedBy, bytes_of, inspected}
use Rattle.frame_inspect_main.specs.Statuses.{code_of, shows_lines}
use Rattle.frame_inspect_main.specs.Words.{workers_of}
use Rattle.line_teller.specs.declared.ending.LinesEnd.TheVariants as ends
use Rattle.frame_inspect.specs.declared.status.RecordsStatus.{RecordsStatus}
use Rattle.frame_inspect.specs.declared.status.RecordsStatus.TheVariants as shown
use Rattle.frame_inspect.specs.Statuses as records
use Rattle.frame_inspect.specs.Exit.{IsRunExit, IsRecordsExit, names_records}

exit_of : (status : InspectStatus) → (status ≡ statuses.Words → ⊥) → IsRunExit (code_of status)
exit_of statuses.Done other = (0, omega arith, refl)
exit_of statuses.Words other = absurd (other refl)
exit_of statuses.Read other = (1, omega arith, refl)
exit_of statuses.Cut other = (3, omega arith, refl)
exit_of statuses.Write other = (2, omega arith, refl)
exit_of statuses.Memory other = (4, omega arith, refl)

-- where the words are right, a run doesn't end with the status of faulty words
pub run_exit : (run : Run) → IsSome run.workers → IsRun run → IsRunExit (code_of run.status)
run_exit run right is = exit_of run.status (λ e.
    let none : run.workers ≡ None = subst (IsCausedBy run) e is.caused in false≢true (subst IsSome none right))

done_of : (status : InspectStatus) → code_of status ≡ 0 → status ≡ statuses.Done
done_of statuses.Done e = refl
done_of statuses.Words e = absurd (omega (arith, e))
done_of statuses.Read e = absurd (omega (arith, e))
done_of statuses.Cut e = absurd (omega (arith, e))
done_of statuses.Write e = absurd (omega (arith, e))
done_of statuses.Memory e = absurd (omega (arith, e))

-- the output of a run whose exit status is 0
pub done_exit : (run : Run) → IsRun run → code_of run.status ≡ 0 → IsTrue run.source_tells → IsTrue run.sink_tells
    → run.output.now.written ≡ inspected (all_lines (bytes_of run))
done_exit run is zero told writes =
    let done = done_of run.status zero in
    (is.headline (subst (λ s. IsTrue (shows_lines s)) (sym done) refl) told).whole writes done

-- ---- with records

-- each status has one of the exit statuses of a run with records
pub records_exit : (status : RecordsStatus) → IsRecordsExit (records.code_of status)
records_exit shown.ReadRoster = (2, omega arith, refl)
records_exit (shown.Roster line cause) = (1, omega arith, refl)
records_exit shown.Memory = (6, omega arith, refl)
records_exit (shown.Shown ends.Done) = (0, omega arith, refl)
records_exit (shown.Shown ends.Read) = (3, omega arith, refl)
records_exit (shown.Shown ends.Write) = (4, omega arith, refl)
records_exit (shown.Shown ends.Cut) = (5, omega arith, refl)
records_exit (shown.Shown ends.Memory) = (6, omega arith, refl)

-- the words that ask for records ask for no workers
pub no_workers : (words : List (List ℕ)) → names_records words ≡ true → workers_of words ≡ None
unfolding names_records
no_workers [] asks = absurd cc
no_workers (a ∷ []) asks = absurd cc
no_workers (a ∷ b ∷ []) asks = absurd cc
no_workers (a ∷ b ∷ c ∷ words) asks = refl
