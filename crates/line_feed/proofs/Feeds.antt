-- What a feed comes to, by how its lines ended.
use Rattle.std.proofs.Common.{Bool, true, false, ℕ, ◌⊎◌, ◌==◌, inl, inr, ◌≡◌, ◌≤◌, ◌<◌, ◌-◌, ◌+◌, ◌^◌, cond, [], ◌++◌, length, arith, refl, sym, ap, ◌∙◌, subst}
use Rattle.std.specs.Prelude.{IsTrue}
use Rattle.std.proofs.lemmas.List.{length-append}
use Rattle.outer_io.specs.Shown.{SinkShown, ReadFailed, WriteFailed, LosesNothing}
use Rattle.line_teller.specs.declared.ending.LinesEnd.{LinesEnd}
use Rattle.line_teller.specs.declared.ending.LinesEnd.TheVariants as ends
use Rattle.line_teller.specs.Ending.{IsNoted}
use Rattle.line_teller.proofs.Steps.{noted_then}
use Rattle.line_feed.specs.Streams.{StreamEnded}
use Rattle.line_feed.specs.declared.status.FeedStatus.TheVariants as statuses
use Rattle.line_feed.specs.Feeding.{Fed, fresh, AreFed, noted, fed_behind, FeedsLine}
use Rattle.line_feed.specs.Run.{Run, IsRun, IsFed, IsUnhindered, feeds_all, status_of, ending_of, end_notes}
use Rattle.line_feed.proofs.FedLines.{are_fed}

pub fed_run : (run : Run) (end : LinesEnd) (first now : Fed) (middle : SinkShown) → first ≡ fresh run.printing
    → StreamEnded FeedsLine first now end run.input.now run.out_tells run.out run.notes_tell (record { before = run.notes.before; now = middle })
    → run.notes.before.faults ≤ middle.faults → middle.faults ≤ run.notes.now.faults
    → (IsTrue run.notes_tell → IsNoted (end_notes end now) (record { before = middle; now = run.notes.now }))
    → run.status ≡ status_of end now.left_out → IsFed run end
fed_run run end first now middle first_is e one two noted_end status =
    let are = are_fed 1 first e.last e.lines e.text e.note e.told in
    let printing_is : first.printing ≡ run.printing = ap (λ (f : Fed). f.printing) first_is in
    let note_is : e.note ≡ noted (fresh run.printing) 1 e.lines = are.note_is ∙ ap (λ f. noted f 1 e.lines) first_is in
    let last : Fed = fed_behind (fresh run.printing) e.lines in
    let behind : e.last ≡ last = are.last_is ∙ ap (λ f. fed_behind f e.lines) first_is in
    record {
      lines = e.lines;
      text = e.text;
      lines_are = e.lines_are;
      fed = subst (λ printing. AreFed printing e.lines e.text) printing_is are.fed;
      written = e.written;
      noted = λ whole on.
          let now_is : now ≡ last = sym (e.last_is whole) ∙ behind in
          let ending : end_notes end now ≡ ending_of last = ap (λ b. cond b (ending_of now) []) whole ∙ ap ending_of now_is in
          subst (λ t. IsNoted (t ++ ending_of last) run.notes) note_is
          (subst (λ t. IsNoted (e.note ++ t) run.notes) ending
          (noted_then run.notes.before middle run.notes.now e.note (end_notes end now) one two (e.noted on) (noted_end on)));
      status = λ whole. status ∙ ap (λ (f : Fed). status_of end f.left_out) (sym (e.last_is whole) ∙ behind);
    }

-- ---- nothing stands in the way

by_count : (b : Bool) → IsTrue (feeds_all (cond b statuses.Done statuses.LeftOut))
by_count true = refl
by_count false = refl

complete_by : (run : Run) (end : LinesEnd) (left_out : ℕ) → IsFed run end
    → (end ≡ ends.Read → ReadFailed run.input) → (end ≡ ends.Write → WriteFailed run.out)
    → LosesNothing run.input → IsUnhindered run → IsTrue (feeds_all (status_of end left_out)) ⊎ (status_of end left_out ≡ statuses.Memory)
complete_by run ends.Done left_out fed read write kept u = inl (by_count (left_out == 0))
complete_by run ends.Read left_out fed read write kept u = absurd (u.read (read refl))
complete_by run ends.Cut left_out fed read write kept u =
    absurd (let all : length run.input.now.taken + length run.input.now.left ≡ length (run.input.before.taken ++ run.input.before.left) =
    sym (length-append run.input.now.taken run.input.now.left) ∙ ap length kept in
    omega (arith, all, u.within, fed.lines_are.0))
complete_by run ends.Write left_out fed read write kept u = absurd (u.written (write refl))
complete_by run ends.Memory left_out fed read write kept u = inr refl

pub ran : (run : Run) (end : LinesEnd) (left_out : ℕ) → run.status ≡ status_of end left_out → (IsTrue run.input_tells → IsFed run end)
    → (end ≡ ends.Read → ReadFailed run.input) → (end ≡ ends.Write → WriteFailed run.out)
    → (IsTrue run.input_tells → LosesNothing run.input) → IsRun run
ran run end left_out is fed read write kept = record {
  end = end;
  left_out = left_out;
  status = is;
  fed = fed;
  read = read;
  write = write;
  complete = λ tells u.
      subst (λ s. IsTrue (feeds_all s) ⊎ (s ≡ statuses.Memory)) (sym is)
      (complete_by run end left_out (fed tells) read write (kept tells) u);
  no_loss = kept;
}
