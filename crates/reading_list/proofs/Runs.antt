-- What a run comes to, by how its lines ended.
use Rattle.std.proofs.Common.{◌≡◌, ℕ, ◌+◌, ◌≤◌, ◌⊎◌, ◌||◌, not, Bool, true, false, cond, List, [], ◌++◌, refl, sym, ap, ◌∙◌, subst, inl, inr, IsTrue, append-nil}
use Rattle.std.proofs.lemmas.Bool.{both_ways}
use Rattle.outer_io.proofs.Fronts.{behind}
use Rattle.outer_io.specs.Bytes.{AppendsFront}
use Rattle.outer_io.specs.Shown.{SinkShown, WriteFailed}
use Rattle.line_teller.specs.declared.ending.LinesEnd.{LinesEnd}
use Rattle.line_teller.specs.declared.ending.LinesEnd.TheVariants as ends
use Rattle.line_teller.specs.Ending.{EndsText, IsNoted, is_whole}
use Rattle.line_teller.proofs.Steps.{noted_then, rose_then}
use Rattle.reading_list.specs.declared.lister.Lister.{Lister}
use Rattle.reading_list.specs.declared.status.ListStatus.TheVariants as statuses
use Rattle.reading_list.specs.RecordLines.{head_text}
use Rattle.reading_list.specs.Notes.{ending_text}
use Rattle.reading_list.specs.Listing.{fresh, listed, noted, lister_behind}
use Rattle.reading_list.specs.Limits.{is_over, all_lines}
use Rattle.reading_list.specs.Pages.{EndsLines, Ended}
use Rattle.reading_list.specs.Run.{Run, IsRun, IsListed, IsListedSoFar, IsCausedBy, IsUnhindered, lists_all, list_text, report_notes, is_faultless, status_of}
use Rattle.reading_list.specs.Running.{is_read_out, end_notes, ToldLines, IsToldRun}

-- ---- lines that were told

pub told_lines : (run : Run) (end : LinesEnd) (first now : Lister) (middle : SinkShown) → first ≡ fresh run.form
    → Ended first now end run.report.now run.list_tells run.out run.notes_tell (record { before = run.notes.before; now = middle })
    → run.notes.before.faults ≤ middle.faults → middle.faults ≤ run.notes.now.faults
    → (IsTrue run.notes_tell → IsNoted (end_notes end now) (record { before = middle; now = run.notes.now }))
    → run.status ≡ status_of end (is_faultless now) → ToldLines run end
told_lines run end first now middle first_is ended one two noted_end status =
    let e = subst (λ l. Ended l now end run.report.now run.list_tells run.out run.notes_tell (record { before = run.notes.before; now = middle }))
    first_is ended in
    record {
      lines = e.lines;
      lines_are = e.lines_are;
      listed = e.written;
      noted = λ whole on.
          let ending : end_notes end now ≡ ending_text (not (is_read_out end) || now.whole) now.noted =
          ap (λ b. cond b (ending_text (not (is_read_out end) || now.whole) now.noted) []) whole in
          subst (λ (l : Lister). IsNoted (noted 1 (fresh run.form) e.lines ++ ending_text (not (is_read_out end) || l.whole) l.noted) run.notes)
          (e.now_is whole) (subst (λ t. IsNoted (noted 1 (fresh run.form) e.lines ++ t) run.notes) ending
          (noted_then run.notes.before middle run.notes.now (noted 1 (fresh run.form) e.lines) (end_notes end now) one two (e.noted whole on)
          (noted_end on)));
      status = λ whole. status ∙ ap (λ (l : Lister). status_of end (is_faultless l)) (e.now_is whole);
    }

-- ---- the whole run

module _ (run : Run) (head : SinkShown) (later : run.out.before.faults ≤ head.faults) (head_is : IsTrue run.list_tells
    → head.written ≡ head_text run.form)
    (t : IsToldRun (record run { out = record { before = head; now = run.out.now } })) (later_out : head.faults ≤ run.out.now.faults)
    (untaken : IsTrue run.report_tells → run.report.before.taken ≡ []) (unnoted : IsTrue run.notes_tell
    → run.notes.before.written ≡ []) where
  all_bytes : IsTrue run.report_tells → run.report.now.taken ++ run.report.now.left ≡ run.report.before.left
  all_bytes tells = t.bytes tells ∙ ap (λ b. b ++ run.report.before.left) (untaken tells)

  wrote : t.end ≡ ends.Write → WriteFailed run.out
  wrote is = rose_then run.out.before.faults head.faults run.out.now.faults later later_out (t.write is)

  -- the ending of a run that lists all
  is_done : (end : LinesEnd) (faultless : Bool) → IsTrue (lists_all (status_of end faultless)) → end ≡ ends.Done
  is_done ends.Done faultless on = refl
  is_done _ faultless on = absurd cc

  is_listed : t.end ≡ ends.Done → IsTrue run.report_tells → IsListed run
  is_listed done tells =
      let told = t.told tells in
      let lines = subst (λ e. EndsLines e run.report.now.taken run.report.now.left told.lines) done told.lines_are in
      let taken : run.report.now.taken ≡ run.report.now.taken ++ run.report.now.left = sym (append-nil run.report.now.taken)
      ∙ ap (λ b. run.report.now.taken ++ b) (sym lines.0) in
      let all : run.report.now.taken ≡ run.report.before.left = taken ∙ all_bytes tells in
      let lines_all : told.lines ≡ all_lines run.report.before.left = lines.2 ∙ ap all_lines all in
      let whole : IsTrue (is_whole t.end) = ap is_whole done in
      record {
        read = record { took_all = taken ∙ t.bytes tells; nothing_left = lines.0 };
        within = ap is_over (sym all) ∙ lines.1;
        listed = λ on.
            subst (λ e. EndsText e (listed (fresh run.form) told.lines) (record { before = head; now = run.out.now })) done (told.listed on)
            ∙ ap (λ h. h ++ listed (fresh run.form) told.lines) (head_is on) ∙ ap (list_text run.form) lines_all;
        noted = λ on off.
            told.noted whole on off ∙ ap (λ b. b ++ noted_text t.end told.lines) (unnoted on)
            ∙ ap (λ e. noted_text e told.lines) done ∙ ap (λ ls. report_notes run.form true ls) lines_all;
        status = told.status whole ∙ ap (λ e. status_of e (is_faultless (lister_behind (fresh run.form) told.lines))) done
            ∙ ap (λ ls. status_of ends.Done (is_faultless (lister_behind (fresh run.form) ls))) lines_all;
      }
    where
      noted_text : LinesEnd → List (List ℕ) → List ℕ
      noted_text e ls =
          noted 1 (fresh run.form) ls ++ ending_text (not (is_read_out e) || (lister_behind (fresh run.form) ls).whole)
          (lister_behind (fresh run.form) ls).noted

  so_far_by : (end : LinesEnd) (faultless : Bool) (lines : List (List ℕ)) → EndsLines end run.report.now.taken run.report.now.left lines
      → EndsText end (listed (fresh run.form) lines) (record { before = head; now = run.out.now }) → head.written ≡ head_text run.form
      → IsListedSoFar (status_of end faultless) run.form run.report.now.taken run.out.now.written
  so_far_by ends.Done true lines are text h = text ∙ ap (λ b. b ++ listed (fresh run.form) lines) h ∙ ap (list_text run.form) are.2
  so_far_by ends.Done false lines are text h = text ∙ ap (λ b. b ++ listed (fresh run.form) lines) h ∙ ap (list_text run.form) are.2
  so_far_by ends.Read faultless lines are text h = text ∙ ap (λ b. b ++ listed (fresh run.form) lines) h ∙ ap (list_text run.form) are
  so_far_by ends.Cut faultless lines are text h = text ∙ ap (λ b. b ++ listed (fresh run.form) lines) h ∙ ap (list_text run.form) are.1
  so_far_by _ faultless lines are text h =
      subst (λ ls. AppendsFront (list_text run.form ls) [] run.out.now.written) are
      (behind (head_text run.form) (listed (fresh run.form) lines) [] head.written run.out.now.written h text)

  caused_by : (end : LinesEnd) (faultless : Bool) → t.end ≡ end → IsCausedBy run (status_of end faultless)
  caused_by ends.Done true is = tt
  caused_by ends.Done false is = tt
  caused_by ends.Read faultless is = t.read is
  caused_by ends.Cut faultless is = λ tells.
      ap is_over (sym (all_bytes tells))
      ∙ (subst (λ e. EndsLines e run.report.now.taken run.report.now.left (t.told tells).lines) is (t.told tells).lines_are).0
  caused_by ends.Write faultless is = wrote is
  caused_by ends.Memory faultless is = tt

  complete_by : (end : LinesEnd) (faultless : Bool) → t.end ≡ end → IsTrue run.report_tells → IsUnhindered run
      → IsTrue (lists_all (status_of end faultless)) ⊎ (status_of end faultless ≡ statuses.Memory)
  complete_by ends.Done true is tells u = inl refl
  complete_by ends.Done false is tells u = inl refl
  complete_by ends.Read faultless is tells u = absurd (u.read (t.read is))
  complete_by ends.Cut faultless is tells u = absurd (both_ways (is_over run.report.before.left) u.within (caused_by ends.Cut faultless is tells))
  complete_by ends.Write faultless is tells u = absurd (u.written (wrote is))
  complete_by ends.Memory faultless is tells u = inr refl

  pub ran : IsRun run
  ran = record {
    listed = λ on tells. is_listed (is_done t.end t.faultless (subst (λ s. IsTrue (lists_all s)) t.status on)) tells;
    so_far = λ tells on.
        subst (λ s. IsListedSoFar s run.form run.report.now.taken run.out.now.written) (sym t.status)
        (so_far_by t.end t.faultless (t.told tells).lines (t.told tells).lines_are ((t.told tells).listed on) (head_is on));
    caused = subst (IsCausedBy run) (sym t.status) (caused_by t.end t.faultless refl);
    complete = λ tells u. subst (λ s. IsTrue (lists_all s) ⊎ (s ≡ statuses.Memory)) (sym t.status)
        (complete_by t.end t.faultless refl tells u);
    no_loss = t.bytes;
  }
