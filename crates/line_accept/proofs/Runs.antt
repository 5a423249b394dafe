-- What a run comes to, by how its lines ended.
use Rattle.std.proofs.Common.{◌≡◌, ℕ, ◌⊎◌, Bool, true, false, List, [], ◌++◌, map, Ok, Err, refl, sym, ap, ◌∙◌, subst, inl, inr}
use Rattle.std.specs.Prelude.{IsTrue}
use Rattle.std.proofs.lemmas.Bool.{both_ways}
use Rattle.std.proofs.lemmas.List.{append-nil}
use Rattle.outer_io.proofs.Fronts.{none, first, behind, whole}
use Rattle.outer_io.specs.Bytes.{AppendsFront}
use Rattle.outer_io.specs.Shown.{Change, SourceShown, SinkShown, LosesNothing, IsReadOut}
use Rattle.line_reader.specs.Lines.{is_over}
use Rattle.line_teller.specs.declared.ending.LinesEnd.{LinesEnd}
use Rattle.line_teller.specs.declared.ending.LinesEnd.TheVariants as ends
use Rattle.line_teller.specs.Ending.{EndsText, Ended, is_whole}
use Rattle.line_accept.specs.declared.fence.Fence.{Fence}
use Rattle.line_accept.specs.Senders.{Sender}
use Rattle.line_accept.specs.declared.fault.SendersFault.TheVariants.{Line}
use Rattle.line_accept.specs.declared.status.AcceptStatus.{AcceptStatus}
use Rattle.line_accept.specs.declared.status.AcceptStatus.TheVariants as statuses
use Rattle.line_accept.specs.Answers.{answers_text, behind_lines, moved_text, output_text, AcceptsLine}
use Rattle.line_accept.specs.Run.{Run, Answers, Headline, IsCausedBy, IsFaultless, IsRun, IsRefused, IsSilent, IsAnswered, is_complete, status_of, was_answered, was_refused}
use Rattle.line_accept.proofs.Lines.{are_answered}

-- ---- the lines

-- the text of lines that were not all told
cut_text : (end : LinesEnd) (text : List ℕ) (out : Change SinkShown) → is_whole end ≡ false → EndsText end text out
    → out.before.written ≡ [] → AppendsFront text [] out.now.written
cut_text ends.Write text out off t none = subst (λ before. AppendsFront text before out.now.written) none t
cut_text ends.Memory text out off t none = subst (λ before. AppendsFront text before out.now.written) none t
cut_text _ text out off t none = absurd cc

-- that of lines that were
whole_text : (end : LinesEnd) (text : List ℕ) (out : Change SinkShown) → is_whole end ≡ true → EndsText end text out
    → out.before.written ≡ [] → out.now.written ≡ text
whole_text ends.Write text out on t none = absurd cc
whole_text ends.Memory text out on t none = absurd cc
whole_text _ text out on t none = t ∙ ap (λ before. before ++ text) none

-- the text is complete where all lines were told
complete_is : (end : LinesEnd) → is_complete (status_of end) ≡ is_whole end
complete_is ends.Done = refl
complete_is _ = refl

-- no line was taken, for want of memory
pub none_answered : (senders : List Sender) (deliveries : Change SourceShown) (tells : Bool) (out : Change SinkShown)
    → (IsTrue tells → out.now.written ≡ []) → Answers senders deliveries tells out statuses.Memory
none_answered senders deliveries tells out nothing = record {
  end = ends.Memory;
  lines = [];
  ends = record { count = 0; first = refl };
  status_is = inl refl;
  whole = λ on complete. absurd (let no = complete in cc);
  front = λ on. subst (λ now. AppendsFront (output_text senders []) [] now) (sym (nothing on)) (none (output_text senders []) []);
}

module _ {senders now : List Sender} {fences : List Fence} {read : SourceShown} {tells : Bool} {before middle : SinkShown}
    {end : LinesEnd} {notes_tell : Bool} {notes : Change SinkShown}
    (e : Ended AcceptsLine senders now end read tells (record { before = before; now = middle }) notes_tell notes)
    (fences_are : fences ≡ map (λ (s : Sender). s.fence) senders) (empty : IsTrue tells → before.written ≡ []) where
  abbrev answers : List ℕ
  answers = answers_text senders e.lines

  text_is : e.text ≡ answers
  text_is = (are_answered 1 senders e.last e.lines e.text e.note e.told).text_is

  answered_text : IsTrue tells → EndsText end answers (record { before = before; now = middle })
  answered_text on = subst (λ t. EndsText end t (record { before = before; now = middle })) text_is (e.written on)

  pub cut_answers : {first_read : SourceShown} {status : AcceptStatus} → status ≡ status_of end → is_whole end ≡ false
      → Answers senders (record { before = first_read; now = read }) tells (record { before = before; now = middle }) status
  cut_answers is off = record {
    end = end;
    lines = e.lines;
    ends = e.lines_are;
    status_is = inl is;
    whole = λ on complete. absurd (let no : true ≡ false = sym complete ∙ ap is_complete is ∙ complete_is end ∙ off in cc);
    front = λ on.
        first answers (moved_text (map (λ (s : Sender). s.fence) senders) (behind_lines senders e.lines)) [] middle.written
        (cut_text end answers (record { before = before; now = middle }) off (answered_text on) (empty on));
  }

  moved_is : is_whole end ≡ true → moved_text fences now ≡ moved_text (map (λ (s : Sender). s.fence) senders) (behind_lines senders e.lines)
  moved_is on =
      ap (λ (fs : List Fence). moved_text fs now) fences_are
      ∙ ap (moved_text (map (λ (s : Sender). s.fence) senders))
      (sym (e.last_is on) ∙ (are_answered 1 senders e.last e.lines e.text e.note e.told).last_is)

  answers_there : is_whole end ≡ true → IsTrue tells → middle.written ≡ answers
  answers_there on tell = whole_text end answers (record { before = before; now = middle }) on (answered_text tell) (empty tell)

  whole_there : (after : SinkShown) → is_whole end ≡ true → (IsTrue tells → after.written ≡ middle.written ++ moved_text fences now)
      → IsTrue tells → after.written ≡ output_text senders e.lines
  whole_there after on written tell =
      written tell ∙ ap (λ t. t ++ moved_text fences now) (answers_there on tell) ∙ ap (λ t. answers ++ t) (moved_is on)

  pub whole_answers : {first_read : SourceShown} {after : SinkShown} {status : AcceptStatus} → is_whole end ≡ true → status ≡ status_of end
      → (IsTrue tells → after.written ≡ middle.written ++ moved_text fences now)
      → Answers senders (record { before = first_read; now = read }) tells (record { before = before; now = after }) status
  whole_answers {first_read} {after} on is written = record {
    end = end;
    lines = e.lines;
    ends = e.lines_are;
    status_is = inl is;
    whole = λ tell complete. whole_there after on written tell;
    front = λ tell. whole (output_text senders e.lines) [] after.written (whole_there after on written tell);
  }

  pub unwritten_answers : {first_read : SourceShown} {after : SinkShown} → is_whole end ≡ true
      → (IsTrue tells → AppendsFront (moved_text fences now) middle.written after.written)
      → Answers senders (record { before = first_read; now = read }) tells (record { before = before; now = after }) statuses.Write
  unwritten_answers {first_read} {after} on front = record {
    end = end;
    lines = e.lines;
    ends = e.lines_are;
    status_is = inr refl;
    whole = λ tell complete. absurd (let no = complete in cc);
    front = λ tell.
        subst (λ t. AppendsFront (answers ++ t) [] after.written) (moved_is on)
        (behind answers (moved_text fences now) [] middle.written after.written (answers_there on tell) (front tell));
  }

-- ---- all of it

-- the bytes that a fresh source had
all_bytes : (source : Change SourceShown) → source.before.taken ≡ [] → LosesNothing source
    → source.now.taken ++ source.now.left ≡ source.before.left
all_bytes source fresh kept = kept ∙ ap (λ (x : List ℕ). x ++ source.before.left) fresh

read_out : (source : Change SourceShown) → LosesNothing source → source.now.left ≡ [] → IsReadOut source
read_out source kept none = record {
  took_all = sym (append-nil source.now.taken) ∙ ap (λ (x : List ℕ). source.now.taken ++ x) (sym none) ∙ kept;
  nothing_left = none;
}

answered_cause : (run : Run) (status : AcceptStatus) → (IsTrue run.sources_tell → run.deliveries.before.taken ≡ [])
    → (IsTrue run.sources_tell → LosesNothing run.deliveries) → IsAnswered run.sources_tell run.deliveries run.out status
    → IsCausedBy run status
answered_cause run statuses.Done fresh kept h = λ t. read_out run.deliveries (kept t) (h t).0
answered_cause run statuses.ReadSenders fresh kept h = absurd h
answered_cause run (statuses.Senders line cause) fresh kept h = absurd h
answered_cause run statuses.Cut fresh kept h = λ t. ap is_over (sym (all_bytes run.deliveries (fresh t) (kept t))) ∙ h t
answered_cause run statuses.Memory fresh kept h = tt
answered_cause run _ fresh kept h = h

refused_cause : (run : Run) (status : AcceptStatus) → IsRefused run.sources_tell run.senders status
    → (was_answered status ≡ false) × IsCausedBy run status
refused_cause run statuses.ReadSenders h = (refl, h)
refused_cause run (statuses.Senders line cause) h = (refl, h)
refused_cause run statuses.Memory h = (refl, tt)
refused_cause run _ h = absurd h

complete_by : (run : Run) → IsTrue run.sources_tell → IsFaultless run → (status : AcceptStatus) → IsCausedBy run status
    → (status ≡ statuses.Done) ⊎ (status ≡ statuses.Memory)
complete_by run tells f statuses.Done c = inl refl
complete_by run tells f statuses.Words c = absurd c
complete_by run tells f statuses.ReadSenders c = absurd (f.senders_steady c)
complete_by run tells f (statuses.Senders line cause) c =
    absurd (let clash : Ok f.senders ≡ Err (Line line cause) = sym f.senders_are ∙ c tells in cc)
complete_by run tells f statuses.Read c = absurd (f.deliveries_steady c)
complete_by run tells f statuses.Cut c = absurd (both_ways (is_over run.deliveries.before.left) f.within (c tells))
complete_by run tells f statuses.Write c = absurd (f.out_steady c)
complete_by run tells f statuses.Memory c = inr refl

-- lines that were answered had senders
answered_by_senders : (run : Run) (status : AcceptStatus) → IsAnswered run.sources_tell run.deliveries run.out status
    → IsTrue (was_refused status) → ⊥
answered_by_senders run statuses.ReadSenders h refused = h
answered_by_senders run (statuses.Senders line cause) h refused = h
answered_by_senders run _ h refused = absurd (let no = refused in cc)

pub answered_run : (run : Run) → (IsTrue run.sources_tell → Headline run) → (IsTrue run.sources_tell → run.deliveries.before.taken ≡ [])
    → IsAnswered run.sources_tell run.deliveries run.out run.status → (IsTrue run.sources_tell → LosesNothing run.senders)
    → (IsTrue run.sources_tell → LosesNothing run.deliveries) → IsRun run
answered_run run headline fresh h senders deliveries =
    let caused = answered_cause run run.status fresh deliveries h in
    record {
      headline = λ on. headline;
      silent = λ refused. absurd (answered_by_senders run run.status h refused);
      memory = λ is tells. inr (headline tells);
      caused = caused;
      complete = λ tells f. complete_by run tells f run.status caused;
      senders_kept = senders;
      deliveries_kept = deliveries;
    }

pub refused_run : (run : Run) → IsRefused run.sources_tell run.senders run.status → IsSilent run
    → (IsTrue run.sources_tell → LosesNothing run.senders) → (IsTrue run.sources_tell → LosesNothing run.deliveries) → IsRun run
refused_run run h silent senders deliveries =
    let cause = refused_cause run run.status h in
    record {
      headline = λ on tells. absurd (let off = sym cause.0 ∙ on in cc);
      silent = λ refused. silent;
      memory = λ is tells. inl silent;
      caused = cause.1;
      complete = λ tells f. complete_by run tells f run.status cause.1;
      senders_kept = senders;
      deliveries_kept = deliveries;
    }
