-- What a run comes to, by how its lines ended.
use Rattle.std.proofs.Common.{◌≡◌, ◌⊎◌, true, List, [], ◌++◌, ℕ, take, refl, sym, ap, ◌∙◌, subst, inl, inr}
use Rattle.std.specs.Prelude.{Bool, IsTrue, IsSome}
use Rattle.std.proofs.lemmas.List.{append-nil}
use Rattle.outer_io.specs.Bytes.{AppendsFront}
use Rattle.outer_io.specs.Shown.{Change, SinkShown, ReadFailed, WriteFailed, LosesNothing}
use Rattle.line_reader.specs.Lines.{is_over, all_lines}
use Rattle.line_teller.specs.declared.ending.LinesEnd.{LinesEnd}
use Rattle.line_teller.specs.declared.ending.LinesEnd.TheVariants as ends
use Rattle.line_teller.specs.Telling.{AreTold}
use Rattle.line_teller.specs.Ending.{Ended, EndsLines, StopsBefore}
use Rattle.usage_totals.specs.declared.answer.Answerer.{Answerer}
use Rattle.usage_totals.specs.declared.status.TotalsStatus.TheVariants as statuses
use Rattle.usage_totals.specs.Words.{totals_asked}
use Rattle.usage_totals.specs.Answering.{Keeps, AnswersLine}
use Rattle.usage_totals.specs.Run.{Run, status_of, printed, addresses_asked, IsDone, IsAnswered, IsCausedBy, IsFaultless, IsRun}
use Rattle.usage_totals.proofs.Lines.{are_answered, front_of_all}

-- what is written, by how the lines ended
module _ (run : Run) (first now : Answerer) (notes_tell : Bool) (notes : Change SinkShown)
    (named : first.addressed ≡ addresses_asked run.words) (keeps : Keeps [] first.totals)
    (empty : IsTrue run.sinks_tell → run.out.before.written ≡ []) (on : IsTrue run.sinks_tell) where
  text_is : (lines : List (List ℕ)) (text note : List ℕ) (last : Answerer) → AreTold AnswersLine 1 first lines text note last
      → text ≡ printed (addresses_asked run.words) lines
  text_is lines text note last told =
      are_answered 1 first last lines text note told [] keeps ∙ ap (λ a. printed a lines) named

  whole : (lines : List (List ℕ)) (text note : List ℕ) (last : Answerer) → AreTold AnswersLine 1 first lines text note last
      → run.out.now.written ≡ run.out.before.written ++ text → run.out.now.written ≡ printed (addresses_asked run.words) lines
  whole lines text note last told written = written ∙ ap (λ b. b ++ text) (empty on) ∙ text_is lines text note last told

  answered_by : (end : LinesEnd) → Ended AnswersLine first now end run.edits.now run.sinks_tell run.out notes_tell notes
      → (end ≡ ends.Memory → StopsBefore AnswersLine first run.lines run.sinks_tell run.out)
      → IsAnswered (addresses_asked run.words) (status_of end) run.lines run.edits.now.taken run.out.now.written
  answered_by ends.Done e stops =
      whole e.lines e.text e.note e.last e.told (e.written on) ∙ ap (printed (addresses_asked run.words)) e.lines_are.2
  answered_by ends.Cut e stops =
      whole e.lines e.text e.note e.last e.told (e.written on) ∙ ap (printed (addresses_asked run.words)) e.lines_are.1
  answered_by ends.Read e stops =
      whole e.lines e.text e.note e.last e.told (e.written on) ∙ ap (printed (addresses_asked run.words)) e.lines_are
  answered_by ends.Write e stops =
      let addressed = addresses_asked run.words in
      let text : e.text ≡ printed addressed (take e.lines_are.count (all_lines run.edits.now.taken)) =
      text_is e.lines e.text e.note e.last e.told ∙ ap (printed addressed) e.lines_are.first in
      front_of_all addressed e.lines_are.count (all_lines run.edits.now.taken) run.out.now.written
      (subst (λ t. AppendsFront t [] run.out.now.written) text
      (subst (λ b. AppendsFront e.text b run.out.now.written) (empty on) (e.written on)))
  answered_by ends.Memory e stops =
      let s = stops refl in
      let written = whole s.lines s.text s.note s.last s.told (s.written on) in
      record { before = s.lines; last = s.untold; lines_are = s.lines_are; answered = written }

module _ (run : Run) (end : LinesEnd) (status_is : run.status ≡ status_of end) (asked : IsSome (totals_asked run.words))
    (first now : Answerer) (notes_tell : Bool) (notes : Change SinkShown)
    (named : first.addressed ≡ addresses_asked run.words) (keeps : Keeps [] first.totals)
    (empty : IsTrue run.sinks_tell → run.out.before.written ≡ [])
    (ended : IsTrue run.sources_tell → Ended AnswersLine first now end run.edits.now run.sinks_tell run.out notes_tell notes)
    (stops : end ≡ ends.Memory → IsTrue run.sources_tell → StopsBefore AnswersLine first run.lines run.sinks_tell run.out)
    (read : end ≡ ends.Read → ReadFailed run.edits) (write : end ≡ ends.Write → WriteFailed run.out)
    (bytes : IsTrue run.sources_tell → LosesNothing run.edits) (untaken : IsTrue run.sources_tell → run.edits.before.taken ≡ []) where
  answered : IsTrue run.sources_tell → IsTrue run.sinks_tell
      → IsAnswered (addresses_asked run.words) (status_of end) run.lines run.edits.now.taken run.out.now.written
  answered tells on = answered_by run first now notes_tell notes named keeps empty on end (ended tells) (λ is. stops is tells)

  all_bytes : IsTrue run.sources_tell → run.edits.now.taken ++ run.edits.now.left ≡ run.edits.before.left
  all_bytes tells = bytes tells ∙ ap (λ t. t ++ run.edits.before.left) (untaken tells)

  is_done : end ≡ ends.Done → IsTrue run.sources_tell → IsDone run
  is_done is tells =
      let so = subst (λ e. EndsLines e run.edits.now.taken run.edits.now.left (ended tells).lines) is (ended tells).lines_are in
      let taken : run.edits.now.taken ≡ run.edits.now.taken ++ run.edits.now.left = sym (append-nil run.edits.now.taken)
      ∙ ap (λ t. run.edits.now.taken ++ t) (sym so.0) in
      let all : run.edits.now.taken ≡ run.edits.before.left = taken ∙ all_bytes tells in
      record {
        read = record { took_all = taken ∙ bytes tells; nothing_left = so.0 };
        within = ap is_over (sym all) ∙ so.1;
        answered = λ on.
            subst (λ e. IsAnswered (addresses_asked run.words) (status_of e) run.lines run.edits.now.taken run.out.now.written) is
            (answered tells on)
            ∙ ap (λ t. printed (addresses_asked run.words) (all_lines t)) all;
      }

  is_cut : end ≡ ends.Cut → IsTrue run.sources_tell → is_over run.edits.before.left ≡ true
  is_cut is tells =
      ap is_over (sym (all_bytes tells))
      ∙ (subst (λ e. EndsLines e run.edits.now.taken run.edits.now.left (ended tells).lines) is (ended tells).lines_are).0

  caused_by : (e : LinesEnd) → end ≡ e → IsCausedBy run (status_of e)
  caused_by ends.Done is = tt
  caused_by ends.Read is = read is
  caused_by ends.Cut is = is_cut is
  caused_by ends.Write is = write is
  caused_by ends.Memory is = tt

  complete_by : (e : LinesEnd) → end ≡ e → IsTrue run.sources_tell → IsFaultless run
      → (status_of e ≡ statuses.Done) ⊎ (status_of e ≡ statuses.Memory)
  complete_by ends.Done is tells f = inl refl
  complete_by ends.Read is tells f = absurd (f.read (read is))
  complete_by ends.Cut is tells f = cc (is_cut is tells, f.within)
  complete_by ends.Write is tells f = absurd (f.written (write is))
  complete_by ends.Memory is tells f = inr refl

  done_alone : (e : LinesEnd) → status_of e ≡ statuses.Done → e ≡ ends.Done
  done_alone ends.Done is = refl
  done_alone ends.Read is = cc
  done_alone ends.Cut is = cc
  done_alone ends.Write is = cc
  done_alone ends.Memory is = cc

  never_words : (e : LinesEnd) → status_of e ≡ statuses.Words → ⊥
  never_words ends.Done is = cc
  never_words ends.Read is = cc
  never_words ends.Cut is = cc
  never_words ends.Write is = cc
  never_words ends.Memory is = cc

  pub ran : IsRun run
  ran = record {
    done = λ is. is_done (done_alone end (sym status_is ∙ is));
    answered = λ tells on.
        subst (λ s. IsAnswered (addresses_asked run.words) s run.lines run.edits.now.taken run.out.now.written) (sym status_is)
        (answered tells on);
    caused = subst (IsCausedBy run) (sym status_is) (caused_by end refl);
    refused = λ none. cc (subst IsSome none asked);
    unread = λ is. absurd (never_words end (sym status_is ∙ is));
    complete = λ tells f. subst (λ s. (s ≡ statuses.Done) ⊎ (s ≡ statuses.Memory)) (sym status_is) (complete_by end refl tells f);
    no_loss = bytes;
  }
