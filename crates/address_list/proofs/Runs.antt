-- What a run comes to, by how its lines ended.
use Rattle.std.proofs.Common.{Bool, true, false, ◌⊎◌, inl, inr, ◌≡◌, ◌++◌, refl, sym, ap, ◌∙◌, subst}
use Rattle.std.specs.Prelude.{IsTrue}
use Rattle.std.proofs.lemmas.List.{append-nil}
use Rattle.outer_io.specs.Shown.{Change, SinkShown, ReadFailed, WriteFailed, LosesNothing}
use Rattle.line_reader.specs.Lines.{is_over, all_lines}
use Rattle.line_teller.specs.declared.ending.LinesEnd.{LinesEnd}
use Rattle.line_teller.specs.declared.ending.LinesEnd.TheVariants as ends
use Rattle.line_teller.specs.Ending.{Ended, EndsLines, EndsText}
use Rattle.address_list.specs.declared.telling.Addresses.{Addresses}
use Rattle.address_list.specs.Addresses.{addresses_text}
use Rattle.address_list.specs.Telling.{TellsAddress}
use Rattle.address_list.specs.Run.{Run, IsRun, IsDone, IsListed, IsUnhindered}
use Rattle.address_list.proofs.Lines.{are_listed}

pub listed_run : (run : Run) (first now : Addresses) (notes_tell : Bool) (notes : Change SinkShown)
    → Ended TellsAddress first now run.end run.input.now run.out_tells run.out notes_tell notes → IsListed run
listed_run run first now notes_tell notes e = record {
  lines = e.lines;
  lines_are = e.lines_are;
  written = λ on. subst (λ t. EndsText run.end t run.out) (are_listed 1 first e.last e.lines e.text e.note e.told) (e.written on);
}

module _ (run : Run) (listed : IsTrue run.input_tells → IsListed run)
    (read : run.end ≡ ends.Read → ReadFailed run.input) (write : run.end ≡ ends.Write → WriteFailed run.out)
    (kept : IsTrue run.input_tells → LosesNothing run.input) where
  done_run : run.end ≡ ends.Done → IsTrue run.input_tells → IsDone run
  done_run is tells =
      let so = listed tells in
      let lines = subst (λ e. EndsLines e run.input.now.taken run.input.now.left so.lines) is so.lines_are in
      let all : run.input.now.taken ≡ run.input.before.taken ++ run.input.before.left =
      sym (append-nil run.input.now.taken) ∙ ap (λ l. run.input.now.taken ++ l) (sym lines.0) ∙ kept tells in
      record {
        within = ap is_over (sym all) ∙ lines.1;
        written = λ on. subst (λ e. EndsText e (addresses_text so.lines) run.out) is (so.written on)
            ∙ ap (λ ls. run.out.before.written ++ addresses_text ls) (lines.2 ∙ ap all_lines all);
      }

  cut_run : run.end ≡ ends.Cut → IsTrue run.input_tells → is_over (run.input.before.taken ++ run.input.before.left) ≡ true
  cut_run is tells =
      ap is_over (sym (kept tells))
      ∙ (subst (λ e. EndsLines e run.input.now.taken run.input.now.left (listed tells).lines) is (listed tells).lines_are).0

  complete_by : (end : LinesEnd) → run.end ≡ end → IsTrue run.input_tells → IsUnhindered run → (end ≡ ends.Done) ⊎ (end ≡ ends.Memory)
  complete_by ends.Done is tells free = inl refl
  complete_by ends.Read is tells free = absurd (free.read (read is))
  complete_by ends.Cut is tells free = absurd (let clash : true ≡ false = sym (cut_run is tells) ∙ free.within in cc)
  complete_by ends.Write is tells free = absurd (free.written (write is))
  complete_by ends.Memory is tells free = inr refl

  pub ran : IsRun run
  ran = record {
    done = done_run;
    listed = listed;
    read = read;
    write = write;
    cut = cut_run;
    complete = complete_by run.end refl;
    no_loss = kept;
  }
