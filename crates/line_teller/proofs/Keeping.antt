-- What users of the crate need to show that a line is told, that a note is noted, and that a text was written.
use Rattle.std.proofs.Common.{◌≡◌, ℕ, false, refl, sym, ◌∙◌, ap, append_assoc}
use Rattle.std.specs.Prelude.{List, [], ◌∷◌, ◌++◌, Result, Ok, Err, OnOk, OnErr}
use Rattle.std.proofs.lemmas.List.{append-nil}
use Rattle.outer_io.specs.declared.failures.Failed.{Failed}
use Rattle.outer_io.specs.Shown.{Change, SinkShown, WriteFailed}
use Rattle.paper.specs.InMemory.{Kept, Keeps}
use Rattle.paper.specs.Puts.{Puts}
use Rattle.paper.proofs.Keeping.{puts_keep}
use Rattle.line_teller.specs.Ending.{IsNoted}
use Rattle.line_teller.specs.Standing.{Pours}
use Rattle.line_teller.specs.Telling.{Tells}

-- a line is told by what was put on the two sheets
pub told_by : {T : Type 0} (tells : List ℕ → List ℕ → T → Type 0) (teller : T) (p p' q q' : Kept) (text note : List ℕ)
    → Puts Keeps p text p' → Puts Keeps q note q' → tells text note teller → Tells tells teller p p' q q'
told_by tells teller p p' q q' text note one two told = record {
  told_text = text;
  told_note = note;
  told = told;
  text_kept = puts_keep p p' text one;
  note_kept = puts_keep q q' note two;
}

-- a note is noted where it is written, or the write failed
pub noted_by : (result : Result (Unit {0}) Failed) (note : List ℕ) (sink : Change SinkShown)
    → OnOk result (sink.now.written ≡ sink.before.written ++ note)
    → OnErr result (WriteFailed sink) → IsNoted note sink
noted_by (Ok done) note sink ok err = λ off. ok
noted_by (Err failed) note sink ok err = λ off. absurd (off err)

-- where nothing waits any more all was written
pub poured_whole : (written sheet written' sheet' : List ℕ) → Pours written sheet written' sheet' → sheet' ≡ []
    → written' ≡ written ++ sheet
poured_whole written sheet written' sheet' poured empty =
    poured.written_is
    ∙ ap (λ t. written ++ t) (sym (poured.sheet_is ∙ ap (λ t. poured.gone ++ t) empty ∙ append-nil poured.gone))
