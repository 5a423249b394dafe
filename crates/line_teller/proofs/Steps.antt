-- Steps of lines that are told, one after another.
use Rattle.std.proofs.Common.{◌≡◌, ℕ, ◌+◌, ◌<◌, ◌≤◌, ◌⊎◌, Bool, true, false, List, [], ◌∷◌, ◌++◌, length, take, drop, Result, Ok, Err, refl, sym, ap, ◌∙◌, subst, append_assoc, inl, inr, ⊎_elim, arith}
use Rattle.std.specs.Prelude.{IsTrue, IfErr, OnOk, OnErr}
use Rattle.std.proofs.lemmas.Bool.{cases_Bool, cases_lt}
use Rattle.std.proofs.lemmas.List.{append-nil, length-append, take-append-drop}
use Rattle.std.proofs.Math.Seq.{take-append_seam, take-append-add}
use Rattle.outer_io.specs.Bytes.{AppendsFront}
use Rattle.outer_io.proofs.Fronts.{none, behind, both}
use Rattle.outer_io.specs.Faults.{Rose}
use Rattle.outer_io.specs.Shown.{Change, SourceShown, SinkShown, WriteFailed}
use Rattle.line_reader.specs.declared.next.NextText.{NextText}
use Rattle.line_reader.specs.declared.next.NextText.TheVariants as texts
use Rattle.line_reader.specs.Lines.{all_lines}
use Rattle.line_reader.specs.Reader.{GivesText, GivesLongLine}
use Rattle.line_teller.specs.declared.ending.LinesEnd.{LinesEnd}
use Rattle.line_teller.specs.declared.ending.LinesEnd.TheVariants as ends
use Rattle.line_teller.specs.Telling.{TellsFirst, AreTold}
use Rattle.line_teller.specs.Ending.{AreFirst, EndsLines, EndsText, IsNoted, IsEndOf, is_whole, Ended, HearsLine}
use Rattle.line_teller.proofs.Keeping.{poured_whole}
use Rattle.line_teller.specs.Standing.{Pours, PoursMore, Steps, TellsOne, EndsStep, Stands}

-- ---- what the reader gives

-- the lines before one of the first lines are first ones
first_before : (lines all : List (List ℕ)) (line : List ℕ) (n : ℕ) → take n all ≡ lines ++ line ∷ [] → AreFirst lines all
first_before lines all line n e =
    let all_are : all ≡ (lines ++ line ∷ []) ++ drop n all = sym (take-append-drop n all) ∙ ap (λ t. t ++ drop n all) e in
    record {
      count = length lines;
      first = sym (ap (take (length lines)) (all_are ∙ append_assoc lines (line ∷ []) (drop n all))
          ∙ take-append_seam lines (line ∷ drop n all));
    }

pub before_line : (next : NextText) (longest : ℕ) (text : List ℕ) (lines all : List (List ℕ)) (n : ℕ) → next ≡ texts.Line
    → GivesText (Ok next) longest text lines (take n all) → AreFirst lines all
before_line next longest text lines all n is gives =
    first_before lines all text n (subst (λ k. GivesText (Ok k) longest text lines (take n all)) is gives)

pub before_long : (next : NextText) (longest : ℕ) (text : List ℕ) (lines all : List (List ℕ)) (n : ℕ) → next ≡ texts.TooLong
    → GivesText (Ok next) longest text lines (take n all) → AreFirst lines all
before_long next longest text lines all n is gives =
    let long = subst (λ k. GivesText (Ok k) longest text lines (take n all)) is gives in first_before lines all long.line n long.more

-- ---- by how a step ended

-- only want of memory ends it
pub by_memory : (result : Result (Unit {0}) LinesEnd) (X : LinesEnd → Type 0) → IfErr result (λ end. end ≡ ends.Memory) → X ends.Memory
    → IfErr result X
by_memory (Ok done) X err x = tt
by_memory (Err end) X err x = subst X (sym err) x

-- what two facts on a step that didn't end say together
pub ok_both : (result : Result (Unit {0}) LinesEnd) (P Q R : Type 0) → OnOk result P → OnOk result Q → (P → Q → R) → OnOk result R
ok_both (Ok done) P Q R p q r = r p q
ok_both (Err end) P Q R p q r = tt

-- only a write that failed ends it
pub by_write : (result : Result (Unit {0}) LinesEnd) (X : LinesEnd → Type 0) (P F : Type 0) → IfErr result (λ end. (end ≡ ends.Write) × P)
    → OnErr result F
    → (F → X ends.Write) → IfErr result X
by_write (Ok done) X P F err front x = tt
by_write (Err end) X P F err front x = subst X (sym err.0) (x front)

-- ---- notes

rose_on : (a b c : ℕ) → a ≤ b → b ≤ c → Rose a b → Rose a c
rose_on a b c first then (inl below) = inl (omega arith)
rose_on a b c first then (inr last) = elim (cases_lt a c) [
  | inl below ↦ inl below
  | inr above ↦ inr (omega arith)
]

pub rose_then : (a b c : ℕ) → a ≤ b → b ≤ c → Rose b c → Rose a c
rose_then a b c first then (inl below) = inl (omega arith)
rose_then a b c first then (inr last) = inr last

pub noted_then : (a b c : SinkShown) (note more : List ℕ) → a.faults ≤ b.faults → b.faults ≤ c.faults
    → IsNoted note (record { before = a; now = b }) → IsNoted more (record { before = b; now = c })
    → IsNoted (note ++ more) (record { before = a; now = c })
noted_then a b c note more first then one two = λ off.
    two (λ rose. off (rose_then a.faults b.faults c.faults first then rose))
    ∙ ap (λ t. t ++ more) (one (λ rose. off (rose_on a.faults b.faults c.faults first then rose)))
    ∙ append_assoc a.written note more

pub none_noted : (a : SinkShown) → IsNoted [] (record { before = a; now = a })
none_noted a = λ off. sym (append-nil a.written)

-- ---- texts

pub poured_then : (w0 w1 w2 text more sheet sheet' : List ℕ) → PoursMore text w0 [] w1 sheet → PoursMore more w1 sheet w2 sheet'
    → PoursMore (text ++ more) w0 [] w2 sheet'
poured_then w0 w1 w2 text more sheet sheet' one two = record {
  gone = one.gone ++ two.gone;
  written_is = two.written_is ∙ ap (λ t. t ++ two.gone) one.written_is ∙ append_assoc w0 one.gone two.gone;
  sheet_is = ap (λ t. t ++ more) one.sheet_is ∙ append_assoc one.gone sheet more ∙ ap (λ t. one.gone ++ t) two.sheet_is
      ∙ sym (append_assoc one.gone two.gone sheet');
}

pub text_then : (end : LinesEnd) (a b c : SinkShown) (text more sheet : List ℕ) → PoursMore text a.written [] b.written sheet
    → EndsText end (sheet ++ more) (record { before = b; now = c }) → EndsText end (text ++ more) (record { before = a; now = c })
text_then end a b c text more sheet one two =
    subst (λ t. EndsText end t (record { before = a; now = c }))
    (sym (ap (λ t. t ++ more) one.sheet_is ∙ append_assoc one.gone sheet more)) (by_end end two)
  where
    by_end : (end : LinesEnd) → EndsText end (sheet ++ more) (record { before = b; now = c })
        → EndsText end (one.gone ++ (sheet ++ more)) (record { before = a; now = c })
    by_end ends.Done two = both one.gone (sheet ++ more) a.written b.written c.written one.written_is two
    by_end ends.Cut two = both one.gone (sheet ++ more) a.written b.written c.written one.written_is two
    by_end ends.Read two = both one.gone (sheet ++ more) a.written b.written c.written one.written_is two
    by_end ends.Write two = behind one.gone (sheet ++ more) a.written b.written c.written one.written_is two
    by_end ends.Memory two = behind one.gone (sheet ++ more) a.written b.written c.written one.written_is two

-- all of a text is written
pub whole_text : (end : LinesEnd) (text : List ℕ) (sink : Change SinkShown) → IsTrue (is_whole end)
    → sink.now.written ≡ sink.before.written ++ text → EndsText end text sink
whole_text ends.Done text sink on is = is
whole_text ends.Cut text sink on is = is
whole_text ends.Read text sink on is = is
whole_text ends.Write text sink on is = absurd cc
whole_text ends.Memory text sink on is = absurd cc

-- a front of it is
pub part_text : (end : LinesEnd) (text : List ℕ) (sink : Change SinkShown) → is_whole end ≡ false
    → AppendsFront text sink.before.written sink.now.written → EndsText end text sink
part_text ends.Done text sink off is = absurd cc
part_text ends.Cut text sink off is = absurd cc
part_text ends.Read text sink off is = absurd cc
part_text ends.Write text sink off is = is
part_text ends.Memory text sink off is = is

-- ---- lines

module _ {T : Type 0} (tells : T → ℕ → List ℕ → List ℕ → List ℕ → T → Type 0) where
  pub one_told : {n : ℕ} {old new : T} {line text note : List ℕ} → tells old n line text note new
      → AreTold tells n old (line ∷ []) text note new
  one_told {new} {text} {note} told = record {
    next = new;
    first_text = text;
    first_note = note;
    later_text = [];
    later_note = [];
    told = told;
    later = (refl, refl, refl);
    text_is = sym (append-nil text);
    note_is = sym (append-nil note);
  }

  pub told_then : (n m : ℕ) (first mid last : T) (xs ys : List (List ℕ)) (text more note later : List ℕ) → m ≡ n + length xs
      → AreTold tells n first xs text note mid → AreTold tells m mid ys more later last
      → AreTold tells n first (xs ++ ys) (text ++ more) (note ++ later) last
  told_then n m first mid last [] ys text more note later e one two =
      let start : m ≡ n = omega arith in
      rw (one.0, one.1, ← one.2, ← start) two
  told_then n m first mid last (x ∷ xs) ys text more note later e one two = record {
    next = one.next;
    first_text = one.first_text;
    first_note = one.first_note;
    later_text = one.later_text ++ more;
    later_note = one.later_note ++ later;
    told = one.told;
    later = told_then (n + 1) m one.next mid last xs ys one.later_text more one.later_note later (omega arith) one.later two;
    text_is = ap (λ t. t ++ more) one.text_is ∙ append_assoc one.first_text one.later_text more;
    note_is = ap (λ t. t ++ later) one.note_is ∙ append_assoc one.first_note one.later_note later;
  }

  -- ---- the last step

  -- a line was told, and its text can't be written
  pub stopped_by_write : (n : ℕ) {number heard : ℕ} {old new : T} {source : SourceShown} {old_lines : List (List ℕ)} {out_tells : Bool}
      {out : Change SinkShown} {sheet sheet' note note' : List ℕ} {notes_tell : Bool} {notes : Change SinkShown} → heard ≡ number
      → HearsLine tells heard old_lines (take n (all_lines source.taken)) old new sheet sheet' note note' → note ≡ []
      → (IsTrue out_tells → AppendsFront sheet' out.before.written out.now.written) → (IsTrue notes_tell → IsNoted note' notes)
      → EndsStep tells number old new ends.Write source old_lines out_tells out sheet notes_tell notes
  stopped_by_write n {old} {new} {out} {notes} same h empty front noted = record {
    lines = h.line ∷ [];
    text = h.told_text;
    note = h.told_note;
    last = new;
    told = one_told (subst (λ k. tells old k h.line h.told_text h.told_note new) same h.told);
    lines_are = record { count = n; first = sym h.more };
    last_is = λ whole. refl;
    written = λ on. subst (λ t. AppendsFront t out.before.written out.now.written) h.text_is (front on);
    noted = λ on. subst (λ t. IsNoted t notes) (h.note_is ∙ ap (λ t. t ++ h.told_note) empty) (noted on);
  }

  -- what is written where no more lines are told
  last_text : (end result : LinesEnd) (sheet sheet' : List ℕ) (out : Change SinkShown) → IsEndOf end result
      → (IsTrue (is_whole end) → sheet' ≡ sheet) → (IsTrue (is_whole end) → EndsText result sheet' out)
      → (is_whole end ≡ false → out.now.written ≡ out.before.written) → EndsText result (sheet ++ []) out
  last_text end result sheet sheet' out ended same whole silent =
      subst (λ t. EndsText result t out) (sym (append-nil sheet)) (elim (cases_Bool (is_whole end)) [
        | inl on ↦ subst (λ t. EndsText result t out) (same on) (whole on)
        | inr off ↦
            part_text result sheet out (⊎_elim (λ is. ap is_whole is ∙ off) (λ wrote. ap is_whole wrote.0) ended)
            (subst (λ now. AppendsFront sheet out.before.written now) (sym (silent off)) (none sheet out.before.written))
      ])

  -- no more lines are told
  pub stopped_quietly : {number : ℕ} {old new : T} (end result : LinesEnd) {source : SourceShown} {old_lines : List (List ℕ)}
      {out_tells : Bool} {out : Change SinkShown} (sheet sheet' : List ℕ) {notes_tell : Bool} {notes : SinkShown} → IsEndOf end result
      → EndsLines end source.taken source.left old_lines → AreFirst old_lines (all_lines source.taken)
      → (IsTrue (is_whole end) → (new ≡ old) × (sheet' ≡ sheet)) → (IsTrue (is_whole end) → IsTrue out_tells → EndsText result sheet' out)
      → (is_whole end ≡ false → IsTrue out_tells → out.now.written ≡ out.before.written)
      → EndsStep tells number old new result source old_lines out_tells out sheet notes_tell (record { before = notes; now = notes })
  stopped_quietly {old} {new} end result {source} {old_lines} {out} sheet sheet' {notes} ended lines first same whole silent = record {
    lines = [];
    text = [];
    note = [];
    last = old;
    told = (refl, refl, refl);
    lines_are = subst (λ t. EndsLines result source.taken source.left t) (sym (append-nil old_lines)) (lines_of ended);
    last_is = last_of ended;
    written = λ on. last_text end result sheet sheet' out ended (λ w. (same w).1) (λ w. whole w on) (λ off. silent off on);
    noted = λ on. none_noted notes;
  }
    where
      lines_of : IsEndOf end result → EndsLines result source.taken source.left old_lines
      lines_of (inl is) = subst (λ r. EndsLines r source.taken source.left old_lines) (sym is) lines
      lines_of (inr wrote) = subst (λ r. EndsLines r source.taken source.left old_lines) (sym wrote.0) first

      last_of : IsEndOf end result → IsTrue (is_whole result) → old ≡ new
      last_of (inl is) on = sym (same (subst (λ r. IsTrue (is_whole r)) is on)).0
      last_of (inr wrote) on = sym (same wrote.1).0

  -- ---- between steps

  pub stands_on : {first now next : T} {lines lines' : List (List ℕ)} {count count' : ℕ} {out_tells : Bool} {a b c : SinkShown}
      {sheet sheet' : List ℕ} {notes_tell : Bool} {x y z : SinkShown} → count' ≡ count + 1 → x.faults ≤ y.faults → y.faults ≤ z.faults
      → Stands tells first now lines count out_tells (record { before = a; now = b }) sheet notes_tell (record { before = x; now = y })
      → Steps tells count' now next lines lines' out_tells (record { before = b; now = c }) sheet sheet' notes_tell
      (record { before = y; now = z })
      → Stands tells first next lines' count' out_tells (record { before = a; now = c }) sheet' notes_tell (record { before = x; now = z })
  stands_on {first} {now} {next} {lines} {count'} {a} {b} {c} {sheet} {sheet'} {x} {y} {z} next_is one two s step = record {
    text = s.text ++ step.text;
    note = s.note ++ step.note;
    told = subst (λ ls. AreTold tells 1 first ls (s.text ++ step.text) (s.note ++ step.note) next) (sym step.more)
        (told_then 1 count' first now next lines step.lines s.text step.text s.note step.note (omega (arith, s.counted)) s.told step.told);
    counted = ap length step.more ∙ omega (arith, length-append lines step.lines, s.counted, step.one);
    poured = λ on. poured_then a.written b.written c.written s.text step.text sheet sheet' (s.poured on) (step.poured on);
    noted = λ on. noted_then x y z s.note step.note one two (s.noted on) (step.noted on);
  }

  pub ended_then : {first now new : T} {end : LinesEnd} {source : SourceShown} {lines : List (List ℕ)} {count : ℕ} {out_tells : Bool}
      {a b c : SinkShown} {sheet : List ℕ} {notes_tell : Bool} {x y z : SinkShown} → x.faults ≤ y.faults → y.faults ≤ z.faults
      → Stands tells first now lines count out_tells (record { before = a; now = b }) sheet notes_tell (record { before = x; now = y })
      → EndsStep tells (count + 1) now new end source lines out_tells (record { before = b; now = c }) sheet notes_tell
      (record { before = y; now = z })
      → Ended tells first new end source out_tells (record { before = a; now = c }) notes_tell (record { before = x; now = z })
  ended_then {first} {now} {end} {lines} {count} {a} {b} {c} {sheet} {x} {y} {z} one two s step = record {
    lines = lines ++ step.lines;
    text = s.text ++ step.text;
    note = s.note ++ step.note;
    last = step.last;
    told = told_then 1 (count + 1) first now step.last lines step.lines s.text step.text s.note step.note (omega (arith, s.counted))
        s.told step.told;
    lines_are = step.lines_are;
    last_is = step.last_is;
    written = λ on. text_then end a b c s.text step.text sheet (s.poured on) (step.written on);
    noted = λ on. noted_then x y z s.note step.note one two (s.noted on) (step.noted on);
  }

  -- ---- one line by itself

  -- where nothing waited before a step, and nothing waits behind it, its text was written
  pub one_told_alone : {number : ℕ} {old new : T} {lines lines' : List (List ℕ)} {out_tells : Bool} {out : Change SinkShown}
      {sheet sheet' : List ℕ} {notes_tell : Bool} {notes : Change SinkShown} → sheet ≡ [] → sheet' ≡ []
      → Steps tells number old new lines lines' out_tells out sheet sheet' notes_tell notes
      → TellsOne tells number old new lines lines' out_tells out notes_tell notes
  one_told_alone {number} {old} {new} {lines} {lines'} {out_tells} {out} {sheet'} {notes_tell} {notes} nothing empty step =
      by step.lines step.one step.told step.more
    where
      written_is : IsTrue out_tells → out.now.written ≡ out.before.written ++ step.text
      written_is on =
          poured_whole out.before.written step.text out.now.written sheet'
          (subst (λ waits. PoursMore step.text out.before.written waits out.now.written sheet') nothing (step.poured on)) empty

      by : (xs : List (List ℕ)) → length xs ≡ 1 → AreTold tells number old xs step.text step.note new → lines' ≡ lines ++ xs
          → TellsOne tells number old new lines lines' out_tells out notes_tell notes
      by [] long told more = absurd (omega (arith, long))
      by (x ∷ []) long told more =
          let text_is : step.text ≡ told.first_text =
          told.text_is ∙ ap (λ t. told.first_text ++ t) told.later.0 ∙ append-nil told.first_text in
          let note_is : step.note ≡ told.first_note =
          told.note_is ∙ ap (λ t. told.first_note ++ t) told.later.1 ∙ append-nil told.first_note in
          record {
            line = x;
            text = told.first_text;
            note = told.first_note;
            told = subst (λ n. tells old number x told.first_text told.first_note n) (sym told.later.2) told.told;
            more = more;
            written = λ on. written_is on ∙ ap (λ t. out.before.written ++ t) text_is;
            noted = λ on. subst (λ t. IsNoted t notes) note_is (step.noted on);
          }
      by (x ∷ y ∷ xs) long told more = absurd (omega (arith, long))

  -- a line that was told by itself is a step behind which nothing waits
  pub step_alone : {number : ℕ} {old new : T} {lines lines' : List (List ℕ)} {out_tells : Bool} {out : Change SinkShown}
      {notes_tell : Bool} {notes : Change SinkShown}
      → TellsOne tells number old new lines lines' out_tells out notes_tell notes
      → Steps tells number old new lines lines' out_tells out [] [] notes_tell notes
  step_alone one = record {
    lines = one.line ∷ [];
    text = one.text;
    note = one.note;
    told = one_told one.told;
    one = refl;
    more = one.more;
    poured = λ on. record { gone = one.text; written_is = one.written on; sheet_is = sym (append-nil one.text) };
    noted = one.noted;
  }
