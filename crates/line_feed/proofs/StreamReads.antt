-- What is told of a stream, read by read.
use Rattle.std.proofs.Common.{◌≡◌, ◌≢◌, ℕ, ◌+◌, ◌-◌, ◌^◌, ◌<◌, ◌≤◌, ◌⊎◌, Bool, true, false, List, [], ◌∷◌, ◌++◌, length, take, drop, Result, Ok, Err, refl, sym, ap, ◌∙◌, subst, append_assoc, inl, inr, arith}
use Rattle.std.specs.Prelude.{IsTrue, OnOk, OnErr, IfErr}
use Rattle.std.specs.Str.Lines.{lines, strip_carriage_return}
use Rattle.std.proofs.lemmas.List.{append-nil, length-append}
use Rattle.outer_io.specs.Bytes.{AppendsFront}
use Rattle.outer_io.proofs.Fronts.{both, none as nothing_front}
use Rattle.outer_io.specs.Shown.{Change, SourceShown, SinkShown}
use Rattle.paper.specs.InMemory.{Kept}
use Rattle.line_reader.specs.Lines.{ended_lines}
use Rattle.line_reader.specs.Newlines.{newlines}
use Rattle.line_reader.proofs.LinesLemmas.{lines_alone}
use Rattle.line_teller.specs.declared.ending.LinesEnd.{LinesEnd}
use Rattle.line_teller.specs.declared.ending.LinesEnd.TheVariants as ends
use Rattle.line_teller.specs.Telling.{AreTold, Tells}
use Rattle.line_teller.specs.Ending.{AreFirst, EndsText, IsNoted, is_whole}
use Rattle.line_teller.specs.Standing.{PoursMore}
use Rattle.line_teller.proofs.Steps.{noted_then, none_noted, one_told, text_then, told_then, whole_text}
use Rattle.line_feed.specs.Opened.{Open, Keeps, StandsAt, told_line}
use Rattle.line_feed.specs.Streams.{EndsStream, StreamEnded, TellsMore, Goes, TellsLast, EndsRead, is_stop, Stops, StopsAtLine}
use Rattle.std.proofs.Math.Seq.{take-append-add}
use Rattle.std.proofs.lemmas.List.{take-append-drop}
use Rattle.line_feed.specs.Pieces.{IsPlace, Adds}
use Rattle.line_feed.proofs.Cuts.{first_by, first_behind, first_more, ended_first, ended_at, lines_at, count_at, few_at, added_at, added_ended, ended_after, finished_at}

-- ---- answers

-- a step that ends by a write alone isn't ended by a read
pub not_read : (result : Result (Unit {0}) LinesEnd) (F : Type 0) → IfErr result (λ end. (end ≡ ends.Write) × F) → result ≢ Err ends.Read
not_read (Ok done) F err = λ is. absurd cc
not_read (Err end) F err = λ is. absurd (let written = err.0 in cc)

pub not_read_by_memory : (result : Result (Unit {0}) LinesEnd) → IfErr result (λ end. end ≡ ends.Memory) → result ≢ Err ends.Read
not_read_by_memory (Ok done) err = λ is. absurd cc
not_read_by_memory (Err end) err = λ is. absurd cc

-- ---- texts

nothing_text : (end : LinesEnd) (a : SinkShown) → EndsText end [] (record { before = a; now = a })
nothing_text ends.Write a = nothing_front [] a.written
nothing_text ends.Memory a = nothing_front [] a.written
nothing_text _ a = sym (append-nil a.written)

whole_pours : (w0 w1 text : List ℕ) → w1 ≡ w0 ++ text → PoursMore text w0 [] w1 []
whole_pours w0 w1 text is = record { gone = text; written_is = is; sheet_is = sym (append-nil text) }

-- ---- ends

-- in the middle of bytes
stop_end : (end : LinesEnd) (bytes left : List ℕ) (told : List (List ℕ)) → IsTrue (is_stop end) → AreFirst told (lines bytes)
    → (end ≡ ends.Cut → 2 ^ 64 - 1 ≤ length bytes) → EndsStream end bytes left told
stop_end ends.Cut bytes left told on first many = (many refl, first)
stop_end ends.Write bytes left told on first many = first
stop_end ends.Memory bytes left told on first many = first
stop_end _ bytes left told on first many = absurd cc

stop_unwhole : (end : LinesEnd) → is_whole end ≡ false → IsTrue (is_stop end)
stop_unwhole ends.Write off = refl
stop_unwhole ends.Memory off = refl
stop_unwhole _ off = absurd cc

no_cut : (end : LinesEnd) {A : Type 0} → is_whole end ≡ false → end ≡ ends.Cut → A
no_cut end off is = let no_way : true ≡ false = ap is_whole (sym is) ∙ off in absurd cc

some_bytes : (line : List ℕ) → line ≢ [] → 0 < length line
some_bytes [] some = absurd (some refl)
some_bytes (b ∷ line) some = omega arith

module _ {T : Type 0} (tells : T → ℕ → List ℕ → List ℕ → List ℕ → T → Type 0) where
  -- ---- one line

  -- what stands on the sheets behind a line are its text and its note
  told_alone : {number : ℕ} {line : List ℕ} {old new : T} {p p' q q' : Kept} → p.text ≡ [] → q.text ≡ [] → p'.failed ≡ false → q'.failed ≡ false
      → (h : Tells (tells old number line) new p p' q q') → (p'.text ≡ h.told_text) × (q'.text ≡ h.told_note)
  told_alone no_text no_note sound sound' h = (
    (h.text_kept sound).1 ∙ ap (λ t. t ++ h.told_text) no_text,
    (h.note_kept sound').1 ∙ ap (λ t. t ++ h.told_note) no_note,
  )

  pub line_told : {number : ℕ} {line : List ℕ} {old new : T} {p p' q q' : Kept} {out_tells notes_tell : Bool} {out notes : Change SinkShown}
      → p.text ≡ [] → q.text ≡ [] → p'.failed ≡ false → q'.failed ≡ false
      → Tells (tells old number line) new p p' q q'
      → (IsTrue out_tells → out.now.written ≡ out.before.written ++ p'.text)
      → (IsTrue notes_tell → IsNoted q'.text notes)
      → TellsMore tells number old new (line ∷ []) out_tells out notes_tell notes
  line_told {out} {notes} no_text no_note sound sound' h written noted =
      let alone = told_alone no_text no_note sound sound' h in
      record {
        text = h.told_text;
        note = h.told_note;
        told = one_told tells h.told;
        written = λ on. written on ∙ ap (λ t. out.before.written ++ t) alone.0;
        noted = λ on. subst (λ t. IsNoted t notes) alone.1 (noted on);
      }

  pub line_unwritten : {number : ℕ} {line : List ℕ} {old new : T} {p p' q q' : Kept} {out_tells notes_tell : Bool} {out notes : Change SinkShown}
      → p.text ≡ [] → q.text ≡ [] → p'.failed ≡ false → q'.failed ≡ false
      → Tells (tells old number line) new p p' q q'
      → (IsTrue out_tells → AppendsFront p'.text out.before.written out.now.written)
      → (IsTrue notes_tell → IsNoted q'.text notes)
      → StopsAtLine tells number line old new ends.Write out_tells out notes_tell notes
  line_unwritten {line} {new} {out} {notes} no_text no_note sound sound' h front noted =
      let alone = told_alone no_text no_note sound sound' h in
      record {
        lines = line ∷ [];
        unwhole = refl;
        first = record { count = 1; first = refl };
        told = record {
          text = h.told_text;
          note = h.told_note;
          last = new;
          told = one_told tells h.told;
          last_is = λ on. refl;
          written = λ on. subst (λ t. AppendsFront t out.before.written out.now.written) alone.0 (front on);
          noted = λ on. subst (λ t. IsNoted t notes) alone.1 (noted on);
        };
      }

  -- nothing was told
  none_last : (end : LinesEnd) {number : ℕ} {old new : T} {out_tells notes_tell : Bool} {a x : SinkShown}
      → (IsTrue (is_whole end) → old ≡ new)
      → TellsLast tells number old new [] end out_tells (record { before = a; now = a }) notes_tell (record { before = x; now = x })
  none_last end {old} {a} {x} same = record {
    text = [];
    note = [];
    last = old;
    told = (refl, refl, refl);
    last_is = same;
    written = λ on. nothing_text end a;
    noted = λ on. none_noted x;
  }

  pub line_without_memory : {number : ℕ} {line : List ℕ} {old new : T} {end : LinesEnd} {out_tells notes_tell : Bool} {a x : SinkShown}
      → end ≡ ends.Memory
      → StopsAtLine tells number line old new end out_tells (record { before = a; now = a }) notes_tell (record { before = x; now = x })
  line_without_memory is = rw is (record {
    lines = [];
    unwhole = refl;
    first = record { count = 0; first = refl };
    told = none_last ends.Memory (λ on. absurd cc);
  })

  -- ---- lines of a read

  -- lines that were told are the last ones, too, behind which every end is one where all were told
  last_told : (end : LinesEnd) {number : ℕ} {old new : T} {ls : List (List ℕ)} {out_tells notes_tell : Bool} {out notes : Change SinkShown}
      → IsTrue (is_whole end) → TellsMore tells number old new ls out_tells out notes_tell notes
      → TellsLast tells number old new ls end out_tells out notes_tell notes
  last_told end {new} {out} on told = record {
    text = told.text;
    note = told.note;
    last = new;
    told = told.told;
    last_is = λ whole. refl;
    written = λ tells. whole_text end told.text out on (told.written tells);
    noted = told.noted;
  }

  -- the open line is finished
  pub open_goes : {bytes piece : List ℕ} {old mid new : Open} {number longest : ℕ} {t t' : T} {out_tells notes_tell : Bool}
      {out notes : Change SinkShown}
      → Adds old piece mid → number ≡ mid.finished + 1
      → ((line : List ℕ) → Keeps mid line → TellsMore tells number t t' (told_line true line ∷ []) out_tells out notes_tell notes)
      → new ≡ record { kept = []; long = false; finished = number; longest = longest }
      → StandsAt bytes old
      → Goes tells bytes (bytes ++ (piece ++ 10 ∷ [])) old new t t' out_tells out notes_tell notes
  open_goes {bytes} {piece} {old} {new} {number} {longest} {t} {t'} {out_tells} {notes_tell} {out} {notes} adds next told is s =
      let number_is : number ≡ old.finished + 1 = next ∙ ap (λ n. n + 1) adds.same in
      let line : List ℕ = strip_carriage_return (s.line ++ piece) in
      record {
        lines = line ∷ [];
        more = ended_after bytes piece [] old s adds.alone ∙ append-nil (ended_lines bytes ++ line ∷ []);
        told = subst (λ n. TellsMore tells n t t' (line ∷ []) out_tells out notes_tell notes) number_is
            (told (s.line ++ piece) (adds.kept s.line s.keeps));
        stands = finished_at bytes piece old new number longest s adds.alone number_is is;
      }

  -- the open line, with more behind it, is one whose text isn't written, or that isn't told
  pub open_stops : (rest : List ℕ) {bytes piece : List ℕ} {old mid : Open} {number : ℕ} {t t' : T} {end : LinesEnd} {out_tells notes_tell : Bool}
      {out notes : Change SinkShown}
      → Adds old piece mid → number ≡ mid.finished + 1
      → ((line : List ℕ) → Keeps mid line → StopsAtLine tells number (told_line true line) t t' end out_tells out notes_tell notes)
      → StandsAt bytes old
      → Stops tells bytes (bytes ++ (piece ++ 10 ∷ rest)) old t t' end out_tells out notes_tell notes
  open_stops rest {bytes} {piece} {old} {t} {t'} {end} {out_tells} {notes_tell} {out} {notes} adds next told s =
      let line : List ℕ = strip_carriage_return (s.line ++ piece) in
      let stop = told (s.line ++ piece) (adds.kept s.line s.keeps) in
      record {
        lines = stop.lines;
        stops = stop_unwhole end stop.unwhole;
        first = subst (AreFirst (ended_lines bytes ++ stop.lines)) (sym (ended_after bytes piece rest old s adds.alone))
            (first_more (ended_lines bytes ++ stop.lines) (ended_lines bytes ++ line ∷ []) (ended_lines rest)
            (first_behind (ended_lines bytes) stop.lines (line ∷ []) stop.first));
        many = λ cut. no_cut end stop.unwhole cut;
        told = subst (λ n. TellsLast tells n t t' stop.lines end out_tells out notes_tell notes) (next ∙ ap (λ n. n + 1) adds.same) stop.told;
      }

  -- no more is told, with whatever bytes behind
  quiet_stop : (all : List (List ℕ)) (more : List ℕ) {bytes : List ℕ} {old : Open} {t t' : T} {end : LinesEnd} {out_tells notes_tell : Bool} {a x : SinkShown}
      → ended_lines (bytes ++ more) ≡ ended_lines bytes ++ all → IsTrue (is_stop end) → (IsTrue (is_whole end) → t ≡ t')
      → (end ≡ ends.Cut → 2 ^ 64 - 1 ≤ old.finished) → StandsAt bytes old
      → Stops tells bytes (bytes ++ more) old t t' end out_tells (record { before = a; now = a }) notes_tell (record { before = x; now = x })
  quiet_stop all more {bytes} {old} {end} is stop same many s = record {
    lines = [];
    stops = stop;
    first = subst (λ ls. AreFirst ls (ended_lines (bytes ++ more))) (sym (append-nil (ended_lines bytes)))
        (first_by (ended_lines bytes) all (ended_lines (bytes ++ more)) is);
    many = λ cut. omega (arith, many cut, few_at bytes old s, length-append bytes more);
    told = none_last end same;
  }

  quiet_line : (piece rest : List ℕ) {bytes : List ℕ} {old : Open} {t t' : T} {end : LinesEnd} {out_tells notes_tell : Bool} {a x : SinkShown}
      → newlines piece ≡ 0 → IsTrue (is_stop end) → (IsTrue (is_whole end) → t ≡ t') → (end ≡ ends.Cut → 2 ^ 64 - 1 ≤ old.finished)
      → StandsAt bytes old
      → Stops tells bytes (bytes ++ (piece ++ 10 ∷ rest)) old t t' end out_tells (record { before = a; now = a }) notes_tell
      (record { before = x; now = x })
  quiet_line piece rest {bytes} {old} none stop same many s =
      quiet_stop (strip_carriage_return (s.line ++ piece) ∷ [] ++ ended_lines rest) (piece ++ 10 ∷ rest)
      (ended_after bytes piece rest old s none
      ∙ append_assoc (ended_lines bytes) (strip_carriage_return (s.line ++ piece) ∷ []) (ended_lines rest))
      stop same many s

  pub line_memory : (piece rest : List ℕ) {bytes : List ℕ} {old : Open} {t t' : T} {end : LinesEnd} {out_tells notes_tell : Bool} {a x : SinkShown}
      → newlines piece ≡ 0 → end ≡ ends.Memory → StandsAt bytes old
      → Stops tells bytes (bytes ++ (piece ++ 10 ∷ rest)) old t t' end out_tells (record { before = a; now = a }) notes_tell
      (record { before = x; now = x })
  line_memory piece rest none is s = rw is (quiet_line piece rest none refl (λ on. absurd cc) (λ cut. absurd cc) s)

  pub open_cut : (rest : List ℕ) {bytes piece : List ℕ} {old mid : Open} {t : T} {out_tells notes_tell : Bool} {a x : SinkShown}
      → Adds old piece mid → 2 ^ 64 - 1 ≤ mid.finished → StandsAt bytes old
      → Stops tells bytes (bytes ++ (piece ++ 10 ∷ rest)) old t t ends.Cut out_tells (record { before = a; now = a }) notes_tell
      (record { before = x; now = x })
  open_cut rest {piece} adds many s = quiet_line piece rest adds.alone refl (λ on. refl) (λ cut. omega (arith, adds.same, many)) s

  -- ---- bytes of a read, one after another

  pub goes_none : {bytes : List ℕ} {old : Open} {t : T} {out_tells notes_tell : Bool} {a x : SinkShown} → StandsAt bytes old
      → Goes tells bytes (bytes ++ []) old old t t out_tells (record { before = a; now = a }) notes_tell (record { before = x; now = x })
  goes_none {bytes} {old} {a} {x} s = record {
    lines = [];
    more = ap ended_lines (append-nil bytes) ∙ sym (append-nil (ended_lines bytes));
    told = record {
      text = [];
      note = [];
      told = (refl, refl, refl);
      written = λ on. sym (append-nil a.written);
      noted = λ on. none_noted x;
    };
    stands = subst (λ b. StandsAt b old) (sym (append-nil bytes)) s;
  }

  last_then : {n m : ℕ} {t t' t'' : T} {xs ys : List (List ℕ)} {end : LinesEnd} {out_tells notes_tell : Bool} {a b c x y z : SinkShown}
      → m ≡ n + length xs → x.faults ≤ y.faults → y.faults ≤ z.faults
      → TellsMore tells n t t' xs out_tells (record { before = a; now = b }) notes_tell (record { before = x; now = y })
      → TellsLast tells m t' t'' ys end out_tells (record { before = b; now = c }) notes_tell (record { before = y; now = z })
      → TellsLast tells n t t'' (xs ++ ys) end out_tells (record { before = a; now = c }) notes_tell (record { before = x; now = z })
  last_then {n} {m} {t} {t'} {xs} {ys} {end} {a} {b} {c} {x} {y} {z} at one two g h = record {
    text = g.text ++ h.text;
    note = g.note ++ h.note;
    last = h.last;
    told = told_then tells n m t t' h.last xs ys g.text h.text g.note h.note at g.told h.told;
    last_is = h.last_is;
    written = λ on. text_then end a b c g.text h.text [] (whole_pours a.written b.written g.text (g.written on)) (h.written on);
    noted = λ on. noted_then x y z g.note h.note one two (g.noted on) (h.noted on);
  }

  -- the number of the line behind those that were finished in between
  next_number : {bytes bytes' : List ℕ} {old new : Open} (xs : List (List ℕ)) → StandsAt bytes old → StandsAt bytes' new
      → ended_lines bytes' ≡ ended_lines bytes ++ xs → new.finished + 1 ≡ (old.finished + 1) + length xs
  next_number {bytes} {bytes'} {old} {new} xs s s' more =
      omega (arith, count_at bytes' new s', ap length more, length-append (ended_lines bytes) xs, count_at bytes old s)

  pub goes_then : {b0 b1 b2 : List ℕ} {o0 o1 o2 : Open} {t t' t'' : T} {out_tells notes_tell : Bool} {a b c x y z : SinkShown}
      → x.faults ≤ y.faults → y.faults ≤ z.faults → StandsAt b0 o0
      → Goes tells b0 b1 o0 o1 t t' out_tells (record { before = a; now = b }) notes_tell (record { before = x; now = y })
      → Goes tells b1 b2 o1 o2 t' t'' out_tells (record { before = b; now = c }) notes_tell (record { before = y; now = z })
      → Goes tells b0 b2 o0 o2 t t'' out_tells (record { before = a; now = c }) notes_tell (record { before = x; now = z })
  goes_then {b0} {o0} {o1} {t} {t'} {t''} {a} {b} {c} {x} {y} {z} one two s g h = record {
    lines = g.lines ++ h.lines;
    more = h.more ∙ ap (λ ls. ls ++ h.lines) g.more ∙ append_assoc (ended_lines b0) g.lines h.lines;
    told = record {
      text = g.told.text ++ h.told.text;
      note = g.told.note ++ h.told.note;
      told = told_then tells (o0.finished + 1) (o1.finished + 1) t t' t'' g.lines h.lines g.told.text h.told.text g.told.note h.told.note
          (next_number g.lines s g.stands g.more) g.told.told h.told.told;
      written = λ on. both g.told.text h.told.text a.written b.written c.written (g.told.written on) (h.told.written on);
      noted = λ on. noted_then x y z g.told.note h.told.note one two (g.told.noted on) (h.told.noted on);
    };
    stands = h.stands;
  }

  stops_then : {b0 b1 b2 : List ℕ} {o0 o1 : Open} {t t' t'' : T} {end : LinesEnd} {out_tells notes_tell : Bool} {a b c x y z : SinkShown}
      → x.faults ≤ y.faults → y.faults ≤ z.faults → StandsAt b0 o0
      → Goes tells b0 b1 o0 o1 t t' out_tells (record { before = a; now = b }) notes_tell (record { before = x; now = y })
      → Stops tells b1 b2 o1 t' t'' end out_tells (record { before = b; now = c }) notes_tell (record { before = y; now = z })
      → Stops tells b0 b2 o0 t t'' end out_tells (record { before = a; now = c }) notes_tell (record { before = x; now = z })
  stops_then {b0} {b2} one two s g h = record {
    lines = g.lines ++ h.lines;
    stops = h.stops;
    first = subst (λ ls. AreFirst ls (ended_lines b2))
        (ap (λ ls. ls ++ h.lines) g.more ∙ append_assoc (ended_lines b0) g.lines h.lines) h.first;
    many = h.many;
    told = last_then (next_number g.lines s g.stands g.more) one two g.told h.told;
  }

  -- ---- the end of a stream

  pub stop_read : {bytes bytes' left : List ℕ} {old : Open} {t t' : T} {end : LinesEnd} {out_tells notes_tell : Bool}
      {out notes : Change SinkShown} → Stops tells bytes bytes' old t t' end out_tells out notes_tell notes
      → EndsRead tells bytes bytes' left old t t' end out_tells out notes_tell notes
  stop_read {bytes} {bytes'} {left} {end} stop = record {
    lines = stop.lines;
    lines_are = stop_end end bytes' left (ended_lines bytes ++ stop.lines) stop.stops
        (ended_first (ended_lines bytes ++ stop.lines) bytes' stop.first) stop.many;
    told = stop.told;
  }

  -- no line is open
  pub ends_closed : {bytes : List ℕ} {begun : Open} {t : T} {out_tells notes_tell : Bool} {a x : SinkShown}
      → ((line : List ℕ) → Keeps begun line → line ≡ []) → StandsAt bytes begun
      → EndsRead tells bytes bytes [] begun t t ends.Done out_tells (record { before = a; now = a }) notes_tell
      (record { before = x; now = x })
  ends_closed {bytes} {begun} closed s = record {
    lines = [];
    lines_are = (refl, ap (λ ls. ended_lines bytes ++ ls) (sym (ap lines (closed s.line s.keeps))) ∙ sym (lines_at bytes begun s));
    told = none_last ends.Done (λ on. refl);
  }

  -- the count is at its end
  pub ends_cut : {bytes : List ℕ} {begun : Open} {t : T} {out_tells notes_tell : Bool} {a x : SinkShown}
      → 2 ^ 64 - 1 ≤ begun.finished → StandsAt bytes begun
      → EndsRead tells bytes bytes [] begun t t ends.Cut out_tells (record { before = a; now = a }) notes_tell
      (record { before = x; now = x })
  ends_cut {bytes} {begun} many s = record {
    lines = [];
    lines_are = (
      omega (arith, few_at bytes begun s, many),
      subst (λ ls. AreFirst ls (lines bytes)) (sym (append-nil (ended_lines bytes)))
          (first_by (ended_lines bytes) (lines s.line) (lines bytes) (lines_at bytes begun s)),
    );
    told = none_last ends.Cut (λ on. refl);
  }

  -- the open line is the last one
  last_line : {bytes : List ℕ} {begun : Open} → ((line : List ℕ) → Keeps begun line → line ≢ []) → (s : StandsAt bytes begun)
      → ended_lines bytes ++ s.line ∷ [] ≡ lines bytes
  last_line {bytes} {begun} opened s =
      ap (λ ls. ended_lines bytes ++ ls) (sym (lines_alone s.line s.alone (some_bytes s.line (opened s.line s.keeps))))
      ∙ sym (lines_at bytes begun s)

  pub ends_last : {bytes : List ℕ} {begun : Open} {number : ℕ} {t t' : T} {out_tells notes_tell : Bool} {out notes : Change SinkShown}
      → ((line : List ℕ) → Keeps begun line → line ≢ []) → number ≡ begun.finished + 1
      → ((line : List ℕ) → Keeps begun line → TellsMore tells number t t' (told_line false line ∷ []) out_tells out notes_tell notes)
      → StandsAt bytes begun
      → EndsRead tells bytes bytes [] begun t t' ends.Done out_tells out notes_tell notes
  ends_last {t} {t'} {out_tells} {notes_tell} {out} {notes} opened next told s = record {
    lines = s.line ∷ [];
    lines_are = (refl, last_line opened s);
    told = last_told ends.Done refl
        (subst (λ n. TellsMore tells n t t' (s.line ∷ []) out_tells out notes_tell notes) next (told s.line s.keeps));
  }

  pub ends_in_last : {bytes : List ℕ} {begun : Open} {number : ℕ} {t t' : T} {end : LinesEnd} {out_tells notes_tell : Bool}
      {out notes : Change SinkShown}
      → ((line : List ℕ) → Keeps begun line → line ≢ []) → number ≡ begun.finished + 1
      → ((line : List ℕ) → Keeps begun line → StopsAtLine tells number (told_line false line) t t' end out_tells out notes_tell notes)
      → StandsAt bytes begun
      → EndsRead tells bytes bytes [] begun t t' end out_tells out notes_tell notes
  ends_in_last {bytes} {t} {t'} {end} {out_tells} {notes_tell} {out} {notes} opened next told s =
      let stop = told s.line s.keeps in
      record {
        lines = stop.lines;
        lines_are = stop_end end bytes [] (ended_lines bytes ++ stop.lines) (stop_unwhole end stop.unwhole)
            (subst (AreFirst (ended_lines bytes ++ stop.lines)) (last_line opened s)
            (first_behind (ended_lines bytes) stop.lines (s.line ∷ []) stop.first))
            (λ cut. no_cut end stop.unwhole cut);
        told = subst (λ n. TellsLast tells n t t' stop.lines end out_tells out notes_tell notes) next stop.told;
      }

  -- a read failed
  pub ends_unread : {bytes left : List ℕ} {begun : Open} {t : T} {out_tells notes_tell : Bool} {a x : SinkShown}
      → EndsRead tells bytes bytes left begun t t ends.Read out_tells (record { before = a; now = a }) notes_tell
      (record { before = x; now = x })
  ends_unread {bytes} =
      record { lines = []; lines_are = append-nil (ended_lines bytes); told = none_last ends.Read (λ on. refl) }

  -- ---- a whole stream

  stream_told : (o0 : Open) {source : SourceShown} {t t' : T} {ls : List (List ℕ)} {end : LinesEnd} {out_tells notes_tell : Bool}
      {out notes : Change SinkShown} → o0.finished ≡ 0 → EndsStream end source.taken source.left ls
      → TellsLast tells (o0.finished + 1) t t' ls end out_tells out notes_tell notes
      → StreamEnded tells t t' end source out_tells out notes_tell notes
  stream_told o0 {t} {ls} fresh ends told = record {
    lines = ls;
    text = told.text;
    note = told.note;
    last = told.last;
    told = subst (λ n. AreTold tells n t ls told.text told.note told.last) (ap (λ n. n + 1) fresh) told.told;
    lines_are = ends;
    last_is = told.last_is;
    written = told.written;
    noted = told.noted;
  }

  pub stream_ends : {source : SourceShown} {bytes : List ℕ} {o0 o1 : Open} {t t' t'' : T} {end : LinesEnd} {out_tells notes_tell : Bool}
      {a b c x y z : SinkShown}
      → x.faults ≤ y.faults → y.faults ≤ z.faults → o0.finished ≡ 0 → StandsAt [] o0
      → Goes tells [] bytes o0 o1 t t' out_tells (record { before = a; now = b }) notes_tell (record { before = x; now = y })
      → EndsRead tells bytes source.taken source.left o1 t' t'' end out_tells (record { before = b; now = c }) notes_tell
      (record { before = y; now = z })
      → StreamEnded tells t t'' end source out_tells (record { before = a; now = c }) notes_tell (record { before = x; now = z })
  stream_ends {source} {o0} {end} one two fresh s g h =
      stream_told o0 fresh (subst (λ ls. EndsStream end source.taken source.left (ls ++ h.lines)) g.more h.lines_are)
      (last_then (next_number g.lines s g.stands g.more) one two g.told h.told)

  -- the count of reads is at its end
  pub stream_cut : {source : SourceShown} {o0 o1 : Open} {t t' : T} {out_tells notes_tell : Bool} {out notes : Change SinkShown}
      → o0.finished ≡ 0 → 2 ^ 64 - 1 ≤ length source.taken
      → Goes tells [] source.taken o0 o1 t t' out_tells out notes_tell notes
      → StreamEnded tells t t' ends.Cut source out_tells out notes_tell notes
  stream_cut {source} {o0} fresh many g =
      let all : List (List ℕ) = ended_lines source.taken in
      let first = ended_first all source.taken (first_by all [] all (sym (append-nil all))) in
      stream_told o0 fresh (many, subst (λ ls. AreFirst ls (lines source.taken)) g.more first) (last_told ends.Cut refl g.told)

  -- ---- the pieces of a read

  pub goes_piece : {bytes read piece : List ℕ} {at place : ℕ} {o0 o1 o2 : Open} {t t' t'' : T} {out_tells notes_tell : Bool} {a b c x y z : SinkShown}
      → x.faults ≤ y.faults → y.faults ≤ z.faults → piece ≡ take place (drop at read) → IsPlace read at place → StandsAt bytes o0
      → Goes tells bytes (bytes ++ take at read) o0 o1 t t' out_tells (record { before = a; now = b }) notes_tell
      (record { before = x; now = y })
      → ((bs : List ℕ) → StandsAt bs o1
      → Goes tells bs (bs ++ (piece ++ 10 ∷ [])) o1 o2 t' t'' out_tells (record { before = b; now = c }) notes_tell
      (record { before = y; now = z }))
      → Goes tells bytes (bytes ++ take (at + (place + 1)) read) o0 o2 t t'' out_tells (record { before = a; now = c }) notes_tell
      (record { before = x; now = z })
  goes_piece {bytes} {read} {piece} {at} {o0} {o2} {t} {t''} {out_tells} {notes_tell} {a} {c} {x} {z} one two is p s g h =
      subst (λ bs. Goes tells bytes bs o0 o2 t t'' out_tells (record { before = a; now = c }) notes_tell (record { before = x; now = z }))
      (append_assoc bytes (take at read) (piece ++ 10 ∷ []) ∙ ap (λ bs. bytes ++ bs) (ap (λ q. take at read ++ (q ++ 10 ∷ [])) is ∙ sym p.taken))
      (goes_then one two s g (h (bytes ++ take at read) g.stands))

  pub goes_rest : (read : List ℕ) (at : ℕ) {bytes rest : List ℕ} {o0 o1 o2 : Open} {t t' : T} {out_tells notes_tell : Bool} {out notes : Change SinkShown}
      → rest ≡ drop at read → newlines (drop at read) ≡ 0 → o2.finished ≡ o1.finished
      → ((line : List ℕ) → Keeps o1 line → Keeps o2 (line ++ rest))
      → Goes tells bytes (bytes ++ take at read) o0 o1 t t' out_tells out notes_tell notes
      → Goes tells bytes (bytes ++ read) o0 o2 t t' out_tells out notes_tell notes
  goes_rest read at {bytes} {o1} {o2} is none same kept g =
      let first : List ℕ = bytes ++ take at read in
      let whole : first ++ drop at read ≡ bytes ++ read =
      append_assoc bytes (take at read) (drop at read) ∙ ap (λ bs. bytes ++ bs) (take-append-drop at read) in
      record {
        lines = g.lines;
        more = ap ended_lines (sym whole) ∙ added_ended first (drop at read) o1 g.stands none ∙ g.more;
        told = g.told;
        stands = subst (λ bs. StandsAt bs o2) whole (added_at first (drop at read) o1 o2 g.stands none same
            (subst (λ q. Keeps o2 (g.stands.line ++ q)) is (kept g.stands.line g.stands.keeps)));
      }

  pub stops_piece : {bytes read piece : List ℕ} {at place : ℕ} {o0 o1 : Open} {t t' t'' : T} {end : LinesEnd} {out_tells notes_tell : Bool}
      {a b c x y z : SinkShown}
      → x.faults ≤ y.faults → y.faults ≤ z.faults → piece ≡ take place (drop at read) → IsPlace read at place → StandsAt bytes o0
      → Goes tells bytes (bytes ++ take at read) o0 o1 t t' out_tells (record { before = a; now = b }) notes_tell
      (record { before = x; now = y })
      → ((bs rest : List ℕ) → StandsAt bs o1
      → Stops tells bs (bs ++ (piece ++ 10 ∷ rest)) o1 t' t'' end out_tells (record { before = b; now = c }) notes_tell
      (record { before = y; now = z }))
      → Stops tells bytes (bytes ++ read) o0 t t'' end out_tells (record { before = a; now = c }) notes_tell (record { before = x; now = z })
  stops_piece {bytes} {read} {piece} {at} {o0} {t} {t''} {end} {out_tells} {notes_tell} {a} {c} {x} {z} one two is p s g h =
      subst (λ bs. Stops tells bytes bs o0 t t'' end out_tells (record { before = a; now = c }) notes_tell (record { before = x; now = z }))
      (append_assoc bytes (take at read) (piece ++ 10 ∷ p.rest) ∙ ap (λ bs. bytes ++ bs) (ap (λ q. take at read ++ (q ++ 10 ∷ p.rest)) is ∙ sym p.whole))
      (stops_then one two s g (h (bytes ++ take at read) p.rest g.stands))

  pub stops_rest : (read : List ℕ) (at : ℕ) {bytes : List ℕ} {o0 o1 : Open} {t t' t'' : T} {out_tells notes_tell : Bool} {a b x y : SinkShown}
      → x.faults ≤ y.faults → newlines (drop at read) ≡ 0 → StandsAt bytes o0
      → Goes tells bytes (bytes ++ take at read) o0 o1 t t' out_tells (record { before = a; now = b }) notes_tell
      (record { before = x; now = y })
      → Stops tells bytes (bytes ++ read) o0 t t'' ends.Memory out_tells (record { before = a; now = b }) notes_tell
      (record { before = x; now = y })
  stops_rest read at {bytes} {o0} {o1} {t} {t''} {out_tells} {notes_tell} {a} {b} {x} {y} one none s g =
      let first : List ℕ = bytes ++ take at read in
      subst (λ bs. Stops tells bytes bs o0 t t'' ends.Memory out_tells (record { before = a; now = b }) notes_tell (record { before = x; now = y }))
      (append_assoc bytes (take at read) (drop at read) ∙ ap (λ bs. bytes ++ bs) (take-append-drop at read))
      (stops_then one (omega arith) s g (quiet_stop [] (drop at read)
      (added_ended first (drop at read) o1 g.stands none ∙ sym (append-nil (ended_lines first)))
      refl (λ on. absurd cc) (λ cut. absurd cc) g.stands))
