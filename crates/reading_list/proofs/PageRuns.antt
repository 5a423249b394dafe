-- Pages that are listed one after another.
use Rattle.std.proofs.Common.{◌≡◌, ℕ, ◌<◌, ◌≤◌, ◌+◌, Bool, true, false, List, [], ◌∷◌, ◌++◌, length, take, drop, Result, Ok, Err, refl, sym, ap, ◌∙◌, subst, append_assoc, append-nil, arith, IsTrue, IfErr, OnErr}
use Rattle.std.specs.Str.Lines.{lines}
use Rattle.std.proofs.lemmas.Bool.{cond-false, le-ltb, lt-ltb}
use Rattle.std.proofs.lemmas.List.{length-append, length-take, length-drop, nil_from_length, take-append-drop, take_all, take_at}
use Rattle.lists.proofs.Members.{with_fold, with_length}
use Rattle.outer_io.specs.Bytes.{Moves, AppendsFront}
use Rattle.outer_io.proofs.Fronts.{first as front_first, behind as front_behind}
use Rattle.outer_io.specs.Shown.{Change, SourceShown, SinkShown}
use Rattle.paper.specs.Pieces.{text_if}
use Rattle.line_reader.specs.Keeps.{IsFinished}
use Rattle.line_reader.specs.Lines.{ended_lines}
use Rattle.line_reader.specs.Newlines.{newlines}
use Rattle.line_reader.proofs.LinesLemmas.{ended_alone}
use Rattle.line_teller.specs.declared.ending.LinesEnd.{LinesEnd}
use Rattle.line_teller.specs.declared.ending.LinesEnd.TheVariants as ends
use Rattle.line_teller.specs.Ending.{EndsText, IsNoted, is_whole}
use Rattle.line_teller.proofs.Steps.{noted_then, part_text, poured_then, text_then}
use Rattle.reading_list.specs.declared.lister.Lister.{Lister}
use Rattle.reading_list.specs.Said.{said_of}
use Rattle.reading_list.specs.Notes.{note_text}
use Rattle.reading_list.specs.Listing.{text_of, note_of, lister_after, listed, noted, lister_behind}
use Rattle.reading_list.specs.Limits.{is_over, whole_lines, all_lines}
use Rattle.reading_list.specs.Pages.{EndsAt, EndsLines, Ended, StopsReading, ListsOne, ListsLines, IsAmid, Stands}
use Rattle.reading_list.proofs.Lines.{listed_more}
use Rattle.reading_list.proofs.PageLines.{Alike, IsCut, cut_at, finished_both, kept_alike}

-- ---- answers

pub on_err : {T E : Type 0} (result : Result T E) (P : Type 0) → P → OnErr result P
on_err (Ok done) P p = tt
on_err (Err end) P p = p

pub by_err : {T : Type 0} (result : Result T LinesEnd) (named end : LinesEnd) (P : LinesEnd → Type 0) → result ≡ Err named → named ≡ end → P end
    → IfErr result P
by_err result named end P is same p = subst (λ r. IfErr r P) (sym is) (subst P (sym same) p)

-- ---- lines that say the same, and lines behind others

-- what is listed and noted of lines, and the lister behind them, depend on what they say alone
record ListedAlike (number : ℕ) (l : Lister) (xs ys : List (List ℕ)) : Type 0 where
  pub list : listed l xs ≡ listed l ys
  pub notes : noted number l xs ≡ noted number l ys
  pub behind : lister_behind l xs ≡ lister_behind l ys

alike : (number : ℕ) (l : Lister) (xs ys : List (List ℕ)) → Alike xs ys → ListedAlike number l xs ys
alike number l xs ys a =
    with_fold (λ x y. said_of x ≡ said_of y) (λ xs ys. (number : ℕ) (l : Lister) → ListedAlike number l xs ys)
    (λ number l. record { list = refl; notes = refl; behind = refl })
    (λ x y xs ys same _ later number l.
    let rest = later (number + 1) (lister_after l (said_of y)) in
    record {
      list = rw same (ap (λ t. text_of l (said_of y) ++ t) rest.list);
      notes = rw same (ap (λ t. text_if (note_text number) (note_of l (said_of y)) ++ t) rest.notes);
      behind = rw same rest.behind;
    }) xs ys a number l

pub behind_more : (l : Lister) (xs ys : List (List ℕ)) → lister_behind l (xs ++ ys) ≡ lister_behind (lister_behind l xs) ys
behind_more l [] ys = refl
behind_more l (x ∷ xs) ys = behind_more (lister_after l (said_of x)) xs ys

pub noted_more : (number n : ℕ) (l : Lister) (xs ys : List (List ℕ)) → n ≡ number + length xs
    → noted number l (xs ++ ys) ≡ noted number l xs ++ noted n (lister_behind l xs) ys
noted_more number n l [] ys is = ap (λ k. noted k l ys) (let same : number ≡ n = omega arith in same)
noted_more number n l (x ∷ xs) ys is =
    ap (λ t. text_if (note_text number) (note_of l (said_of x)) ++ t)
    (noted_more (number + 1) n (lister_after l (said_of x)) xs ys (omega arith))
    ∙ sym (append_assoc (text_if (note_text number) (note_of l (said_of x))) (noted (number + 1) (lister_after l (said_of x)) xs)
    (noted n (lister_behind (lister_after l (said_of x)) xs) ys))

-- ---- two changes of a sink, one behind the other

-- what it shows before the first and behind the second
abbrev pub through : Change SinkShown → SinkShown → Change SinkShown
through shown there = record { before = shown.before; now = there }

-- the second alone
abbrev pub onward : Change SinkShown → SinkShown → Change SinkShown
onward shown there = record { before = shown.now; now = there }

-- ---- a page line by line

module _ {old now : Lister} {count at : ℕ} {all texts : List (List ℕ)} {out_tells notes_tell : Bool} {out notes : Change SinkShown}
    {sheet : List ℕ} (a : IsAmid old now count at all texts out_tells out sheet notes_tell notes) where
  pub amid_len : at + length texts ≡ count + length all
  amid_len = omega (arith, a.counted, ap length a.all_are, length-append a.front texts)

  pub amid_next : {new : Lister} (line : List ℕ) {left : List (List ℕ)} {sheet' : List ℕ} (there there_notes : SinkShown)
      → notes.before.faults ≤ notes.now.faults → notes.now.faults ≤ there_notes.faults → texts ≡ line ∷ left
      → ListsOne now new (at + 1) line out_tells (onward out there) sheet sheet' notes_tell (onward notes there_notes)
      → IsAmid old new count (at + 1) all left out_tells (through out there) sheet' notes_tell (through notes there_notes)
  amid_next line {left} {sheet'} there there_notes before later e one = record {
    front = a.front ++ line ∷ [];
    all_are = a.all_are ∙ ap (λ l. a.front ++ l) e ∙ sym (append_assoc a.front (line ∷ []) left);
    now_is = one.new_is ∙ ap (λ l. lister_after l (said_of line)) a.now_is ∙ sym (behind_more old a.front (line ∷ []));
    counted = omega (arith, a.counted, length-append a.front (line ∷ []));
    poured = λ on.
        rw (listed_more old a.front (line ∷ []), append-nil, ← a.now_is)
        (poured_then out.before.written out.now.written there.written (listed old a.front) (text_of now (said_of line)) sheet sheet'
        (a.poured on) (one.poured on));
    noted = λ on.
        let number : at + 1 ≡ (count + 1) + length a.front = omega (arith, a.counted) in
        rw (noted_more (count + 1) (at + 1) old a.front (line ∷ []) number, append-nil, ← a.now_is)
        (noted_then notes.before notes.now there_notes (noted (count + 1) old a.front)
        (text_if (note_text (at + 1)) (note_of now (said_of line))) before later (a.noted on) (one.noted on));
  }

  -- a front of the list of all lines
  pub amid_front : (text more waits : List ℕ) (there : SinkShown) → IsTrue out_tells → listed now texts ≡ text ++ more → waits ≡ sheet ++ text
      → AppendsFront waits out.now.written there.written → AppendsFront (listed old all) out.before.written there.written
  amid_front text more waits there on is waits_are front =
      let first = listed old a.front in
      subst (λ t. AppendsFront t out.before.written there.written)
      (append_assoc first text more ∙ ap (λ t. first ++ t) (sym is ∙ ap (λ l. listed l texts) a.now_is)
      ∙ sym (ap (listed old) a.all_are ∙ listed_more old a.front texts))
      (front_first (first ++ text) more out.before.written there.written
      (text_then ends.Write out.before out.now there first text sheet (a.poured on)
      (subst (λ t. AppendsFront t out.now.written there.written) waits_are front)))

-- ---- the limit

pub not_over : (bytes : List ℕ) → length bytes ≤ 1073741824 → is_over bytes ≡ false
unfolding is_over
not_over bytes few = le-ltb 1073741824 (length bytes) few

over : (bytes : List ℕ) → 1073741824 < length bytes → is_over bytes ≡ true
unfolding is_over
over bytes many = lt-ltb 1073741824 (length bytes) many

pub all_within : (bytes : List ℕ) → is_over bytes ≡ false → all_lines bytes ≡ lines bytes
unfolding all_lines
all_within bytes within = cond-false (is_over bytes) _ _ within

-- the whole lines of bytes within the limit, and of more behind as many as the limit allows
whole_short : (front behind : List ℕ) → IsFinished front → newlines behind ≡ 0 → length (front ++ behind) ≤ 1073741824
    → whole_lines (front ++ behind) ≡ lines front
unfolding whole_lines
whole_short front behind finished alone few =
    ap ended_lines (take_all 1073741824 (front ++ behind) few) ∙ ended_alone front behind finished alone

whole_full : (front behind more : List ℕ) → IsFinished front → newlines behind ≡ 0 → length (front ++ behind) ≡ 1073741824
    → whole_lines ((front ++ behind) ++ more) ≡ lines front
unfolding whole_lines
whole_full front behind more finished alone full =
    ap ended_lines (take_at (front ++ behind) more 1073741824 full) ∙ ended_alone front behind finished alone

-- ---- between two reads

-- what a report's lines end with where all of them are listed
ended_whole : {first now : Lister} {n : ℕ} {out_tells notes_tell : Bool} {out notes : Change SinkShown} (end : LinesEnd) (source : SourceShown)
    (all : List (List ℕ)) → ListsLines first now 0 n all out_tells out notes_tell notes → EndsLines end source.taken source.left all
    → (IsTrue out_tells → EndsText end (listed first all) out) → Ended first now end source out_tells out notes_tell notes
ended_whole end source all told are written = record {
  lines = all;
  lines_are = are;
  now_is = λ whole. told.new_is;
  written = written;
  noted = λ whole on. told.noted on;
}

module _ {first old : Lister} {count bytes : ℕ} {taken kept : List ℕ} {out_tells notes_tell : Bool} {out notes : Change SinkShown}
    (s : Stands first old count taken kept bytes out_tells out notes_tell notes) where
  -- no more is read
  pub ended_stopped : (end : LinesEnd) (source : SourceShown) (left : List ℕ) → bytes ≤ 1073741824
      → StopsReading end bytes taken left source.taken source.left → Ended first old end source out_tells out notes_tell notes
  ended_stopped ends.Read source left few stops =
      ended_whole ends.Read source (lines s.front) s.listed
      (sym (ap whole_lines (stops.back ∙ append-nil taken ∙ s.taken_is)
      ∙ whole_short s.front s.behind s.finished s.alone (omega (arith, s.counted, ap length s.taken_is)))) (λ on. s.listed.written on)
  ended_stopped ends.Cut source left few stops =
      let added = stops.1.0 in
      let moves = stops.1.1.1 in
      let more = ap length moves.back ∙ length-append taken added in
      let all = length-append source.taken source.left in
      ended_whole ends.Cut source (lines s.front) s.listed (
        over (source.taken ++ source.left) (omega (arith, stops.0, stops.1.1.0, s.counted)),
        sym (ap whole_lines (moves.back ∙ ap (λ t. t ++ added) s.taken_is)
            ∙ whole_full s.front s.behind added s.finished s.alone (omega (arith, stops.0, s.counted, ap length s.taken_is))),
      ) (λ on. s.listed.written on)
  ended_stopped _ source left few stops = absurd stops

  -- lines that say the same as others, behind those that are listed
  listed_joined : (ls ls' : List (List ℕ)) → Alike ls ls'
      → listed first (lines s.front) ++ listed old ls ≡ listed first (lines s.front ++ ls')
  listed_joined ls ls' same =
      ap (λ t. listed first (lines s.front) ++ t) ((alike 0 old ls ls' same).list ∙ ap (λ l. listed l ls') s.listed.new_is)
      ∙ sym (listed_more first (lines s.front) ls')

  lists_then : {now : Lister} (count' : ℕ) (ls ls' : List (List ℕ)) (there there_notes : SinkShown)
      → notes.before.faults ≤ notes.now.faults → notes.now.faults ≤ there_notes.faults → Alike ls ls'
      → ListsLines old now count count' ls out_tells (onward out there) notes_tell (onward notes there_notes)
      → ListsLines first now 0 count' (lines s.front ++ ls') out_tells (through out there) notes_tell (through notes there_notes)
  lists_then count' ls ls' there there_notes before later same two =
      let one = s.listed in
      let xs = lines s.front in
      let said = alike (count + 1) old ls ls' same in
      record {
        new_is = two.new_is ∙ said.behind ∙ ap (λ l. lister_behind l ls') one.new_is ∙ sym (behind_more first xs ls');
        counted = omega (arith, one.counted, two.counted, with_length (λ x y. said_of x ≡ said_of y) ls ls' same, length-append xs ls');
        written = λ on.
            two.written on ∙ ap (λ w. w ++ listed old ls) (one.written on)
            ∙ append_assoc out.before.written (listed first xs) (listed old ls)
            ∙ ap (λ t. out.before.written ++ t) (listed_joined ls ls' same);
        noted = λ on.
            let number : count + 1 ≡ 1 + length xs = omega (arith, one.counted) in
            subst (λ t. IsNoted t (through notes there_notes))
            (ap (λ t. noted 1 first xs ++ t) (said.notes ∙ ap (λ l. noted (count + 1) l ls') one.new_is)
            ∙ sym (noted_more 1 (count + 1) first xs ls' number))
            (noted_then notes.before notes.now there_notes (noted 1 first xs) (noted (count + 1) old ls) before later (one.noted on) (two.noted on));
      }

  -- the lines end with a front of the list
  part_listed : {now : Lister} (end : LinesEnd) (source : SourceShown) (there there_notes : SinkShown) (ls ls' more : List (List ℕ))
      → is_whole end ≡ false → Alike ls ls' → all_lines source.taken ≡ (lines s.front ++ ls') ++ more
      → (IsTrue out_tells → AppendsFront (listed old ls) out.now.written there.written)
      → Ended first now end source out_tells (through out there) notes_tell (through notes there_notes)
  part_listed end source there there_notes ls ls' more off alike all front = record {
    lines = all_lines source.taken;
    lines_are = are end off;
    now_is = λ whole. clash whole;
    written = λ on. part_text end (listed first (all_lines source.taken)) (through out there) off
        (subst (λ t. AppendsFront t out.before.written there.written)
        (ap (λ t. t ++ listed (lister_behind first (lines s.front ++ ls')) more) (listed_joined ls ls' alike)
        ∙ sym (listed_more first (lines s.front ++ ls') more) ∙ ap (listed first) (sym all))
        (front_first (listed first (lines s.front) ++ listed old ls) (listed (lister_behind first (lines s.front ++ ls')) more) out.before.written
        there.written (front_behind (listed first (lines s.front)) (listed old ls) out.before.written out.now.written there.written
        (s.listed.written on) (front on))));
    noted = λ whole on. clash whole;
  }
    where
      clash : {A : Type 0} → IsTrue (is_whole end) → A
      clash whole = let no_way : true ≡ false = sym whole ∙ off in absurd cc

      are : (e : LinesEnd) → is_whole e ≡ false → EndsLines e source.taken source.left (all_lines source.taken)
      are ends.Write is = refl
      are ends.Memory is = refl
      are _ is = absurd cc

  -- the last page
  last_alike : (page : List ℕ) → page ≡ kept → Alike (lines page) (lines s.behind)
  last_alike page is =
      subst (λ k. Alike (lines k) (lines s.behind)) (append-nil kept ∙ sym is)
      (subst (λ b. Alike (lines (kept ++ [])) (lines b)) (append-nil s.behind) (kept_alike kept s.behind [] s.kept_is s.alone))

  last_lines : bytes ≤ 1073741824 → (taken' : List ℕ) → taken' ≡ taken → (is_over taken' ≡ false) × (all_lines taken' ≡ lines s.front ++ lines s.behind)
  last_lines few taken' is =
      let within = not_over taken' (omega (arith, few, s.counted, ap length is)) in
      (within, all_within taken' within ∙ ap lines (is ∙ s.taken_is) ∙ s.finished.follow s.behind)

  pub ended_part : {now : Lister} (end : LinesEnd) (source : SourceShown) (page : List ℕ) (there there_notes : SinkShown) → is_whole end ≡ false
      → page ≡ kept → source.taken ≡ taken → bytes ≤ 1073741824
      → (IsTrue out_tells → AppendsFront (listed old (lines page)) out.now.written there.written)
      → Ended first now end source out_tells (through out there) notes_tell (through notes there_notes)
  ended_part end source page there there_notes off same is few =
      part_listed end source there there_notes (lines page) (lines s.behind) [] off (last_alike page same)
      ((last_lines few source.taken is).1 ∙ sym (append-nil (lines s.front ++ lines s.behind)))

  pub ended_done : {now : Lister} (source : SourceShown) (count' : ℕ) (page : List ℕ) (there there_notes : SinkShown)
      → notes.before.faults ≤ notes.now.faults → notes.now.faults ≤ there_notes.faults
      → page ≡ kept → source.taken ≡ taken → source.left ≡ [] → bytes ≤ 1073741824
      → ListsLines old now count count' (lines page) out_tells (onward out there) notes_tell (onward notes there_notes)
      → Ended first now ends.Done source out_tells (through out there) notes_tell (through notes there_notes)
  ended_done source count' page there there_notes before later same is nothing few two =
      let all = last_lines few source.taken is in
      let told = lists_then count' (lines page) (lines s.behind) there there_notes before later (last_alike page same) two in
      ended_whole ends.Done source (lines s.front ++ lines s.behind) told (nothing, all.0, sym all.1) (λ on. told.written on)

  -- more was read, and cut behind its last newline
  pub cut_of_page : (new seen shown whole : List ℕ) (end : ℕ) → take (length kept) new ≡ kept → seen ≡ new → shown ≡ new
      → whole ≡ take end shown → EndsAt seen end → IsCut s.behind (drop (length kept) new) whole (drop end new)
  cut_of_page new seen shown whole end same seen_is shown_is whole_is ends =
      let all : new ≡ kept ++ drop (length kept) new =
      sym (take-append-drop (length kept) new) ∙ ap (λ k. k ++ drop (length kept) new) same in
      let cut = cut_at kept s.behind (drop (length kept) new) end s.kept_is s.alone (subst (λ b. EndsAt b end) (seen_is ∙ all) ends) in
      rw (whole_is, shown_is) (subst (λ b. IsCut s.behind (drop (length kept) new) (take end b) (drop end b)) (sym all) cut)

  module _ {added page rest : List ℕ} (cut : IsCut s.behind added page rest) (taken' : List ℕ) (is : taken' ≡ taken ++ added)
      (there there_notes : SinkShown) where
    taken_then : taken' ≡ (s.front ++ cut.front) ++ cut.open_bytes
    taken_then =
        is ∙ ap (λ t. t ++ added) s.taken_is ∙ append_assoc s.front s.behind added ∙ ap (λ t. s.front ++ t) cut.all
        ∙ sym (append_assoc s.front cut.front cut.open_bytes)

    taken_len : length taken' ≡ bytes + length added
    taken_len = omega (arith, s.counted, ap length is, length-append taken added)

    finished : IsFinished (s.front ++ cut.front)
    finished = finished_both s.front cut.front s.finished cut.finished

    pub stands_then : {now : Lister} (kept' : List ℕ) (count' bytes' : ℕ) → notes.before.faults ≤ notes.now.faults
        → notes.now.faults ≤ there_notes.faults → kept' ≡ take 8194 rest → bytes' ≡ bytes + length added
        → ListsLines old now count count' (lines page) out_tells (onward out there) notes_tell (onward notes there_notes)
        → Stands first now count' taken' kept' bytes' out_tells (through out there) notes_tell (through notes there_notes)
    stands_then {now} kept' count' bytes' before later keeps more two = record {
      front = s.front ++ cut.front;
      behind = cut.open_bytes;
      taken_is = taken_then;
      counted = taken_len ∙ sym more;
      finished = finished;
      alone = cut.alone;
      kept_is = keeps ∙ cut.kept;
      listed =
          subst (λ l. ListsLines first now 0 count' l out_tells (through out there) notes_tell (through notes there_notes))
          (sym (s.finished.follow cut.front))
          (lists_then count' (lines page) (lines cut.front) there there_notes before later cut.alike two);
    }

    pub ended_amid : {now : Lister} (end : LinesEnd) (source : SourceShown) (bytes' : ℕ) → source.taken ≡ taken' → is_whole end ≡ false
        → bytes' ≡ bytes + length added → bytes' ≤ 1073741824
        → (IsTrue out_tells → AppendsFront (listed old (lines page)) out.now.written there.written)
        → Ended first now end source out_tells (through out there) notes_tell (through notes there_notes)
    ended_amid end source bytes' same off more few =
        part_listed end source there there_notes (lines page) (lines cut.front) (lines cut.open_bytes) off cut.alike
        (ap all_lines same ∙ all_within taken' (not_over taken' (omega (arith, taken_len, more, few))) ∙ ap lines taken_then
        ∙ finished.follow cut.open_bytes ∙ ap (λ l. l ++ lines cut.open_bytes) (s.finished.follow cut.front))

-- ---- a page before a read and after it

-- nothing more was read
pub nothing_read : (old new taken left taken' left' : List ℕ) (n : ℕ) → n ≡ 0 → length new ≡ length old + n → take (length old) new ≡ old
    → Moves (drop (length old) new) taken left taken' left' → (new ≡ old) × (taken' ≡ taken) × (left' ≡ left)
nothing_read old new taken left taken' left' n none count kept moves =
    let nothing : drop (length old) new ≡ [] = nil_from_length _ (let len = length-drop (length old) new in omega arith) in (
      sym (take_all (length old) new (omega arith)) ∙ kept,
      moves.back ∙ ap (λ b. taken ++ b) nothing ∙ append-nil taken,
      sym (moves.front ∙ ap (λ b. b ++ left') nothing),
    )

pub more_bytes : (old new : List ℕ) (bytes n : ℕ) → length new ≡ length old + n → bytes + n ≡ bytes + length (drop (length old) new)
more_bytes old new bytes n count = let len = length-drop (length old) new in omega arith

pub few_after : (now count taken more ended : ℕ) (old new shown whole page : List ℕ) → now ≤ count + length whole → whole ≡ take ended shown
    → shown ≡ new → length new ≡ length old + more → count + length old ≤ taken → page ≡ take 8194 (drop ended new)
    → now + length page ≤ taken + more
few_after now count taken more ended old new shown whole page few whole_is shown_is counted before page_is =
    let one = ap length (whole_is ∙ ap (take ended) shown_is) ∙ length-take ended new in
    let two = ap length page_is ∙ length-take 8194 (drop ended new) in
    let three = length-drop ended new in
    omega arith

pub kept_few : (page rest : List ℕ) → page ≡ take 8194 rest → length page ≤ 8194
kept_few page rest is = let len = ap length is ∙ length-take 8194 rest in omega arith
