-- What the lines of a source are after each answer.
use Rattle.std.proofs.Common.{◌≡◌, ℕ, zero, suc, ◌<◌, ◌≤◌, ◌+◌, ◌-◌, List, [], ◌∷◌, ◌++◌, length, take, drop, Bool, true, false, ⊎_elim, refl, ap, sym, subst, ◌∙◌, arith, append_assoc}
use Rattle.std.specs.Prelude.{IsTrue}
use Rattle.std.specs.Str.Lines.{lines, strip_carriage_return}
use lib.Seq.{take-append-add}
use Rattle.std.proofs.lemmas.Bool.{cases_lt}
use Rattle.std.proofs.lemmas.List.{append-nil, length_push, nil_from_length, take-append-drop, drop-drop, drop_at, take_all, length-take, length-append}
use Rattle.outer_io.specs.Bytes.{Moves}
use Rattle.line_reader.specs.Keeps.{IsReader, IsLast, IsTextReader, Keeps}
use Rattle.line_reader.specs.Lines.{is_over, whole_lines, all_lines}
use Rattle.line_reader.specs.Newlines.{newlines}
use Rattle.line_reader.specs.Reader.{GivesLongLine, IsAtEnd, IsPastLimit, IsBrokenOff}
use Rattle.line_reader.specs.Reading.{BeginsWithLine, LendsLine, line_text}
use Rattle.line_reader.specs.Search.{IsRestOfLine, IsLastLine, EndsAt}
use Rattle.line_reader.specs.declared.lines.TheConstants.{LINES_MAX, BYTES_MAX}
use Rattle.line_reader.proofs.LinesLemmas.{lines_front, lines_alone, lines_more, finished_more, some_line, whole_alone, whole_full, over_bytes, over_lines, not_over, all_within, given_lines, length-strip}
use Rattle.line_reader.proofs.TextLemmas.{text_of_one_line}
use Rattle.line_reader.proofs.NewlineLemmas.{newlines-take}

-- the bytes taken are those of the lines given, and behind them those of the line that is read
pub taken_is : (start line : ℕ) (taken held added taken' : List ℕ) → IsReader start line taken held → taken' ≡ taken ++ added
    → taken' ≡ take start taken ++ (held ++ added)
taken_is start line taken held added taken' reader back =
    back ∙ ap (λ x. x ++ added) (sym (take-append-drop start taken) ∙ ap (λ x. take start taken ++ x) (sym reader.behind))
    ∙ append_assoc (take start taken) held added

pub given_is : (start line : ℕ) (taken held more bytes : List ℕ) → IsReader start line taken held → start ≤ BYTES_MAX → line ≤ LINES_MAX
    → bytes ≡ take start taken ++ more → take line (all_lines bytes) ≡ lines (take start taken)
given_is start line taken held more bytes reader few few_lines is =
    let within = reader.within in
    let first : length (take start taken) ≡ start = simp length-take (omega arith) in
    ap (λ x. take line (all_lines x)) is ∙ given_lines line (take start taken) more reader.finished (omega arith) reader.counted few_lines

-- before a call
pub given_before : (start line : ℕ) (taken held : List ℕ) → IsReader start line taken held → start ≤ BYTES_MAX → line ≤ LINES_MAX
    → take line (all_lines taken) ≡ lines (take start taken)
given_before start line taken held reader few few_lines =
    given_is start line taken held held taken reader few few_lines (sym (take-append-drop start taken)
    ∙ ap (λ x. take start taken ++ x) (sym reader.behind))

-- the same lines, whatever follows
pub given_ahead : (start line : ℕ) (taken held left : List ℕ) → IsReader start line taken held → start ≤ BYTES_MAX → line ≤ LINES_MAX
    → take line (all_lines taken) ≡ take line (all_lines (taken ++ left))
given_ahead start line taken held left reader few few_lines =
    given_before start line taken held reader few few_lines
    ∙ sym (given_is start line taken held (held ++ left) (taken ++ left) reader few few_lines
    (ap (λ x. x ++ left) (sym (take-append-drop start taken) ∙ ap (λ x. take start taken ++ x) (sym reader.behind))
    ∙ append_assoc (take start taken) held left))

-- a search behind the lines given: what was held and what was added is the line that is read, of which so many bytes count
pub record IsSearch (start line most : ℕ) (taken held added taken' : List ℕ) : Type 0 where
  pub reader : IsReader start line taken held
  pub few_bytes : start ≤ BYTES_MAX
  pub few_lines : line ≤ LINES_MAX
  pub room : line < LINES_MAX → most ≡ BYTES_MAX - start
  pub no_room : LINES_MAX ≤ line → most ≡ 0
  pub back : taken' ≡ taken ++ added

pub room_after : (start line most : ℕ) → (line < LINES_MAX → most ≡ BYTES_MAX - start) → (LINES_MAX ≤ line → most ≡ 0) → 0 < most
    → (line < LINES_MAX) × (most ≡ BYTES_MAX - start)
room_after start line most room no_room some =
    ⊎_elim (λ below. (below, room below)) (λ full. absurd (let none = no_room full in omega arith)) (cases_lt line LINES_MAX)

-- a search behind a line that was lent and is given up
pub search_of : {start line most lent longest : ℕ} {tells ended done : Bool} {taken left held held' added taken' left' : List ℕ}
    → IsTextReader tells longest lent start line ended done taken left held → held' ≡ drop lent held
    → IsTrue tells → done ≡ false → ended ≡ false → (line < LINES_MAX → most ≡ BYTES_MAX - start) → (LINES_MAX ≤ line → most ≡ 0)
    → Moves added taken left taken' left' → IsSearch start line most taken held' added taken'
search_of {start} {line} {taken} is given_up told not_done not_ended room no_room moves = record {
  reader = subst (λ h. IsReader start line taken h) (sym given_up) (is.keeps.reader told not_done not_ended);
  few_bytes = is.keeps.few_bytes;
  few_lines = is.keeps.few_lines;
  room = room;
  no_room = no_room;
  back = moves.back;
}

-- what is lent is no longer than a line may be
lent_short : {longest given_up count : ℕ} (lent : ℕ) {held' held'' : List ℕ} → LendsLine longest given_up count held' held'' lent
    → length (line_text (take lent held'')) ≤ longest
lent_short zero lends = omega arith
lent_short {longest} {count} (suc lent) {held''} lends =
    let parts = lends.line (omega arith) in
    subst (λ t. length t ≤ longest) (sym (ap (λ n. line_text (take n held'')) parts.1 ∙ ap (λ x. line_text (take count x)) parts.2)) parts.3

-- the reader behind a new line
pub reader_after : {start line most lent lent' longest given_up count : ℕ} {tells ended done done' last : Bool}
    {taken left held held' held'' taken' left' : List ℕ}
    → IsTextReader tells longest lent start line ended done taken left held
    → (line < LINES_MAX → most ≡ BYTES_MAX - start) → (LINES_MAX ≤ line → most ≡ 0)
    → (0 < given_up + count) × (count ≤ length held') × (given_up + count ≤ most)
    → LendsLine longest given_up count held' held'' lent'
    → (IsTrue tells → Keeps tells (start + (given_up + count)) (line + 1) last done' taken' left' (drop count held'))
    → IsTextReader tells longest lent' (start + (given_up + count)) (line + 1) last done' taken' left' held''
reader_after {start} {line} {most} {lent'} {given_up} {count} {tells} {done'} {last} {held'} {taken'} {left'}
    is room no_room fits lends keeps =
    let few = is.keeps.few_bytes in
    let some = fits.0 in
    let within = fits.2 in
    let left_over = room_after start line most room no_room (omega arith) in
    let after : Keeps tells (start + (given_up + count)) (line + 1) last done' taken' left' (drop count held') = record {
      few_lines = omega arith;
      few_bytes = omega arith;
      reader = λ told. (keeps told).reader told;
      last = λ told. (keeps told).last told;
    } in
    record {
      room = is.room;
      within = lends.within;
      short = lent_short lent' lends;
      keeps = subst (λ h. Keeps tells (start + (given_up + count)) (line + 1) last done' taken' left' h) (sym lends.behind) after;
    }

-- one more line was given: its bytes, unless some were given up, which made it too long
pub record IsNewLine (longest given_up count : ℕ) (held' : List ℕ) (old new : List (List ℕ)) : Type 0 where
  pub text : List ℕ
  pub more : new ≡ old ++ text ∷ []
  pub is : given_up ≡ 0 → line_text (take count held') ≡ text
  pub long : 0 < given_up → longest < length text

module _ {start line most : ℕ} {taken held added taken' : List ℕ} (s : IsSearch start line most taken held added taken') where
  abbrev before : List ℕ
  before = take start taken

  abbrev read : List ℕ
  read = held ++ added

  whole : taken' ≡ before ++ read
  whole = taken_is start line taken held added taken' s.reader s.back

  before_len : length before ≡ start
  before_len = let within = s.reader.within in simp length-take (omega arith)

  -- the lines given stay the same
  pub same_lines : take line (all_lines taken') ≡ take line (all_lines taken)
  same_lines =
      given_is start line taken held read taken' s.reader s.few_bytes s.few_lines whole
      ∙ sym (given_before start line taken held s.reader s.few_bytes s.few_lines)

  -- and the same of all bytes
  pub same_of_all : (left' : List ℕ) → take line (all_lines taken') ≡ take line (all_lines (taken' ++ left'))
  same_of_all left' =
      given_is start line taken held read taken' s.reader s.few_bytes s.few_lines whole
      ∙ sym (given_is start line taken held (read ++ left') (taken' ++ left') s.reader s.few_bytes s.few_lines (ap (λ x. x ++ left') whole
      ∙ append_assoc before read left'))

  -- a line with its newline
  module _ (longest : ℕ) (held' rest : List ℕ) (given_up count : ℕ) (part : IsRestOfLine longest read held' given_up)
      (found : BeginsWithLine read (given_up + count)) (rest_is : rest ≡ drop count held') where
    line_front : take (given_up + count) read ≡ found.front ++ 10 ∷ []
    line_front =
        ap (take (given_up + count)) found.cut ∙ ap (λ n. take n (found.front ++ 10 ∷ found.rest)) found.long
        ∙ take-append-add found.front (10 ∷ found.rest) 1

    taken_front : take (start + (given_up + count)) taken' ≡ before ++ (found.front ++ 10 ∷ [])
    taken_front =
        ap (take (start + (given_up + count))) whole
        ∙ ap (λ n. take (n + (given_up + count)) (before ++ read)) (sym before_len)
        ∙ take-append-add before read (given_up + count)
        ∙ ap (λ x. before ++ x) line_front

    next_reader : IsReader (start + (given_up + count)) (line + 1) taken' rest
    next_reader =
        let long = found.long in
        let cut = ap length found.cut ∙ length-append found.front (10 ∷ found.rest) in
        let all = ap length whole ∙ length-append before read in
        let first = before_len in
        let counted = s.reader.counted in
        record {
          within = omega arith;
          behind =
              rest_is ∙ ap (drop count) part.rest ∙ drop-drop count given_up read
              ∙ ap (drop (given_up + count)) (sym (ap (drop start) whole ∙ drop_at before read start first))
              ∙ drop-drop (given_up + count) start taken';
          finished = rw taken_front (finished_more before found.front s.reader.finished found.alone);
          counted = ap length (ap lines taken_front ∙ lines_more before found.front s.reader.finished found.alone)
              ∙ length_push (lines before) (strip_carriage_return found.front) ∙ ap (λ n. n + 1) counted;
        }

    new_line : 0 < given_up + count → 0 < count → line < LINES_MAX → start + (given_up + count) ≤ BYTES_MAX
        → IsNewLine longest given_up count held' (take line (all_lines taken)) (take (line + 1) (all_lines taken'))
    new_line some some_count below few =
        let text = strip_carriage_return found.front in
        let new = given_before (start + (given_up + count)) (line + 1) taken' rest next_reader few (omega arith) ∙ ap lines taken_front
        ∙ lines_more before found.front s.reader.finished found.alone in
        let old = given_before start line taken held s.reader s.few_bytes s.few_lines in
        record {
          text = text;
          more = new ∙ ap (λ x. x ++ text ∷ []) (sym old);
          is = λ none.
              text_of_one_line (take count held') text
              (ap (λ x. lines (take count x)) (part.rest ∙ ap (λ n. drop n read) none)
              ∙ ap (λ n. lines (take n read)) (let same : count ≡ given_up + count = omega arith in same) ∙ ap lines line_front
              ∙ lines_front found.front [] found.alone);
          long = λ some_up. let long = part.long some_up in let count_is = found.long in omega (arith, length-strip found.front);
        }

  -- the unfinished last line
  module _ (longest : ℕ) (held' left' : List ℕ) (given_up count : ℕ) (part : IsRestOfLine longest read held' given_up)
      (found : IsLastLine read left' (given_up + count)) (few : given_up + count ≤ most) where
    all_read : given_up + count ≡ length read
    all_read = found.long

    some_read : 0 < length read
    some_read = let some = found.some in let same = found.long in omega arith

    below : (line < LINES_MAX) × (most ≡ BYTES_MAX - start)
    below = room_after start line most s.room s.no_room (let some = found.some in omega arith)

    lines_taken : lines taken' ≡ lines before ++ read ∷ []
    lines_taken =
        ap lines whole ∙ s.reader.finished.follow read ∙ ap (λ x. lines before ++ x) (lines_alone read found.alone some_read)

    count_taken : length (lines taken') ≡ line + 1
    count_taken = ap length lines_taken ∙ length_push (lines before) read ∙ ap (λ n. n + 1) s.reader.counted

    within_taken : is_over taken' ≡ false
    within_taken =
        let all = ap length whole ∙ length-append before read in
        let first = before_len in
        let same = all_read in
        let room = below in
        let counted = count_taken in
        not_over taken' (omega arith) (omega arith)

    last_line : IsLast (line + 1) taken' left'
    last_line = record { nothing_left = found.nothing_left; within = within_taken; counted = count_taken }

    new_last : IsNewLine longest given_up count held' (take line (all_lines taken)) (take (line + 1) (all_lines taken'))
    new_last =
        let same = all_read in
        let counted = count_taken in
        let new = ap (take (line + 1)) (all_within taken' within_taken) ∙ take_all (line + 1) (lines taken') (omega arith) ∙ lines_taken in
        let old = given_before start line taken held s.reader s.few_bytes s.few_lines in
        record {
          text = read;
          more = new ∙ ap (λ x. x ++ read ∷ []) (sym old);
          is = λ none.
              text_of_one_line (take count held') read
              (ap (λ x. lines (take count x)) (part.rest ∙ ap (λ n. drop n read) none) ∙ ap lines (take_all count read (omega arith))
              ∙ lines_alone read found.alone some_read);
          long = λ some_up. let long = part.long some_up in omega arith;
        }

  -- a line, with its newline or the last one
  module _ {longest : ℕ} {held' : List ℕ} {given_up count : ℕ} (part : IsRestOfLine longest read held' given_up)
      (fits : (0 < given_up + count) × (count ≤ length held') × (given_up + count ≤ most)) where
    room_left : (line < LINES_MAX) × (most ≡ BYTES_MAX - start)
    room_left = let some = fits.0 in let few = fits.2 in room_after start line most s.room s.no_room (omega arith)

    few_bytes_after : start + (given_up + count) ≤ BYTES_MAX
    few_bytes_after = let few = fits.2 in let room = room_left in let before_it = s.few_bytes in omega arith

    pub gives_line : (left' : List ℕ) (last : Bool) → EndsAt last read left' given_up count
        → IsNewLine longest given_up count held' (take line (all_lines taken)) (take (line + 1) (all_lines taken'))
    gives_line left' false found =
        new_line longest held' (drop count held') given_up count part found.1 refl fits.0 found.0 room_left.0 few_bytes_after
    gives_line left' true found = new_last longest held' left' given_up count part found fits.2

    pub keeps_line : (tells done : Bool) (left' : List ℕ) (last : Bool) → EndsAt last read left' given_up count
        → Keeps tells (start + (given_up + count)) (line + 1) last done taken' left' (drop count held')
    keeps_line tells done left' false found = record {
      few_lines = let room = room_left in omega arith;
      few_bytes = few_bytes_after;
      reader = λ told not_done not_ended. next_reader longest held' (drop count held') given_up count part found.1 refl;
      last = λ told not_done ended. absurd cc;
    }
    keeps_line tells done left' true found = record {
      few_lines = let room = room_left in omega arith;
      few_bytes = few_bytes_after;
      reader = λ told not_done not_ended. absurd cc;
      last = λ told not_done ended. last_line longest held' left' given_up count part found fits.2;
    }

    -- the same of all bytes
    pub line_of_all : (left' : List ℕ) (last : Bool) → EndsAt last read left' given_up count
        → take (line + 1) (all_lines taken') ≡ take (line + 1) (all_lines (taken' ++ left'))
    line_of_all left' false found =
        given_ahead (start + (given_up + count)) (line + 1) taken' (drop count held') left'
        (next_reader longest held' (drop count held') given_up count part found.1 refl) few_bytes_after (let room =
        room_left in omega arith)
    line_of_all left' true found =
        ap (λ x. take (line + 1) (all_lines x)) (sym (append-nil taken') ∙ ap (λ x. taken' ++ x) (sym found.nothing_left))

  -- no line is left
  pub at_end : (left' : List ℕ) → read ≡ [] → left' ≡ [] → IsAtEnd taken' left' (take line (all_lines taken'))
  at_end left' empty nothing_left =
      let all : taken' ≡ before = whole ∙ ap (λ x. before ++ x) empty ∙ append-nil before in
      let counted = s.reader.counted in
      let first = before_len in
      let few_bytes = s.few_bytes in
      let few_lines = s.few_lines in
      let within : is_over before ≡ false = not_over before (omega arith) (omega arith) in
      record {
        nothing_left = nothing_left;
        within = ap is_over all ∙ within;
        all = given_is start line taken held read taken' s.reader few_bytes few_lines whole
            ∙ sym (ap all_lines all ∙ all_within before within);
      }

  -- the whole lines of the bytes taken
  whole_taken : newlines (take most read) ≡ 0 → whole_lines taken' ≡ lines before
  whole_taken none =
      let first = before_len in
      let counted = s.reader.counted in
      let few_bytes = s.few_bytes in
      let few_lines = s.few_lines in
      ap whole_lines whole ∙ ⊎_elim
      (λ room.
      let same : BYTES_MAX - length before ≡ most = ap (λ n. BYTES_MAX - n) first ∙ sym (s.room room) in
      whole_alone before read s.reader.finished (omega arith) (omega arith) (ap (λ n. newlines (take n read)) same ∙ none))
      (λ over. whole_full before read s.reader.finished (omega arith) (omega arith))
      (cases_lt line LINES_MAX)

  pub whole_given : newlines (take most read) ≡ 0 → take line (all_lines taken') ≡ whole_lines taken'
  whole_given none = given_is start line taken held read taken' s.reader s.few_bytes s.few_lines whole ∙ sym (whole_taken none)

  -- no byte behind a limit: at most one line more, and none where no byte counts
  within_read : newlines read ≡ 0 → length read ≤ most → is_over taken' ≡ false
  within_read none short =
      let first = before_len in
      let counted = s.reader.counted in
      let few_bytes = s.few_bytes in
      let few_lines = s.few_lines in
      let all = ap length whole ∙ length-append before read in
      let count = ap length (ap lines whole ∙ s.reader.finished.follow read) ∙ length-append (lines before) (lines read) in
      ⊎_elim
      (λ some.
      let one = ap length (lines_alone read none some) in
      let room = room_after start line most s.room s.no_room (omega arith) in
      not_over taken' (omega arith) (omega arith))
      (λ empty.
      let nothing = ap (λ x. length (lines x)) (nil_from_length read (omega arith)) in
      not_over taken' (omega arith) (omega arith))
      (cases_lt 0 (length read))

  pub broken_off : newlines read ≡ 0 → length read ≤ most → IsBrokenOff taken' (take line (all_lines taken'))
  broken_off none short = record { within = within_read none short; all = whole_given (newlines-take most read none) }

  -- a byte behind a limit
  over_with : (more bytes : List ℕ) → most < length read → bytes ≡ before ++ (read ++ more) → is_over bytes ≡ true
  over_with more bytes long is =
      let longer = length-append read more in
      let first = before_len in
      let counted = s.reader.counted in
      ⊎_elim
      (λ room.
      let few_bytes = s.few_bytes in
      let same = s.room room in
      let all = ap length is ∙ length-append before (read ++ more) in
      over_bytes bytes (omega arith))
      (λ full.
      let some = some_line (read ++ more) (omega arith) in
      let all = ap length (ap lines is ∙ s.reader.finished.follow (read ++ more)) ∙ length-append (lines before) (lines (read ++ more)) in
      over_lines bytes (omega arith))
      (cases_lt line LINES_MAX)

  pub past_limit : (left' : List ℕ) → most < length read → newlines (take most read) ≡ 0
      → IsPastLimit taken' left' (take line (all_lines taken'))
  past_limit left' long none = record {
    source_over = over_with left' (taken' ++ left') long (ap (λ x. x ++ left') whole ∙ append_assoc before read left');
    over = over_with [] taken' long (whole ∙ ap (λ x. before ++ x) (sym (append-nil read)));
    all = whole_given none;
  }

-- after the unfinished last line
pub last_end : {line : ℕ} {taken left : List ℕ} → IsLast line taken left → IsAtEnd taken left (take line (all_lines taken))
last_end {line} {taken} last =
    let counted = last.counted in
    record {
      nothing_left = last.nothing_left;
      within = last.within;
      all = ap (take line) (all_within taken last.within) ∙ take_all line (lines taken) (omega arith) ∙ sym (all_within taken last.within);
    }

-- what is lent of a new line is the line, and where nothing is lent it is too long
pub lent_line : {longest given_up count lent : ℕ} {held' held'' : List ℕ} {old new : List (List ℕ)}
    → IsNewLine longest given_up count held' old new → LendsLine longest given_up count held' held'' lent → 0 < lent
    → new ≡ old ++ line_text (take lent held'') ∷ []
lent_line {count} {held''} {old} line lends some =
    let parts = lends.line some in
    line.more ∙ ap (λ t. old ++ t ∷ []) (sym (ap (λ n. line_text (take n held'')) parts.1 ∙ ap (λ x. line_text (take count x)) parts.2
    ∙ line.is parts.0))

pub long_line : {longest given_up count lent : ℕ} {held' held'' : List ℕ} {old new : List (List ℕ)}
    → IsNewLine longest given_up count held' old new → LendsLine longest given_up count held' held'' lent → lent ≡ 0
    → GivesLongLine longest old new
long_line {longest} {given_up} line lends none = record {
  line = line.text;
  more = line.more;
  long = ⊎_elim line.long (λ no_more. let none_up : given_up ≡ 0 = omega arith in
      subst (λ t. longest < length t) (line.is none_up) (lends.too_long none none_up)) (cases_lt 0 given_up);
}

-- no byte is lost
pub all_bytes : {added taken left taken' left' : List ℕ} → Moves added taken left taken' left' → taken' ++ left' ≡ taken ++ left
all_bytes {added} {taken} {left'} moves =
    ap (λ x. x ++ left') moves.back ∙ append_assoc taken added left' ∙ ap (λ x. taken ++ x) (sym moves.front)
