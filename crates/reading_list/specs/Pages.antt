-- How a report's lines end, and where they stand between two reads. Words of private contracts.
use Rattle.std.specs.Prelude.{ℕ, ◌≡◌, ◌<◌, ◌≤◌, ◌+◌, ◌⊎◌, true, false, Bool, List, [], ◌∷◌, ◌++◌, take, drop, length, IsTrue}
use Rattle.std.specs.Str.Lines.{lines}
use Rattle.outer_io.specs.Bytes.{Moves}
use Rattle.outer_io.specs.Shown.{Change, SourceShown, SinkShown}
use Rattle.paper.specs.Pieces.{text_if}
use Rattle.line_reader.specs.Keeps.{IsFinished}
use Rattle.line_reader.specs.Newlines.{newlines}
use Rattle.line_teller.specs.declared.ending.LinesEnd.{LinesEnd}
use Rattle.line_teller.specs.declared.ending.LinesEnd.TheVariants as ends
use Rattle.line_teller.specs.Ending.{EndsText, IsNoted, is_whole}
use Rattle.line_teller.specs.Standing.{Pours}
use Rattle.reading_list.specs.declared.lister.Lister.{Lister}
use Rattle.reading_list.specs.Said.{said_of}
use Rattle.reading_list.specs.Notes.{note_text}
use Rattle.reading_list.specs.Listing.{listed, noted, lister_behind, lister_after, text_of, note_of}
use Rattle.reading_list.specs.Limits.{is_over, whole_lines, all_lines}

-- ---- how the lines end

-- the lines of which the list has all or a front, by how they end: all of the report, or the whole ones of the bytes taken
abbrev pub EndsLines : LinesEnd → (taken left : List ℕ) → List (List ℕ) → Type 0
EndsLines ends.Done taken left lines = (left ≡ []) × (is_over taken ≡ false) × (lines ≡ all_lines taken)
EndsLines ends.Cut taken left lines = (is_over (taken ++ left) ≡ true) × (lines ≡ whole_lines taken)
EndsLines ends.Read taken left lines = lines ≡ whole_lines taken
EndsLines ends.Write taken left lines = lines ≡ all_lines taken
EndsLines ends.Memory taken left lines = lines ≡ all_lines taken

-- the lines of a report were listed and noted, numbered from 1
pub record Ended (first now : Lister) (end : LinesEnd) (source : SourceShown) (out_tells : Bool) (out : Change SinkShown) (notes_tell : Bool)
    (notes : Change SinkShown) : Type 0 where
  pub lines : List (List ℕ)
  pub lines_are : EndsLines end source.taken source.left lines
  pub now_is : IsTrue (is_whole end) → now ≡ lister_behind first lines
  pub written : IsTrue out_tells → EndsText end (listed first lines) out
  pub noted : IsTrue (is_whole end) → IsTrue notes_tell → IsNoted (noted 1 first lines) notes

-- ---- bytes in memory

-- the bytes are none, or a newline is the last of them
abbrev pub IsEnded : List ℕ → Type 0
IsEnded bytes = (bytes ≡ []) ⊎ ((front : List ℕ) × (bytes ≡ front ++ 10 ∷ []))

-- the first bytes, so many, are the lines that end with a newline
pub record EndsAt (bytes : List ℕ) (count : ℕ) : Type 0 where
  pub ended : IsEnded (take count bytes)
  pub alone : newlines (drop count bytes) ≡ 0

-- why no more is read behind so many bytes: a read failed, or the report goes past its limit
abbrev pub StopsReading : LinesEnd → ℕ → (taken left taken' left' : List ℕ) → Type 0
StopsReading ends.Read bytes taken left taken' left' = Moves [] taken left taken' left'
StopsReading ends.Cut bytes taken left taken' left' =
    (1073741824 ≤ bytes) × ((added : List ℕ) × ((0 < length added) × Moves added taken left taken' left'))
StopsReading _ bytes taken left taken' left' = ⊥

-- ---- lines that are listed

-- what is told of one line, behind what waits on the sheet
pub record TellsOne (old new : Lister) (number : ℕ) (line text text' note' : List ℕ) : Type 0 where
  pub new_is : new ≡ lister_after old (said_of line)
  pub text_is : text' ≡ text ++ text_of old (said_of line)
  pub note_is : note' ≡ text_if (note_text number) (note_of old (said_of line))

-- one line is listed: its text waits behind what waited on the sheet, or some of that is written
pub record ListsOne (old new : Lister) (number : ℕ) (line : List ℕ) (out_tells : Bool) (out : Change SinkShown) (sheet sheet' : List ℕ)
    (notes_tell : Bool) (notes : Change SinkShown) : Type 0 where
  pub new_is : new ≡ lister_after old (said_of line)
  pub poured : IsTrue out_tells → Pours out.before.written (sheet ++ text_of old (said_of line)) out.now.written sheet'
  pub noted : IsTrue notes_tell → IsNoted (text_if (note_text number) (note_of old (said_of line))) notes

-- lines behind so many others are listed, and all that was told of them is written
pub record ListsLines (old new : Lister) (count count' : ℕ) (lines : List (List ℕ)) (out_tells : Bool) (out : Change SinkShown)
    (notes_tell : Bool) (notes : Change SinkShown) : Type 0 where
  pub new_is : new ≡ lister_behind old lines
  pub counted : count' ≡ count + length lines
  pub written : IsTrue out_tells → out.now.written ≡ out.before.written ++ listed old lines
  pub noted : IsTrue notes_tell → IsNoted (noted (count + 1) old lines) notes

-- between two lines of a page: those in front are listed, and the rest is left
pub record IsAmid (old now : Lister) (count count' : ℕ) (all left : List (List ℕ)) (out_tells : Bool) (out : Change SinkShown)
    (sheet : List ℕ) (notes_tell : Bool) (notes : Change SinkShown) : Type 0 where
  pub front : List (List ℕ)
  pub all_are : all ≡ front ++ left
  pub now_is : now ≡ lister_behind old front
  pub counted : count' ≡ count + length front
  pub poured : IsTrue out_tells → Pours out.before.written (listed old front) out.now.written sheet
  pub noted : IsTrue notes_tell → IsNoted (noted (count + 1) old front) notes

-- between two reads: the lines that end with a newline are listed, and of the bytes behind them as many are kept as tell a long line
pub record Stands (first now : Lister) (count : ℕ) (taken kept : List ℕ) (bytes : ℕ) (out_tells : Bool) (out : Change SinkShown)
    (notes_tell : Bool) (notes : Change SinkShown) : Type 0 where
  pub front : List ℕ
  pub behind : List ℕ
  pub taken_is : taken ≡ front ++ behind
  pub counted : length taken ≡ bytes
  pub finished : IsFinished front
  pub alone : newlines behind ≡ 0
  pub kept_is : kept ≡ take 8194 behind
  pub listed : ListsLines first now 0 count (lines front) out_tells out notes_tell notes

-- what stands before a read, wherever the list and the notes began, stands after it
abbrev pub StandsOn : (old new : Lister) (count count' : ℕ) (taken taken' kept kept' : List ℕ) (bytes bytes' : ℕ) (out_tells : Bool)
    (out : Change SinkShown) (notes_tell : Bool) (notes : Change SinkShown) → Type 0
StandsOn old new count count' taken taken' kept kept' bytes bytes' out_tells out notes_tell notes =
    (first : Lister) → (list list_notes : SinkShown) → list_notes.faults ≤ notes.before.faults
    → Stands first old count taken kept bytes out_tells (record { before = list; now = out.before }) notes_tell
    (record { before = list_notes; now = notes.before })
    → Stands first new count' taken' kept' bytes' out_tells (record { before = list; now = out.now }) notes_tell
    (record { before = list_notes; now = notes.now })

-- the lines end behind what stands, wherever the list and the notes began
abbrev pub EndsBehind : (old new : Lister) (end : LinesEnd) (count : ℕ) (taken kept : List ℕ) (bytes : ℕ) (source : SourceShown)
    (out_tells : Bool) (out : Change SinkShown) (notes_tell : Bool) (notes : Change SinkShown) → Type 0
EndsBehind old new end count taken kept bytes source out_tells out notes_tell notes =
    (first : Lister) → (list list_notes : SinkShown) → list_notes.faults ≤ notes.before.faults
    → Stands first old count taken kept bytes out_tells (record { before = list; now = out.before }) notes_tell
    (record { before = list_notes; now = notes.before })
    → Ended first new end source out_tells (record { before = list; now = out.now }) notes_tell
    (record { before = list_notes; now = notes.now })
