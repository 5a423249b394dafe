-- Lines of a receiver that are fed one after another.
use Rattle.std.specs.Prelude.{ℕ, ◌≡◌, ◌+◌, ◌^◌, ◌<◌, ◌&&◌, ◌||◌, not, Bool, true, false, List, [], ◌∷◌, ◌++◌, Option, Some, None}
use Rattle.std.specs.Prelude.{Result, Ok, Err, is_ok, if◌then◌else◌}
use Rattle.outer_io.specs.Faults.{next_count}
use Rattle.paper.specs.Puts.{Puts}
use Rattle.frame_lines.specs.Lines.{frame_line}
use Rattle.line_feed.specs.declared.heard.Reception.{Reception}
use Rattle.line_feed.specs.declared.moments.Moment.{Moment}
use Rattle.line_feed.specs.declared.printings.Printing.{Printing}
use Rattle.line_feed.specs.declared.printings.Printing.TheVariants as printings
use Rattle.line_feed.specs.declared.reasons.NotTaken.{NotTaken}
use Rattle.line_feed.specs.Lines.{heard_of}
use Rattle.line_feed.specs.Notes.{note_text, zone_text}

-- what a feed knows between two lines: its format, whether a time without a zone was noted, and how many lines were taken and how many not
pub record Fed : Type 0 where
  pub printing : Printing
  pub zone_noted : Bool
  pub taken : ℕ
  pub left_out : ℕ

-- before the first line
abbrev pub fresh : Printing → Fed
fresh printing = record { printing = printing; zone_noted = false; taken = 0; left_out = 0 }

-- ---- one line

-- the moment of the line, where that names one; else the clock's, of which nothing is known
abbrev pub IsMoment : Option Moment → ℕ → Type 0
IsMoment (Some moment) at = at ≡ moment.seconds
IsMoment None at = Unit {0}

-- the text is the line of a frame of format A of the telegram, heard at the moment
pub record IsReceiverLine (heard : Reception) (text : List ℕ) : Type 0 where
  pub at : ℕ
  pub below : at < 2 ^ 64
  pub moment : IsMoment heard.moment at
  pub text_is : text ≡ frame_line at heard.telegram

-- what is printed for a line
abbrev pub IsText : Result Reception NotTaken → List ℕ → Type 0
IsText (Ok heard) text = IsReceiverLine heard text
IsText (Err reason) text = text ≡ []

-- whether a receiver can say of which zone its times are
abbrev pub can_name_zone : Printing → Bool
can_name_zone printings.Cul = false
can_name_zone printings.RtlWmbus = false
can_name_zone printings.Rtl433 = true
can_name_zone printings.Hex = false

abbrev pub is_of_some_zone : Option Moment → Bool
is_of_some_zone None = false
is_of_some_zone (Some moment) = not moment.names_zone

-- a line that is taken names a time without a zone, where its receiver can name one
abbrev pub lacks_zone : Printing → Result Reception NotTaken → Bool
lacks_zone printing (Ok heard) = can_name_zone printing && is_of_some_zone heard.moment
lacks_zone printing (Err reason) = false

-- what is noted of a line that is taken: that it lacks a zone, of the first one that does
abbrev pub taken_note : Fed → ℕ → Reception → List ℕ
taken_note f number heard = if lacks_zone f.printing (Ok heard) && not f.zone_noted then zone_text number else []

-- what is noted of a line
abbrev pub note_of : Fed → ℕ → Result Reception NotTaken → List ℕ
note_of f number (Ok heard) = taken_note f number heard
note_of f number (Err reason) = note_text number reason

-- the feed behind a line: it is counted among those that were taken, or among the others
abbrev pub fed_after : Fed → Result Reception NotTaken → Fed
fed_after f said = record {
  printing = f.printing;
  zone_noted = lacks_zone f.printing said || f.zone_noted;
  taken = if is_ok said then next_count f.taken else f.taken;
  left_out = if is_ok said then f.left_out else next_count f.left_out;
}

-- ---- all lines

-- the text of the first line, and then that of those behind it
pub record IsJoined (first later : List ℕ → Type 0) (text : List ℕ) : Type 0 where
  pub first_text : List ℕ
  pub later_text : List ℕ
  pub first_is : first first_text
  pub later_is : later later_text
  pub joined : text ≡ first_text ++ later_text

-- what is printed for lines, one after another
abbrev pub AreFed : Printing → List (List ℕ) → List ℕ → Type 0
AreFed printing [] text = text ≡ []
AreFed printing (line ∷ lines) text = IsJoined (IsText (heard_of printing line)) (AreFed printing lines) text

-- what is noted of lines, the first of which has this number
abbrev pub noted : Fed → ℕ → List (List ℕ) → List ℕ
noted f number [] = []
noted f number (line ∷ lines) =
    note_of f number (heard_of f.printing line) ++ noted (fed_after f (heard_of f.printing line)) (number + 1) lines

-- the feed behind lines
abbrev pub fed_behind : Fed → List (List ℕ) → Fed
fed_behind f [] = f
fed_behind f (line ∷ lines) = fed_behind (fed_after f (heard_of f.printing line)) lines

-- ---- words of private contracts

-- the line of what was heard was put on a paper
pub record PutsLine {P : Type 0} (takes : P → List ℕ → P → Type 0) (heard : Reception) (old new : P) : Type 0 where
  pub at : ℕ
  pub below : at < 2 ^ 64
  pub moment : IsMoment heard.moment at
  pub put : Puts takes old (frame_line at heard.telegram) new

-- a line is fed: its text, its note, and the feed behind it
pub record FeedsLine (old : Fed) (number : ℕ) (line text note : List ℕ) (new : Fed) : Type 0 where
  pub text_is : IsText (heard_of old.printing line) text
  pub note_is : note ≡ note_of old number (heard_of old.printing line)
  pub new_is : new ≡ fed_after old (heard_of old.printing line)
