-- What holds of made sessions.
use Rattle.std.specs.Prelude.{ℕ, ◌≡◌, ◌<◌, ◌≤◌, ◌^◌, false, List, drop, Ok}
use Rattle.std.specs.List.Sorted.{IsPermutation}
use Rattle.meter_address.specs.Commission.{Commissioned}
use Rattle.ell_layer.specs.declared.access.Access.TheVariants as access
use Rattle.frame_formats.specs.Decoding.{frame_a}
use Rattle.frame_formats.specs.declared.format.Format.TheVariants.{A}
use Rattle.message_check.specs.declared.headers.Layers.{Layers}
use Rattle.message_check.specs.Layers.{layers_of}
use Rattle.message_check.specs.Opening.{Genuine7}
use Rattle.downlink_maker.specs.Downlink.{plain_content}
use Rattle.line_reader.specs.declared.line.Line.TheVariants.{Frame}
use Rattle.line_reader.specs.Grammar.{line_of}
use Rattle.line_reader.specs.Lines.{is_over, all_lines}
use Rattle.frame_lines.specs.Lines.{frame_text}
use Rattle.meter_slots.specs.declared.entry.Event.TheVariants.{Hear}
use Rattle.meter_slots.specs.Hearing.{auth_in}
use Rattle.meter_slots.specs.Telling.{event_of_line}
use Rattle.roster_file.specs.Enrolled.{IsEnrolled}
use Rattle.roster_file.specs.Roster.{roster_of as read_as}
use Rattle.made_input.specs.Meters.{meter_at, meters_of, roster_of}
use Rattle.made_input.specs.Uplinks.{volume, uplink, stranger}
use Rattle.made_input.specs.Lines.{turn_of, round_of, telegram_of, texts_of, heard}
use Rattle.made_input.specs.Made.{Session, made}

-- ---- turns

-- the telegram is that of the meter whose turn it is, with the round as its counter; behind the last meter it is the stranger's
pub record IsInTurn (count number k : ℕ) : Type 0 where
  pub meters : turn_of count k < count
      → telegram_of (meters_of count number) k ≡ uplink (meter_at number (turn_of count k)) (round_of count k)
  pub strangers : turn_of count k ≡ count → telegram_of (meters_of count number) k ≡ stranger k

abbrev pub TurnsAreTaken : Type 0
TurnsAreTaken = (count number k : ℕ) → IsInTurn count number k

-- ---- genuine messages

-- the layers of the telegram are read, and its message is genuine under the meter's key: it has this counter and says this volume
pub record IsGenuine (c : Commissioned) (n : ℕ) (t : List ℕ) : Type 0 where
  pub layers : Layers
  pub read : layers_of t ≡ Ok layers
  pub genuine : Genuine7 c (auth_in layers.afl) (drop layers.body t)
      (record { counter = n; access = access.None; payload = plain_content (volume n) })

abbrev pub UplinksAreGenuine : Type 0
UplinksAreGenuine = (number place n : ℕ) → n < 2 ^ 32 → let c = meter_at number place in IsGenuine c n (uplink c n)

-- ---- own lines

-- the text is a line with this telegram's frame, heard at the moment k, and it is for this meter
pub record IsOwnLine (c : Commissioned) (k : ℕ) (t text : List ℕ) : Type 0 where
  pub line : line_of text ≡ Ok (Frame A k (frame_a t))
  pub own : event_of_line (Frame A k (frame_a t)) ≡ Ok (c.address, Hear A k t)

abbrev pub LinesAreOwn : Type 0
LinesAreOwn = (number place n k : ℕ) → n < 2 ^ 32 → k < 2 ^ 64 →
    let c = meter_at number place in
    let t = uplink c n in
    IsOwnLine c k t (frame_text k t)

-- ---- receivers

abbrev pub HeardInAnotherOrder : Type 0
HeardInAnotherOrder = (by : ℕ) (lines : List (List ℕ)) → IsPermutation lines (heard by lines)

-- ---- whole sessions

-- the text is within a receiver's limits, and its lines are these
pub record HasLines (text : List ℕ) (lines : List (List ℕ)) : Type 0 where
  pub within : is_over text ≡ false
  pub lines_are : all_lines text ≡ lines

-- the first text is read as the roster of the meters, and each receiver's text has the lines of all telegrams, in its order
pub record IsReadable (count telegrams number : ℕ) (session : Session) : Type 0 where
  pub enrolled : IsEnrolled (roster_of count number)
  pub roster : read_as session.roster ≡ Ok (roster_of count number)
  pub first : HasLines session.first (heard 0 (texts_of (meters_of count number) telegrams))
  pub second : HasLines session.second (heard 1 (texts_of (meters_of count number) telegrams))
  pub third : HasLines session.third (heard 2 (texts_of (meters_of count number) telegrams))
  pub fourth : HasLines session.fourth (heard 3 (texts_of (meters_of count number) telegrams))

abbrev pub MadeSessionsAreReadable : Type 0
MadeSessionsAreReadable = (count telegrams number : ℕ) → count ≤ 1024 → telegrams ≤ 16384
    → IsReadable count telegrams number (made count telegrams number)
