-- What stands below a frame: the data records of its message, or why it isn't opened.
use Rattle.std.specs.Prelude.{ℕ, ◌==◌, List, [], ◌++◌, codes, find, Option, Some, None, Result, Ok, Err}
use Rattle.paper.specs.Pieces.{labelled_bytes}
use Rattle.meter_address.specs.declared.address.Address.{Address}
use Rattle.meter_address.specs.Address.{bytes_of}
use Rattle.meter_address.specs.Commission.{Commissioned}
use Rattle.frame_formats.specs.Decoding.{decoded}
use Rattle.frame_formats.specs.declared.fault.FrameFault.{FrameFault}
use Rattle.line_reader.specs.declared.line.Line.{Line}
use Rattle.line_reader.specs.declared.line.Line.TheVariants as lines
use Rattle.line_reader.specs.declared.line.BadLine.{BadLine}
use Rattle.message_check.specs.Target.{target_of}
use Rattle.message_check.specs.Opening.{Found}
use Rattle.message_check.specs.declared.refusal.Reason.{Reason}
use Rattle.meter_slots.specs.Journal.{fresh_start, commission_of, standing, verdict}
use Rattle.report_text.specs.Outcomes.{reason_text}
use Rattle.frame_inspect.specs.RecordLines.{records_text}

-- ---- what a telegram says to its meter

-- the meter with this address
abbrev pub meter_with : Address → List Commissioned → Option Commissioned
meter_with a meters = find (λ c. c.address.0 == a.0) meters

-- a meter whose last number isn't known, so that no message is a repeat
abbrev pub unnumbered : Commissioned → Commissioned
unnumbered c = record c { last = None }

-- What the collector finds in a telegram of a meter of which nothing was heard before: its message, nothing where it is a fragment, or the
-- first refusal
unfoldable pub found_alone : Commissioned → List ℕ → Result (Option Found) Reason
found_alone c t = verdict (commission_of (fresh_start (unnumbered c))) (standing (fresh_start (unnumbered c)) []) t

-- ---- in words

-- why it isn't opened
unfoldable pub refused_line : Reason → List ℕ
refused_line reason = codes "  refused " ++ reason_text reason ++ codes "\n"

abbrev pub found_text : Result (Option Found) Reason → List ℕ
found_text (Ok (Some f)) = records_text f.payload
found_text (Ok None) = codes "  part\n"
found_text (Err reason) = refused_line reason

-- that no key is known for a meter
unfoldable pub no_key_line : Address → List ℕ
no_key_line a = labelled_bytes (codes "  no key for ") (bytes_of a) ++ codes "\n"

abbrev pub meter_text : Address → List ℕ → Option Commissioned → List ℕ
meter_text a t (Some c) = found_text (found_alone c t)
meter_text a t None = no_key_line a

-- below a telegram, which is for its target
abbrev pub telegram_text : List Commissioned → List ℕ → List ℕ
telegram_text meters t = meter_text (target_of t) t (meter_with (target_of t) meters)

-- below bytes that are a frame, or none
abbrev pub bytes_text : List Commissioned → Result (List ℕ) FrameFault → List ℕ
bytes_text meters (Ok t) = telegram_text meters t
bytes_text meters (Err fault) = []

-- below a line
abbrev pub below_text : List Commissioned → Result Line BadLine → List ℕ
below_text meters (Ok (lines.Frame format at bytes)) = bytes_text meters (decoded format bytes)
below_text meters said = []
