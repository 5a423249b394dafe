-- The listing of the records of a payload, a line for each.
use Rattle.std.specs.Prelude.{ℕ, zero, suc, List, [], ◌++◌, length, take, codes, nat_lt, if◌then◌else◌, Option, Some, None, Result, Ok, Err}
use Rattle.std.specs.List.{flat_map}
use Rattle.dif_vif.specs.declared.fault.RecordFault.{RecordFault}
use Rattle.dif_vif.specs.declared.span.RecordSpan.{RecordSpan}
use Rattle.dif_vif.specs.Reading.{next_of}
use Rattle.record_text.specs.Lines.{span_line, fault_line}

-- When no more lines are listed, whether anything but fillers follows.
abbrev pub more_text : Result (Option RecordSpan) RecordFault → List ℕ
more_text (Ok None) = []
more_text (Ok (Some span)) = codes "more\n"
more_text (Err fault) = codes "more\n"

-- What comes next: a line and those from its end on, or a fault, which ends the listing, or nothing.
abbrev pub next_text : (ℕ → List ℕ) → List ℕ → Result (Option RecordSpan) RecordFault → List ℕ
next_text rest payload (Ok None) = []
next_text rest payload (Ok (Some span)) = span_line payload span ++ rest span.end
next_text rest payload (Err fault) = fault_line fault

-- the listing from a place on, with so many lines at most
unfoldable pub listed : ℕ → List ℕ → ℕ → List ℕ
listed zero payload from = more_text (next_of payload from)
listed (suc n) payload from = next_text (listed n payload) payload (next_of payload from)

-- all of a payload, with 256 lines of records at most
abbrev pub records_text : List ℕ → List ℕ
records_text payload = listed 256 payload 0

-- What stands behind so many lines at most: `more` where a record or a fault follows them, else the line of the fault that there may be.
abbrev pub closing : ℕ → ℕ → Option RecordFault → List ℕ
closing most count None = if nat_lt most count then codes "more\n" else []
closing most count (Some fault) = if nat_lt count most then fault_line fault else codes "more\n"

-- the text of the records of a listing and of its ending
abbrev pub listing_text : List ℕ → List RecordSpan → Option RecordFault → List ℕ
listing_text payload spans ending = flat_map (span_line payload) (take 256 spans) ++ closing 256 (length spans) ending
