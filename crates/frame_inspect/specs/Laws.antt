-- What holds of the lines of every payload, and of what is found in telegrams.
use Rattle.std.specs.Prelude.{ℕ, ◌≡◌, List, ◌++◌, Option, Ok}
use Rattle.std.specs.List.{flat_map, enumerate_from}
use Rattle.paper.specs.Pieces.{text_if}
use Rattle.dif_vif.specs.declared.fault.RecordFault.{RecordFault}
use Rattle.dif_vif.specs.declared.span.RecordSpan.{RecordSpan}
use Rattle.full_spans.specs.Listing.{IsFullListing}
use Rattle.meter_address.specs.Commission.{Commissioned}
use Rattle.afl_fragments.specs.Held.{Message}
use Rattle.message_check.specs.declared.headers.Layers.{Layers}
use Rattle.meter_slots.specs.Hearing.{Whole, content_behind, received}
use Rattle.meter_slots.specs.Journal.{opened_in, stored_or_refused}
use Rattle.frame_inspect.specs.Below.{found_alone}
use Rattle.frame_inspect.specs.RecordLines.{record_line, fault_line, records_text}

-- the text of a payload is that of its one listing: a line for each of its records, numbered from 1, and then the fault that there may be
abbrev pub RecordsAreListed : Type 0
RecordsAreListed = (payload : List ℕ) (spans : List RecordSpan) (ending : Option RecordFault) → IsFullListing payload 0 spans ending
    → records_text payload ≡ flat_map (record_line payload) (enumerate_from 1 spans) ++ text_if fault_line ending

-- What is found in a telegram with a whole message is what this message says by itself: what it says once it is checked (mode 5) or its MAC is
-- verified (mode 7), or its first refusal.
abbrev pub WholeMessagesSpeak : Type 0
WholeMessagesSpeak = (c : Commissioned) (t : List ℕ) (l : Layers) (m : Message) → received c.mode t ≡ Ok l → content_behind t l ≡ Whole m
    → found_alone c t ≡ stored_or_refused (opened_in c.mode c m)
