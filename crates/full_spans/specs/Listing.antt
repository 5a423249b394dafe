-- The records of a whole payload, long ones too, and how their listing ends.
use Rattle.std.specs.Prelude.{ℕ, zero, suc, List, [], ◌∷◌, length, Option, Some, None}
use Rattle.dif_vif.specs.declared.fault.RecordFault.{RecordFault}
use Rattle.dif_vif.specs.declared.span.RecordSpan.{RecordSpan}
use Rattle.dif_vif.specs.Spans.{AreFillers}
use Rattle.dif_vif.specs.Listing.{next_spans}
use Rattle.full_spans.specs.Long.{EndsFullyBy, IsFullNext}
use Rattle.full_spans.specs.Walk.{next_full_of}

-- A listing ends with the payload, or with the fault that stands where no record begins.
abbrev pub IsFullEnding : List ℕ → ℕ → Option RecordFault → Type 0
IsFullEnding bytes from None = AreFillers bytes from (length bytes)
IsFullEnding bytes from (Some fault) = EndsFullyBy bytes from fault

-- From a place on the payload is joined of fillers and these spans, one behind the other, up to the ending.
abbrev pub IsFullListing : List ℕ → ℕ → List RecordSpan → Option RecordFault → Type 0
IsFullListing bytes from [] ending = IsFullEnding bytes from ending
IsFullListing bytes from (span ∷ spans) ending = IsFullNext bytes from (Some span) × IsFullListing bytes span.end spans ending

-- the spans from a place on before the first fault, so many at most
unfoldable pub full_spans_from : ℕ → List ℕ → ℕ → List RecordSpan
full_spans_from zero bytes from = []
full_spans_from (suc n) bytes from = next_spans (full_spans_from n bytes) (next_full_of bytes from)

-- all spans of a payload before the first fault: each of them has a byte of its own
abbrev pub full_spans_of : List ℕ → List RecordSpan
full_spans_of bytes = full_spans_from (length bytes) bytes 0
