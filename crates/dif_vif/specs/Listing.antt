-- The records of a whole payload, and how their listing ends.
use Rattle.std.specs.Prelude.{ℕ, zero, suc, List, [], ◌∷◌, length, Option, Some, None, Result, Ok, Err}
use Rattle.dif_vif.specs.declared.fault.RecordFault.{RecordFault}
use Rattle.dif_vif.specs.declared.span.RecordSpan.{RecordSpan}
use Rattle.dif_vif.specs.Spans.{AreFillers, IsNext, NoneBegins}
use Rattle.dif_vif.specs.Stops.{EndsBy}
use Rattle.dif_vif.specs.Reading.{next_of}

-- A listing ends with the payload, or with the first fault at a place where no record begins.
abbrev pub IsEnding : List ℕ → ℕ → Option RecordFault → Type 0
IsEnding bytes from None = AreFillers bytes from (length bytes)
IsEnding bytes from (Some fault) = NoneBegins bytes from × EndsBy bytes from fault

-- From a place on the payload is joined of fillers and these spans, one behind the other, up to the ending.
abbrev pub IsListing : List ℕ → ℕ → List RecordSpan → Option RecordFault → Type 0
IsListing bytes from [] ending = IsEnding bytes from ending
IsListing bytes from (span ∷ spans) ending = IsNext bytes from (Some span) × IsListing bytes span.end spans ending

-- a listing of a payload
pub record Listing (bytes : List ℕ) (from : ℕ) : Type 0 where
  pub spans : List RecordSpan
  pub ending : Option RecordFault
  pub listed : IsListing bytes from spans ending

-- what is answered where a listing ends
abbrev pub answer_of_ending : Option RecordFault → Result (Option RecordSpan) RecordFault
answer_of_ending None = Ok None
answer_of_ending (Some fault) = Err fault

-- the next span and those from its end on; none from a fault on
abbrev pub next_spans : (ℕ → List RecordSpan) → Result (Option RecordSpan) RecordFault → List RecordSpan
next_spans rest (Ok (Some span)) = span ∷ rest span.end
next_spans rest (Ok None) = []
next_spans rest (Err fault) = []

-- the spans from a place on before the first fault, so many at most
unfoldable pub spans_from : ℕ → List ℕ → ℕ → List RecordSpan
spans_from zero bytes from = []
spans_from (suc n) bytes from = next_spans (spans_from n bytes) (next_of bytes from)

-- all spans of a payload before the first fault: each of them has a byte of its own
abbrev pub spans_of : List ℕ → List RecordSpan
spans_of bytes = spans_from (length bytes) bytes 0
