-- Where a record stands in a payload, and which records a payload has.
use Rattle.std.specs.Prelude.{◌≡◌, ◌≢◌, ℕ, ◌+◌, ◌-◌, ◌/◌, ◌%◌, ◌<◌, ◌≤◌, ◌⊎◌, true, false, List, ◌++◌, length, drop, Option, Some, None, slice_get}
use Rattle.std.specs.Option.{option_to_list}
use Rattle.dif_vif.specs.declared.span.RecordSpan.{RecordSpan}
use Rattle.dif_vif.specs.Numbers.{storage_of, tariff_of, subunit_of}
use Rattle.dif_vif.specs.Spelling.{DataRecord, IsRecord, spelling}

-- the span of a record that begins at a place
abbrev pub span_of : ℕ → DataRecord → RecordSpan
span_of start r =
    let vifes_at = start + 1 + length r.dib.difes + 1 + length r.vib.text in
    let text_len = length r.vib.text - 1 in
    let data_at = vifes_at + length r.vib.vifes + length (option_to_list r.contents.lvar) in
    record {
      start = start;
      end = data_at + length r.contents.sent;
      maker = false;
      dif = r.dib.dif;
      function = r.dib.dif / 16 % 4;
      storage = storage_of r.dib.dif r.dib.difes;
      tariff = tariff_of r.dib.difes;
      subunit = subunit_of r.dib.difes;
      vif = r.vib.vif;
      text_at = vifes_at - text_len;
      text_len = text_len;
      vifes_at = vifes_at;
      vifes = length r.vib.vifes;
      lvar = r.contents.lvar;
      data_at = data_at;
      data_len = length r.contents.sent;
    }

-- the span of manufacturer data that begin at a place: all that is left of the payload
abbrev pub maker_span : ℕ → ℕ → ℕ → RecordSpan
maker_span start dif len =
    record {
      start = start;
      end = len;
      maker = true;
      dif = dif;
      function = 0;
      storage = 0;
      tariff = 0;
      subunit = 0;
      vif = 0;
      text_at = 0;
      text_len = 0;
      vifes_at = 0;
      vifes = 0;
      lvar = None;
      data_at = start + 1;
      data_len = len - (start + 1);
    }

-- The span is that of a record whose spelling stands at its start.
pub record IsRecordSpan (bytes : List ℕ) (span : RecordSpan) : Type 0 where
  pub found : DataRecord
  pub is_record : IsRecord found
  pub rest : List ℕ
  pub spelled : drop span.start bytes ≡ spelling found ++ rest
  pub places : span ≡ span_of span.start found

-- The span is that of manufacturer data: DIF 0F or 1F, and everything after it.
pub record IsMakerSpan (bytes : List ℕ) (span : RecordSpan) : Type 0 where
  pub dif : (span.dif ≡ 0x0f) ⊎ (span.dif ≡ 0x1f)
  pub stands : slice_get bytes span.start ≡ Some span.dif
  pub places : span ≡ maker_span span.start span.dif (length bytes)

-- The span is one of a record or of manufacturer data in these bytes.
abbrev pub IsSpanOf : List ℕ → RecordSpan → Type 0
IsSpanOf bytes span = IsRecordSpan bytes span ⊎ IsMakerSpan bytes span

-- The places of a span are in order, and inside the bytes.
pub record LiesWithin (bytes : List ℕ) (span : RecordSpan) : Type 0 where
  pub begins : span.start < span.data_at
  pub text : span.text_at + span.text_len ≡ span.vifes_at
  pub vifes : span.vifes_at + span.vifes ≤ span.data_at
  pub ends : span.data_at + span.data_len ≡ span.end
  pub within : span.end ≤ length bytes

-- Only fillers, 2F, stand from one place to another.
pub record AreFillers (bytes : List ℕ) (from to : ℕ) : Type 0 where
  pub ordered : from ≤ to
  pub within : to ≤ length bytes
  pub fillers : (place : ℕ) → from ≤ place → place < to → slice_get bytes place ≡ Some 0x2f

-- what comes next from a place: after fillers a span, or fillers alone up to the end
abbrev pub IsNext : List ℕ → ℕ → Option RecordSpan → Type 0
IsNext bytes from None = AreFillers bytes from (length bytes)
IsNext bytes from (Some span) = AreFillers bytes from span.start × IsSpanOf bytes span

-- a place to which fillers lead, where neither a filler nor a record nor manufacturer data stand
pub record NoneBegins (bytes : List ℕ) (from : ℕ) : Type 0 where
  pub place : ℕ
  pub fillers : AreFillers bytes from place
  pub within : place < length bytes
  pub not_filler : slice_get bytes place ≢ Some 0x2f
  pub no_span : (span : RecordSpan) → span.start ≡ place → IsSpanOf bytes span → ⊥
