-- Reading on from a place, over long records too.
use Rattle.std.specs.Prelude.{ℕ, false, ◌+◌, ◌*◌, ◌/◌, List, [], ◌∷◌, length, drop, Option, Some, None, Result, Ok, Err, nat_lt, ◌==◌, if◌then◌else◌}
use Rattle.dif_vif.specs.declared.fault.RecordFault.{RecordFault}
use Rattle.dif_vif.specs.declared.fault.RecordFault.TheVariants.{Lvar, Truncated}
use Rattle.dif_vif.specs.declared.span.RecordSpan.{RecordSpan}
use Rattle.dif_vif.specs.Reading.{next_of}
use Rattle.full_spans.specs.Long.{long_width}

-- the place of the first byte that is no filler, of bytes that stand from a place on
unfoldable pub behind_fillers : ℕ → List ℕ → ℕ
behind_fillers place [] = place
behind_fillers place (byte ∷ rest) = if byte == 0x2f then behind_fillers (place + 1) rest else place

-- a record with the data field 0 in its DIF, which has no LVAR and no data
abbrev pub bare : ℕ → List ℕ → List ℕ
bare dif rest = dif / 16 * 16 ∷ rest

-- the span of a long record, by that of its blocks alone
abbrev pub long_span : ℕ → ℕ → ℕ → ℕ → RecordSpan → RecordSpan
long_span start dif lvar width head =
    record {
      start = start;
      end = start + (head.end + 1 + width);
      maker = false;
      dif = dif;
      function = head.function;
      storage = head.storage;
      tariff = head.tariff;
      subunit = head.subunit;
      vif = head.vif;
      text_at = start + head.text_at;
      text_len = head.text_len;
      vifes_at = start + head.vifes_at;
      vifes = head.vifes;
      lvar = Some lvar;
      data_at = start + (head.end + 1);
      data_len = width;
    }

-- what comes of the blocks that were read, where so many bytes are left from the DIF on
abbrev pub stretched : ℕ → ℕ → ℕ → ℕ → ℕ → Result (Option RecordSpan) RecordFault → Result (Option RecordSpan) RecordFault
stretched start left dif lvar width (Ok (Some head)) =
    if nat_lt left (head.end + 1 + width) then Err (Truncated start) else Ok (Some (long_span start dif lvar width head))
stretched start left dif lvar width next = Err (Lvar lvar)

-- the record whose LVAR announces so many bytes: its blocks are those of the same record without data
unfoldable pub long_at : ℕ → ℕ → ℕ → List ℕ → Result (Option RecordSpan) RecordFault
long_at start lvar width [] = Err (Lvar lvar)
long_at start lvar width (dif ∷ rest) = stretched start (length (dif ∷ rest)) dif lvar width (next_of (bare dif rest) 0)

-- where the LVAR is a long one the record that has it, and else that fault
abbrev pub long_or_fault : List ℕ → ℕ → ℕ → Option ℕ → Result (Option RecordSpan) RecordFault
long_or_fault bytes start lvar None = Err (Lvar lvar)
long_or_fault bytes start lvar (Some width) = long_at start lvar width (drop start bytes)

-- what is found without long records, and a long one where its LVAR is the fault
abbrev pub with_long : List ℕ → ℕ → Result (Option RecordSpan) RecordFault → Result (Option RecordSpan) RecordFault
with_long bytes from (Err (Lvar lvar)) = long_or_fault bytes (behind_fillers from (drop from bytes)) lvar (long_width lvar)
with_long bytes from next = next

-- the next span of a payload from a place on, or the first fault
abbrev pub next_full_of : List ℕ → ℕ → Result (Option RecordSpan) RecordFault
next_full_of bytes from = with_long bytes from (next_of bytes from)
