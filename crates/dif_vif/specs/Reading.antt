-- Reading a record from left to right, with the first fault that is met.
use Rattle.std.specs.Prelude.{◌≡◌, ℕ, ◌+◌, ◌-◌, ◌%◌, Bool, ◌||◌, List, [], ◌∷◌, length, take, drop, Option, Some, None, Result, Ok, Err, nat_lt, ◌==◌, if◌then◌else◌, is_some, unwrap_or}
use Rattle.lists.specs.Steps.{◌>>=◌}
use Rattle.dif_vif.specs.declared.fault.RecordFault.{RecordFault}
use Rattle.dif_vif.specs.declared.fault.RecordFault.TheVariants.{Truncated, TooManyExtensions, Lvar, Selection, Special}
use Rattle.dif_vif.specs.declared.span.RecordSpan.{RecordSpan}
use Rattle.dif_vif.specs.Spelling.{Dib, Vib, Contents, DataRecord, lvar_width, data_width}
use Rattle.dif_vif.specs.Spans.{span_of, maker_span}

-- What a function returned, seen by view, is what reading gives.
abbrev pub Gives : {X Y : Type 0} → (X → Y) → Result X RecordFault → Result Y RecordFault → Type 0
Gives view (Ok x) read = read ≡ Ok (view x)
Gives view (Err e) read = read ≡ Err e

-- Each part is given with the bytes after it; start is the place of the record's DIF.

-- one byte
unfoldable pub byte_at : ℕ → List ℕ → Result (ℕ × List ℕ) RecordFault
byte_at start [] = Err (Truncated start)
byte_at start (byte ∷ rest) = Ok (byte, rest)

-- a number of bytes
unfoldable pub bytes_at : ℕ → ℕ → List ℕ → Result (List ℕ × List ℕ) RecordFault
bytes_at start count bytes = if nat_lt (length bytes) count then Err (Truncated start) else Ok (take count bytes, drop count bytes)

-- how many extensions a byte has, of which there may be as many as there is room for
unfoldable pub chain_len : ℕ → ℕ → ℕ → List ℕ → Result ℕ RecordFault
chain_len start room byte [] = if nat_lt byte 128 then Ok 0 else Err (Truncated start)
chain_len start room byte (next ∷ rest) =
    if nat_lt byte 128 then Ok 0 else
    (if room == 0 then Err (TooManyExtensions start) else
    (chain_len start (room - 1) next rest >>= λ others. Ok (others + 1)))

-- the extensions of a byte
unfoldable pub chain_at : ℕ → ℕ → List ℕ → Result (List ℕ × List ℕ) RecordFault
chain_at start byte bytes = do
  count ← chain_len start 10 byte bytes
  Ok (take count bytes, drop count bytes)

-- the DIF of a record
unfoldable pub dif_at : ℕ → List ℕ → Result (ℕ × List ℕ) RecordFault
dif_at start bytes = do
  dif ← byte_at start bytes
  if dif.0 % 16 == 15 then Err (Special dif.0) else (if dif.0 % 16 == 8 then Err (Selection start) else Ok dif)

-- the data information block
unfoldable pub dib_at : ℕ → List ℕ → Result (Dib × List ℕ) RecordFault
dib_at start bytes = do
  dif ← dif_at start bytes
  difes ← chain_at start dif.0 dif.1
  Ok (record { dif = dif.0; difes = difes.0 }, difes.1)

-- the plain text unit with the length before it, where the VIF has one
unfoldable pub text_at : ℕ → ℕ → List ℕ → Result (List ℕ × List ℕ) RecordFault
text_at start vif bytes =
    if vif % 128 == 0x7c
    then (byte_at start bytes >>= λ count. bytes_at start count.0 count.1 >>= λ letters. Ok (count.0 ∷ letters.0, letters.1))
    else Ok ([], bytes)

-- the value information block
unfoldable pub vib_at : ℕ → List ℕ → Result (Vib × List ℕ) RecordFault
vib_at start bytes = do
  vif ← byte_at start bytes
  text ← text_at start vif.0 vif.1
  vifes ← chain_at start vif.0 text.1
  Ok (record { vif = vif.0; text = text.0; vifes = vifes.0 }, vifes.1)

-- the LVAR, where the DIF has one
unfoldable pub lvar_at : ℕ → ℕ → List ℕ → Result (Option ℕ × List ℕ) RecordFault
lvar_at start dif bytes =
    if dif % 16 == 13
    then (byte_at start bytes >>= λ lvar. if is_some (lvar_width lvar.0) then Ok (Some lvar.0, lvar.1) else Err (Lvar lvar.0))
    else Ok (None, bytes)

-- the data, behind the LVAR
unfoldable pub contents_at : ℕ → ℕ → List ℕ → Result (Contents × List ℕ) RecordFault
contents_at start dif bytes = do
  lvar ← lvar_at start dif bytes
  sent ← bytes_at start (unwrap_or (data_width dif lvar.0) 0) lvar.1
  Ok (record { lvar = lvar.0; sent = sent.0 }, sent.1)

-- a record
unfoldable pub record_at : ℕ → List ℕ → Result (DataRecord × List ℕ) RecordFault
record_at start bytes = do
  dib ← dib_at start bytes
  vib ← vib_at start dib.1
  contents ← contents_at start dib.0.dif vib.1
  Ok (record { dib = dib.0; vib = vib.0; contents = contents.0 }, contents.1)

-- whether manufacturer data begin with this byte
abbrev pub begins_maker : ℕ → Bool
begins_maker dif = dif == 0x0f || dif == 0x1f

-- the span at a place that has no filler, of a payload of so many bytes
unfoldable pub span_at : ℕ → ℕ → List ℕ → Result RecordSpan RecordFault
span_at len start [] = Err (Truncated start)
span_at len start (dif ∷ rest) =
    if begins_maker dif then Ok (maker_span start dif len)
    else (record_at start (dif ∷ rest) >>= λ found. Ok (span_of start found.0))

-- the next span from a place, where the bytes from there on are left
unfoldable pub next_at : ℕ → ℕ → List ℕ → Result (Option RecordSpan) RecordFault
next_at len start [] = Ok None
next_at len start (byte ∷ rest) =
    if byte == 0x2f then next_at len (start + 1) rest
    else (span_at len start (byte ∷ rest) >>= λ span. Ok (Some span))

-- the next span of a payload from a place on, or the first fault
abbrev pub next_of : List ℕ → ℕ → Result (Option RecordSpan) RecordFault
next_of bytes from = next_at (length bytes) from (drop from bytes)
