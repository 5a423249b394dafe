-- Records whose LVAR announces a long binary number (EN 13757-3, 6.3): LVAR F0 to F6.
use Rattle.std.specs.Prelude.{◌≡◌, ℕ, ◌-◌, ◌*◌, ◌%◌, ◌<◌, ◌≤◌, ◌⊎◌, List, ◌∷◌, ◌++◌, length, drop, Option, Some, None, nat_lt, ◌==◌, if◌then◌else◌}
use Rattle.dif_vif.specs.declared.fault.RecordFault.{RecordFault}
use Rattle.dif_vif.specs.declared.fault.RecordFault.TheVariants.{Lvar, Truncated}
use Rattle.dif_vif.specs.declared.span.RecordSpan.{RecordSpan}
use Rattle.dif_vif.specs.Spelling.{Dib, Vib, DataRecord, dib_spelling, vib_spelling, spelling}
use Rattle.dif_vif.specs.Spans.{span_of, IsSpanOf, AreFillers}
use Rattle.dif_vif.specs.Stops.{IsDib, IsVib, EndsBy}

-- how many bytes such an LVAR announces: 16, 20, 24, 28 or 32, 48 or 64; none for every other LVAR
abbrev pub long_width : ℕ → Option ℕ
long_width lvar =
    if nat_lt lvar 0xf0 then None else
    (if nat_lt lvar 0xf5 then Some (4 * (lvar - 0xec)) else
    (if lvar == 0xf5 then Some 48 else
    (if lvar == 0xf6 then Some 64 else None)))

-- Both blocks are whole, the data field is D, and the data are as long as the LVAR announces.
pub record IsLongRecord (r : DataRecord) (lvar : ℕ) : Type 0 where
  pub dib : IsDib r.dib
  pub vib : IsVib r.vib
  pub by_lvar : r.dib.dif % 16 ≡ 13
  pub lvar_is : r.contents.lvar ≡ Some lvar
  pub sent : long_width lvar ≡ Some (length r.contents.sent)

-- The span is that of such a record, whose spelling stands at its start.
pub record IsLongSpan (bytes : List ℕ) (span : RecordSpan) : Type 0 where
  pub found : DataRecord
  pub lvar : ℕ
  pub is_record : IsLongRecord found lvar
  pub rest : List ℕ
  pub spelled : drop span.start bytes ≡ spelling found ++ rest
  pub places : span ≡ span_of span.start found

-- The span is one of a record, of a long one too, or of manufacturer data.
abbrev pub IsFullSpan : List ℕ → RecordSpan → Type 0
IsFullSpan bytes span = IsSpanOf bytes span ⊎ IsLongSpan bytes span

-- what comes next from a place: after fillers a span, or fillers alone up to the end
abbrev pub IsFullNext : List ℕ → ℕ → Option RecordSpan → Type 0
IsFullNext bytes from None = AreFillers bytes from (length bytes)
IsFullNext bytes from (Some span) = AreFillers bytes from span.start × IsFullSpan bytes span

-- A long record begins behind the fillers, and the bytes end inside its data.
pub record IsCutLong (bytes : List ℕ) (from place : ℕ) : Type 0 where
  pub fillers : AreFillers bytes from place
  pub within : place < length bytes
  pub dib : Dib
  pub vib : Vib
  pub lvar : ℕ
  pub width : ℕ
  pub sent : List ℕ
  pub is_dib : IsDib dib
  pub is_vib : IsVib vib
  pub by_lvar : dib.dif % 16 ≡ 13
  pub wide : long_width lvar ≡ Some width
  pub short : length sent < width
  pub spelled : drop place bytes ≡ dib_spelling dib ++ (vib_spelling vib ++ lvar ∷ sent)

-- whether a fault is an LVAR that announces a long number
abbrev pub announces_long : RecordFault → Option ℕ
announces_long (Lvar lvar) = long_width lvar
announces_long fault = None

-- a long record that is cut short, which no other fault is
abbrev pub CutsLong : List ℕ → ℕ → RecordFault → Type 0
CutsLong bytes from (Truncated place) = IsCutLong bytes from place
CutsLong bytes from fault = ⊥

-- Why the records end from a place on: as without long ones, where no long one stands there, or since a long one is cut short.
abbrev pub EndsFullyBy : List ℕ → ℕ → RecordFault → Type 0
EndsFullyBy bytes from fault = (EndsBy bytes from fault × (announces_long fault ≡ None)) ⊎ CutsLong bytes from fault
