-- Why no record begins at a place: how far the bytes are spelled as one, and what stands there instead.
use Rattle.std.specs.Prelude.{◌≡◌, ◌≢◌, ℕ, ◌%◌, ◌<◌, ◌≤◌, List, [], ◌∷◌, ◌++◌, length, drop, Option, Some, None, slice_get}
use Rattle.std.specs.Option.{option_to_list}
use Rattle.dif_vif.specs.declared.fault.RecordFault.{RecordFault}
use Rattle.dif_vif.specs.declared.fault.RecordFault.TheVariants.{Truncated, TooManyExtensions, Lvar, Selection, Special}
use Rattle.dif_vif.specs.Spelling.{Dib, Vib, IsChain, IsPlainText, lvar_width, data_width, dib_spelling, vib_spelling}
use Rattle.dif_vif.specs.Spans.{AreFillers}

-- a whole data information block, whose data field is neither 8 nor F
pub record IsDib (b : Dib) : Type 0 where
  pub not_special : b.dif % 16 ≢ 15
  pub not_selection : b.dif % 16 ≢ 8
  pub difes : IsChain b.dif b.difes
  pub few : length b.difes ≤ 10

-- a whole value information block
pub record IsVib (b : Vib) : Type 0 where
  pub text : IsPlainText b.vif b.text
  pub vifes : IsChain b.vif b.vifes
  pub few : length b.vifes ≤ 10

-- A byte and the extensions behind it, of which even the last says that one more follows.
abbrev pub IsOpen : ℕ → List ℕ → Type 0
IsOpen byte [] = 128 ≤ byte
IsOpen byte (next ∷ others) = (128 ≤ byte) × IsOpen next others

-- The bytes end where a byte of extensions, of a plain text unit, of the LVAR or of the data is needed.
pub data IsCut (bytes : List ℕ) : Type 0 where
  no_dif : bytes ≡ [] → IsCut bytes
  no_dife : (b : Dib) → b.dif % 16 ≢ 15 → b.dif % 16 ≢ 8 → IsOpen b.dif b.difes → length b.difes ≤ 10 → bytes ≡ dib_spelling b → IsCut bytes
  no_vif : (b : Dib) → IsDib b → bytes ≡ dib_spelling b → IsCut bytes
  no_text : (b : Dib) (vif : ℕ) → IsDib b → vif % 128 ≡ 0x7c → bytes ≡ dib_spelling b ++ vif ∷ [] → IsCut bytes
  short_text : (b : Dib) (vif count : ℕ) (letters : List ℕ) → IsDib b → vif % 128 ≡ 0x7c → length letters < count
      → bytes ≡ dib_spelling b ++ vif ∷ count ∷ letters → IsCut bytes
  no_vife : (b : Dib) (v : Vib) → IsDib b → IsPlainText v.vif v.text → IsOpen v.vif v.vifes → length v.vifes ≤ 10
      → bytes ≡ dib_spelling b ++ vib_spelling v → IsCut bytes
  no_lvar : (b : Dib) (v : Vib) → IsDib b → IsVib v → b.dif % 16 ≡ 13 → bytes ≡ dib_spelling b ++ vib_spelling v → IsCut bytes
  short_data : (b : Dib) (v : Vib) (lvar : Option ℕ) (sent : List ℕ) (width : ℕ) → IsDib b → IsVib v → data_width b.dif lvar ≡ Some width
      → length sent < width → bytes ≡ dib_spelling b ++ (vib_spelling v ++ (option_to_list lvar ++ sent)) → IsCut bytes

-- An eleventh extension of the DIF or of the VIF stands there.
pub data HasEleventh (bytes : List ℕ) : Type 0 where
  dife : (b : Dib) (next : ℕ) (rest : List ℕ) → b.dif % 16 ≢ 15 → b.dif % 16 ≢ 8 → IsOpen b.dif b.difes → length b.difes ≡ 10
      → bytes ≡ dib_spelling b ++ next ∷ rest → HasEleventh bytes
  vife : (b : Dib) (v : Vib) (next : ℕ) (rest : List ℕ) → IsDib b → IsPlainText v.vif v.text → IsOpen v.vif v.vifes → length v.vifes ≡ 10
      → bytes ≡ dib_spelling b ++ (vib_spelling v ++ next ∷ rest) → HasEleventh bytes

-- The blocks are whole, and an LVAR that isn't used here stands behind them.
pub record HasUnusedLvar (bytes : List ℕ) (lvar : ℕ) : Type 0 where
  pub dib : Dib
  pub vib : Vib
  pub rest : List ℕ
  pub is_dib : IsDib dib
  pub is_vib : IsVib vib
  pub by_lvar : dib.dif % 16 ≡ 13
  pub unused : lvar_width lvar ≡ None
  pub spelled : bytes ≡ dib_spelling dib ++ (vib_spelling vib ++ lvar ∷ rest)

-- The bytes begin with this DIF.
pub record HasDif (bytes : List ℕ) (dif : ℕ) : Type 0 where
  pub rest : List ℕ
  pub begins : bytes ≡ dif ∷ rest

-- Why the bytes from a place on begin no record; the place is that of the DIF.
abbrev pub Stops : ℕ → List ℕ → RecordFault → Type 0
Stops start bytes (Truncated place) = (place ≡ start) × IsCut bytes
Stops start bytes (TooManyExtensions place) = (place ≡ start) × HasEleventh bytes
Stops start bytes (Lvar lvar) = HasUnusedLvar bytes lvar
Stops start bytes (Selection place) = (place ≡ start) × (dif : ℕ) × HasDif bytes dif × (dif % 16 ≡ 8)
Stops start bytes (Special dif) = HasDif bytes dif × (dif % 16 ≡ 15)

-- The fault that ends the records from a place on: behind fillers no record begins, and neither do manufacturer data.
pub record EndsBy (bytes : List ℕ) (from : ℕ) (fault : RecordFault) : Type 0 where
  pub place : ℕ
  pub fillers : AreFillers bytes from place
  pub within : place < length bytes
  pub not_filler : slice_get bytes place ≢ Some 0x2f
  pub not_maker : slice_get bytes place ≢ Some 0x0f
  pub nor_more : slice_get bytes place ≢ Some 0x1f
  pub stops : Stops place (drop place bytes) fault
