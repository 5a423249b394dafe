-- What a data record is, and the one spelling of each (EN 13757-3, clause 6).
use Rattle.std.specs.Prelude.{◌≡◌, ◌≢◌, ℕ, ◌-◌, ◌%◌, ◌<◌, ◌≤◌, List, [], ◌∷◌, ◌++◌, length, Option, Some, None, nat_lt, nat_le, ◌==◌, if◌then◌else◌}
use Rattle.std.specs.Option.{option_to_list}

-- the data information block: the DIF and its DIFEs
pub record Dib : Type 0 where
  pub dif : ℕ
  pub difes : List ℕ

-- the value information block: the VIF, the plain text unit with the length before it, and the VIFEs
pub record Vib : Type 0 where
  pub vif : ℕ
  pub text : List ℕ
  pub vifes : List ℕ

-- the data as they are sent, with the LVAR before them where the data field is D
pub record Contents : Type 0 where
  pub lvar : Option ℕ
  pub sent : List ℕ

-- a data record
pub record DataRecord : Type 0 where
  pub dib : Dib
  pub vib : Vib
  pub contents : Contents

-- The extensions behind a byte: its top bit says that one follows, and so does the top bit of each.
abbrev pub IsChain : ℕ → List ℕ → Type 0
IsChain byte [] = byte < 128
IsChain byte (next ∷ others) = (128 ≤ byte) × IsChain next others

-- Behind the VIFs 7C and FC stand a length and that many letters, behind every other VIF nothing.
abbrev pub IsPlainText : ℕ → List ℕ → Type 0
IsPlainText vif [] = vif % 128 ≢ 0x7c
IsPlainText vif (count ∷ letters) = (vif % 128 ≡ 0x7c) × (length letters ≡ count)

-- How many bytes of data a data field has; none is said for a selection (8), an LVAR (D) and a special function (F).
abbrev pub field_width : ℕ → Option ℕ
field_width field =
    if nat_le field 4 then Some field else
    (if field == 5 then Some 4 else
    (if field == 6 then Some 6 else
    (if field == 7 then Some 8 else
    (if field == 8 then None else
    (if nat_le field 12 then Some (field - 8) else
    (if field == 14 then Some 6 else None))))))

-- How many bytes of data an LVAR announces; none for an LVAR that isn't used here.
abbrev pub lvar_width : ℕ → Option ℕ
lvar_width lvar =
    if nat_lt lvar 0xc0 then Some lvar else
    (if nat_lt lvar 0xca then Some (lvar - 0xc0) else
    (if nat_lt lvar 0xd0 then None else
    (if nat_lt lvar 0xda then Some (lvar - 0xd0) else
    (if nat_lt lvar 0xe0 then None else
    (if nat_lt lvar 0xf0 then Some (lvar - 0xe0) else None)))))

-- How many bytes of data belong to a DIF and the LVAR that it may have; an LVAR stands only for the data field D.
abbrev pub data_width : ℕ → Option ℕ → Option ℕ
data_width dif None = field_width (dif % 16)
data_width dif (Some lvar) = if dif % 16 == 13 then lvar_width lvar else None

-- Each block is chained as its top bits say, with ten extensions at most, and the data are as long as announced.
pub record IsRecord (r : DataRecord) : Type 0 where
  pub difes : IsChain r.dib.dif r.dib.difes
  pub few_difes : length r.dib.difes ≤ 10
  pub text : IsPlainText r.vib.vif r.vib.text
  pub vifes : IsChain r.vib.vif r.vib.vifes
  pub few_vifes : length r.vib.vifes ≤ 10
  pub sent : data_width r.dib.dif r.contents.lvar ≡ Some (length r.contents.sent)

abbrev pub dib_spelling : Dib → List ℕ
dib_spelling b = b.dif ∷ b.difes

abbrev pub vib_spelling : Vib → List ℕ
vib_spelling b = b.vif ∷ (b.text ++ b.vifes)

abbrev pub contents_spelling : Contents → List ℕ
contents_spelling c = option_to_list c.lvar ++ c.sent

-- the bytes of a record, one block after another
abbrev pub spelling : DataRecord → List ℕ
spelling r = dib_spelling r.dib ++ (vib_spelling r.vib ++ contents_spelling r.contents)
