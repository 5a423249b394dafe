-- The header of the authentication and fragmentation layer (EN 13757-7).
use Rattle.std.specs.Prelude.{ℕ, ◌≡◌, ◌≢◌, ◌+◌, ◌<◌, ◌≤◌, ◌^◌, ◌⊎◌, Bool, true, false, ◌==◌, nat_lt, not, List, [], ◌∷◌, ◌++◌, length, take, drop, Option, Some, None, is_some, IfSome, Result, Ok, Err, if◌then◌else◌}
use Rattle.std.specs.Int.{w16, w32, to_le_bytes, from_le_bytes}
use Rattle.afl_layer.specs.declared.header.Afl.{Afl}
use Rattle.afl_layer.specs.declared.header.AflFault.{AflFault}
use Rattle.afl_layer.specs.declared.header.AflFault.TheVariants.{Truncated, AflLength, FieldPlace, FidZero}
use Rattle.afl_layer.specs.Fields.{has_more, names_mcl, names_ki, names_mcr, names_mac, names_ml, fid_of, where_so, fields_len, fields_bytes, is_misplaced, is_uncounted}

-- the bytes of a header with this FCL: CI 90, AFLL, which counts the bytes behind itself, FCL, the fields
abbrev pub afl_bytes : ℕ → Afl → List ℕ
afl_bytes fcl a = 0x90 ∷ (2 + length (fields_bytes a)) ∷ (to_le_bytes w16 fcl ++ fields_bytes a)

-- FCL says what the header has; its bits 15 and 8 say nothing
pub record Says (fcl : ℕ) (a : Afl) : Type 0 where
  pub more : a.more ≡ has_more fcl
  pub fid : a.fid ≡ fid_of fcl
  pub mcl : is_some a.mcl ≡ names_mcl fcl
  pub ki : is_some a.ki ≡ names_ki fcl
  pub mcr : is_some a.mcr ≡ names_mcr fcl
  pub mac : is_some a.mac ≡ names_mac fcl
  pub ml : is_some a.ml ≡ names_ml fcl

-- the numbers are those of their fields' widths
pub record Fits (a : Afl) : Type 0 where
  pub fid : a.fid < 2 ^ 8
  pub ki : IfSome a.ki (λ n. n < 2 ^ 16)
  pub mcr : IfSome a.mcr (λ n. n < 2 ^ 32)
  pub mac : IfSome a.mac (λ mac. length mac ≡ 8)
  pub ml : IfSome a.ml (λ n. n < 2 ^ 16)

-- each field has its place among the fragments, and a fragment of several has a number
pub record IsPlaced (a : Afl) : Type 0 where
  pub fields : is_misplaced a.more a.fid (is_some a.mcl) (is_some a.ki) (is_some a.mcr) (is_some a.mac) (is_some a.ml) ≡ false
  pub fid : is_uncounted a.more a.fid ≡ false

-- the bytes begin with those of the header, with some FCL that says what it has
pub record BeginsWithAfl (bytes : List ℕ) (a : Afl) : Type 0 where
  pub fcl : ℕ
  pub rest : List ℕ
  pub word : fcl < 2 ^ 16
  pub parts : bytes ≡ afl_bytes fcl a ++ rest
  pub says : Says fcl a
  pub fits : Fits a
  pub placed : IsPlaced a
  pub len : a.len ≡ length (afl_bytes fcl a)

-- ---- faults

-- whether FCL names a field that doesn't stand in this fragment
unfoldable pub misplaces : ℕ → Bool
misplaces fcl = is_misplaced (has_more fcl) (fid_of fcl) (names_mcl fcl) (names_ki fcl) (names_mcr fcl) (names_mac fcl) (names_ml fcl)

-- whether FCL is that of a fragment of several, and doesn't number it
unfoldable pub uncounts : ℕ → Bool
uncounts fcl = is_uncounted (has_more fcl) (fid_of fcl)

-- the bytes begin with CI 90, this AFLL and this FCL, and the rest follows
pub record BeginsWithFcl (bytes : List ℕ) (said fcl : ℕ) (rest : List ℕ) : Type 0 where
  pub word : fcl < 2 ^ 16
  pub parts : bytes ≡ 0x90 ∷ said ∷ (to_le_bytes w16 fcl ++ rest)

-- AFLL counts FCL and the fields that it names, and these are there
pub record HasFields (bytes : List ℕ) (fcl : ℕ) : Type 0 where
  pub rest : List ℕ
  pub begins : BeginsWithFcl bytes (2 + fields_len fcl) fcl rest
  pub enough : fields_len fcl ≤ length rest

-- the bytes are cut off: there are fewer than four, or fewer fields than AFLL counts
abbrev pub IsCutOff : List ℕ → Type 0
IsCutOff bytes =
    (length bytes < 4) ⊎ ((fcl : ℕ) × (rest : List ℕ) × BeginsWithFcl bytes (2 + fields_len fcl) fcl rest × (length rest < fields_len fcl))

-- why bytes that have CI 90 begin with no header: AFLL counts other fields than FCL names; they are cut off; FCL names a field that
-- doesn't stand in this fragment; it is that of a fragment of several, and has no number
abbrev pub IsAflFault : List ℕ → AflFault → Type 0
IsAflFault bytes (Truncated n) = IsCutOff bytes × (n ≡ length bytes)
IsAflFault bytes (AflLength said fields) =
    (fcl : ℕ) × (rest : List ℕ) × BeginsWithFcl bytes said fcl rest × (fields ≡ 2 + fields_len fcl) × (said ≢ fields)
IsAflFault bytes (FieldPlace fcl) = HasFields bytes fcl × (misplaces fcl ≡ true)
IsAflFault bytes FidZero = (fcl : ℕ) × HasFields bytes fcl × (misplaces fcl ≡ false) × (uncounts fcl ≡ true)

-- ---- reading from left to right, with the first fault

-- the value of a field's bytes, none where there are none: a byte, a number of two or four bytes, the bytes themselves
abbrev pub byte_in : List ℕ → Option ℕ
byte_in [] = None
byte_in (b ∷ bytes) = Some b

abbrev pub two_in : List ℕ → Option ℕ
two_in [] = None
two_in (b ∷ bytes) = Some (from_le_bytes w16 (b ∷ bytes))

abbrev pub four_in : List ℕ → Option ℕ
four_in [] = None
four_in (b ∷ bytes) = Some (from_le_bytes w32 (b ∷ bytes))

abbrev pub all_in : List ℕ → Option (List ℕ)
all_in [] = None
all_in (b ∷ bytes) = Some (b ∷ bytes)

-- the fields that FCL names, one behind the other
unfoldable pub fields_at : ℕ → List ℕ → Afl
fields_at fcl bytes =
    let mcl : ℕ = where_so (names_mcl fcl) 1 in
    let ki : ℕ = where_so (names_ki fcl) 2 in
    let mcr : ℕ = where_so (names_mcr fcl) 4 in
    let mac : ℕ = where_so (names_mac fcl) 8 in
    let ml : ℕ = where_so (names_ml fcl) 2 in
    let after_mcl : List ℕ = drop mcl bytes in
    let after_ki : List ℕ = drop ki after_mcl in
    let after_mcr : List ℕ = drop mcr after_ki in
    let after_mac : List ℕ = drop mac after_mcr in
    record {
      more = has_more fcl;
      fid = fid_of fcl;
      mcl = byte_in (take mcl bytes);
      ki = two_in (take ki after_mcl);
      mcr = four_in (take mcr after_ki);
      mac = all_in (take mac after_mcr);
      ml = two_in (take ml after_mac);
      len = 4 + fields_len fcl;
    }

-- the header with which the bytes begin, whose CI is 90, or the first fault
unfoldable pub afl_at : List ℕ → Result Afl AflFault
afl_at (ci ∷ said ∷ low ∷ high ∷ rest) =
    let fcl : ℕ = from_le_bytes w16 (low ∷ high ∷ []) in
    if not (said == 2 + fields_len fcl) then Err (AflLength said (2 + fields_len fcl))
    else if nat_lt (length rest) (fields_len fcl) then Err (Truncated (4 + length rest))
    else if misplaces fcl then Err (FieldPlace fcl)
    else if uncounts fcl then Err FidZero
    else Ok (fields_at fcl rest)
afl_at bytes = Err (Truncated (length bytes))
