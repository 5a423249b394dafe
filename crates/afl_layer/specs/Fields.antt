-- The fragmentation control field FCL, and the fields that it names (EN 13757-7, authentication and fragmentation layer).
use Rattle.std.specs.Prelude.{ℕ, ◌+◌, ◌%◌, ◌^◌, Bool, cond, ◌==◌, ◌&&◌, ◌||◌, nat_le, List, [], ◌∷◌, ◌++◌, Option, Some, None, is_some}
use Rattle.std.specs.Int.{bit_at, w16, w32, to_le_bytes}
use Rattle.afl_layer.specs.declared.header.Afl.{Afl}

-- whether a bit of FCL is set: MF, more fragments follow, is bit 14; each field has a bit that names it
abbrev pub has_bit : ℕ → ℕ → Bool
has_bit fcl place = bit_at fcl place == 1

abbrev pub has_more : ℕ → Bool
has_more fcl = has_bit fcl 14

abbrev pub names_mcl : ℕ → Bool
names_mcl fcl = has_bit fcl 13

abbrev pub names_ml : ℕ → Bool
names_ml fcl = has_bit fcl 12

abbrev pub names_mcr : ℕ → Bool
names_mcr fcl = has_bit fcl 11

abbrev pub names_mac : ℕ → Bool
names_mac fcl = has_bit fcl 10

abbrev pub names_ki : ℕ → Bool
names_ki fcl = has_bit fcl 9

-- FID, the number of the fragment: bits 7 to 0 of FCL
abbrev pub fid_of : ℕ → ℕ
fid_of fcl = fcl % 2 ^ 8

-- a number where something is so, and else 0
abbrev pub where_so : Bool → ℕ → ℕ
where_so so n = cond so n 0

-- how many bytes the fields that FCL names have: MCL, KI, MCR, MAC, ML
unfoldable pub fields_len : ℕ → ℕ
fields_len fcl =
    where_so (names_mcl fcl) 1
    + (where_so (names_ki fcl) 2 + (where_so (names_mcr fcl) 4 + (where_so (names_mac fcl) 8 + where_so (names_ml fcl) 2)))

-- the bytes of a field, where it is there
abbrev pub field_bytes : {A : Type 0} → (A → List ℕ) → Option A → List ℕ
field_bytes spell None = []
field_bytes spell (Some x) = spell x

abbrev pub one_byte : ℕ → List ℕ
one_byte b = b ∷ []

-- the bytes of the fields, in their order, numbers with their low byte first
abbrev pub fields_bytes : Afl → List ℕ
fields_bytes a =
    field_bytes one_byte a.mcl ++ (field_bytes (to_le_bytes w16) a.ki
    ++ (field_bytes (to_le_bytes w32) a.mcr
    ++ (field_bytes (λ mac. mac) a.mac ++ field_bytes (to_le_bytes w16) a.ml)))

-- the MAC stands in the last fragment alone, and the other fields in the first alone
abbrev pub is_misplaced : Bool → ℕ → Bool → Bool → Bool → Bool → Bool → Bool
is_misplaced more fid mcl ki mcr mac ml = (more && mac) || (nat_le 2 fid && ((mcl || ki) || (mcr || ml)))

-- fragments are counted from 1, and only a whole message may have FID 0
abbrev pub is_uncounted : Bool → ℕ → Bool
is_uncounted more fid = more && fid == 0

-- a header is that of a fragment where more fragments follow (MF = 1) or its number FID is at least 2; every other is that of a whole
-- message
abbrev pub is_fragment : Afl → Bool
is_fragment a = a.more || nat_le 2 a.fid

-- FCL of a header: a bit for MF and for each field that is there, and FID. The bits that aren't used are 0
unfoldable pub fcl_of : Afl → ℕ
fcl_of a =
    where_so a.more (2 ^ 14) + (where_so (is_some a.mcl) (2 ^ 13)
    + (where_so (is_some a.ml) (2 ^ 12) + (where_so (is_some a.mcr) (2 ^ 11)
    + (where_so (is_some a.mac) (2 ^ 10) + (where_so (is_some a.ki) (2 ^ 9) + a.fid)))))
