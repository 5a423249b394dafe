-- The header of the extended link layer (EN 13757-4).
use Rattle.std.specs.Prelude.{ℕ, ◌≡◌, ◌≢◌, ◌<◌, ◌⊎◌, List, [], ◌∷◌, ◌++◌, length, slice_get, slice_index, Some, Result, Ok, Err, nat_lt, ◌==◌, if◌then◌else◌}
use Rattle.ell_layer.specs.declared.extension.Ell.{Ell}
use Rattle.ell_layer.specs.declared.extension.EllFault.{EllFault}
use Rattle.ell_layer.specs.declared.extension.EllFault.TheVariants.{Truncated, Kind}
use Rattle.lists.specs.Steps.{◌>>=◌}
use Rattle.ell_layer.specs.Access.{access_in}

-- the short header: CI 8C, the communication control, the access number
pub record IsShort (header : List ℕ) (e : Ell) : Type 0 where
  pub control : ℕ
  pub bytes : header ≡ 0x8C ∷ control ∷ e.acc ∷ []
  pub access : e.access ≡ access_in control

-- the long header: CI 8E, the communication control, the access number, and a second address of eight bytes
pub record IsLong (header : List ℕ) (e : Ell) : Type 0 where
  pub control : ℕ
  pub address : List ℕ
  pub eight : length address ≡ 8
  pub bytes : header ≡ 0x8E ∷ control ∷ e.acc ∷ address
  pub access : e.access ≡ access_in control

-- the bytes begin with a header that says e, of e.len bytes
pub record BeginsWithEll (bytes : List ℕ) (e : Ell) : Type 0 where
  pub header : List ℕ
  pub rest : List ℕ
  pub parts : bytes ≡ header ++ rest
  pub len : e.len ≡ length header
  pub spelt : IsShort header e ⊎ IsLong header e

-- the bytes are cut off: there is none, or fewer than the three of a short header, or than the eleven of a long one
abbrev pub IsCutOff : List ℕ → Type 0
IsCutOff bytes =
    (bytes ≡ [])
    ⊎ (((slice_get bytes 0 ≡ Some 0x8C) × (length bytes < 3))
    ⊎ ((slice_get bytes 0 ≡ Some 0x8E) × (length bytes < 11)))

-- why bytes begin with no header: they are cut off, or have another CI
abbrev pub IsEllFault : List ℕ → EllFault → Type 0
IsEllFault bytes (Truncated n) = IsCutOff bytes × (n ≡ length bytes)
IsEllFault bytes (Kind ci) = (slice_get bytes 0 ≡ Some ci) × (ci ≢ 0x8C) × (ci ≢ 0x8E)

-- ---- reading

-- how long the header is that begins so, or what is wrong with its CI
unfoldable pub header_len : List ℕ → Result ℕ EllFault
header_len [] = Err (Truncated 0)
header_len (ci ∷ rest) = if ci == 0x8C then Ok 3 else if ci == 0x8E then Ok 11 else Err (Kind ci)

-- the header with which the bytes begin, or the first fault
unfoldable pub ell_at : List ℕ → Result Ell EllFault
ell_at bytes = do
  len ← header_len bytes
  if nat_lt (length bytes) len then Err (Truncated (length bytes))
      else Ok (record { access = access_in (slice_index bytes 1); acc = slice_index bytes 2; len = len })
