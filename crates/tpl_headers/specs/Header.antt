-- The transport header (EN 13757-7, OMS Volume 2).
use Rattle.std.specs.Prelude.{ℕ, ◌≡◌, ◌+◌, ◌<◌, ◌^◌, ◌⊎◌, List, [], ◌∷◌, ◌++◌, length, drop, slice_get, Option, Some, None, option_map, option_and_then, is_some, ok_or, IfSome, Result, Err, ◌==◌, ◌||◌, if◌then◌else◌}
use Rattle.std.specs.Int.{w16, w64, to_le_bytes, from_le_bytes, from_be_bytes}
use Rattle.meter_address.specs.declared.address.Address.{Address}
use Rattle.meter_address.specs.Address.{header_order}
use Rattle.tpl_headers.specs.declared.header.Tpl.{Tpl}
use Rattle.tpl_headers.specs.declared.header.TplFault.{TplFault}
use Rattle.tpl_headers.specs.declared.header.TplFault.TheVariants.{Truncated, Unbuilt}
use Rattle.tpl_headers.specs.declared.tail.Tail.{Tail}
use Rattle.tpl_headers.specs.Configuration.{mode_of}

-- the CI of a header without an address, and of one with an address
abbrev pub IsShortCi : ℕ → Type 0
IsShortCi ci = (ci ≡ 0x7A) ⊎ (ci ≡ 0x8A)

abbrev pub IsLongCi : ℕ → Type 0
IsLongCi ci = (ci ≡ 0x72) ⊎ (ci ≡ 0x8B)

-- the extension of the configuration field, where there is one
abbrev pub cfe_bytes : Option ℕ → List ℕ
cfe_bytes None = []
cfe_bytes (Some cfe) = cfe ∷ []

-- what every header ends with: access number, status, configuration field with its low byte first, its extension
abbrev pub tail_bytes : ℕ → ℕ → ℕ → Option ℕ → List ℕ
tail_bytes acc status cf cfe = acc ∷ status ∷ to_le_bytes w16 cf ++ cfe_bytes cfe

abbrev pub address_bytes : Option Address → List ℕ
address_bytes None = []
address_bytes (Some a) = header_order a

-- the bytes of a header
abbrev pub tpl_bytes : Tpl → List ℕ
tpl_bytes t = t.ci ∷ (address_bytes t.address ++ tail_bytes t.acc t.status t.cf t.cfe)

-- a header has an address exactly where its CI is that of a long header
abbrev pub HasItsAddress : ℕ → Option Address → Type 0
HasItsAddress ci None = IsShortCi ci
HasItsAddress ci (Some a) = IsLongCi ci

-- the configuration field has its extension in mode 7 alone
abbrev pub HasItsExtension : ℕ → Option ℕ → Type 0
HasItsExtension cf cfe = is_some cfe ≡ (mode_of cf == 7)

-- what can be written as a header
pub record IsHeader (t : Tpl) : Type 0 where
  pub address : HasItsAddress t.ci t.address
  pub extension : HasItsExtension t.cf t.cfe
  pub number : IfSome t.address (λ a. a.0 < 2 ^ 64)
  pub cf : t.cf < 2 ^ 16
  pub len : t.len ≡ length (tpl_bytes t)

-- the bytes begin with those of the header
pub record BeginsWithTpl (bytes : List ℕ) (t : Tpl) : Type 0 where
  pub is_header : IsHeader t
  pub rest : List ℕ
  pub parts : bytes ≡ tpl_bytes t ++ rest

-- the tail of a header is cut off: it has fewer than four bytes, or in mode 7 no extension behind them
abbrev pub IsCutTail : List ℕ → Type 0
IsCutTail tail = (length tail < 4) ⊎ ((length tail ≡ 4) × (mode_of (from_le_bytes w16 (drop 2 tail)) ≡ 7))

-- the bytes are cut off: there is none, or the tail is cut off behind a short CI, or behind a long one and its address
abbrev pub IsCutOff : List ℕ → Type 0
IsCutOff [] = Unit {0}
IsCutOff (ci ∷ rest) = (IsShortCi ci × IsCutTail rest) ⊎ (IsLongCi ci × IsCutTail (drop 8 rest))

-- why bytes begin with no header: they are cut off, or have another CI
abbrev pub IsTplFault : List ℕ → TplFault → Type 0
IsTplFault bytes (Truncated n) = IsCutOff bytes × (n ≡ length bytes)
IsTplFault bytes (Unbuilt ci) = (slice_get bytes 0 ≡ Some ci) × (¬ IsShortCi ci) × (¬ IsLongCi ci)

-- ---- reading from left to right, with the first fault

-- the extension that stands behind a configuration field, none where it is cut off
unfoldable pub cfe_at : ℕ → List ℕ → Option (Option ℕ)
cfe_at cf [] = if mode_of cf == 7 then None else Some None
cfe_at cf (cfe ∷ rest) = if mode_of cf == 7 then Some (Some cfe) else Some None

-- the tail with which the bytes begin, none where it is cut off
unfoldable pub tail_at : List ℕ → Option Tail
tail_at (acc ∷ status ∷ low ∷ high ∷ rest) =
    let cf : ℕ = from_le_bytes w16 (low ∷ high ∷ []) in
    option_map (λ cfe. record { acc = acc; status = status; cf = cf; cfe = cfe }) (cfe_at cf rest)
tail_at _ = None

-- the address in header order with which the bytes begin, and what follows, none where it is cut off
unfoldable pub address_at : List ℕ → Option (Address × List ℕ)
address_at (i ∷ j ∷ k ∷ l ∷ m ∷ n ∷ version ∷ kind ∷ rest) =
    Some (record { 0 = from_be_bytes w64 (m ∷ n ∷ i ∷ j ∷ k ∷ l ∷ version ∷ kind ∷ []) }, rest)
address_at _ = None

-- a header with this tail, where the CI and the address have that many bytes
abbrev pub with_tail : ℕ → Option Address → ℕ → Tail → Tpl
with_tail ci address len t =
    record {
      ci = ci;
      address = address;
      acc = t.acc;
      status = t.status;
      cf = t.cf;
      cfe = t.cfe;
      len = len + (4 + length (cfe_bytes t.cfe));
    }

-- a header without an address, and one with an address, behind their CI
unfoldable pub short_at : ℕ → List ℕ → Option Tpl
short_at ci rest = option_map (with_tail ci None 1) (tail_at rest)

unfoldable pub long_at : ℕ → List ℕ → Option Tpl
long_at ci rest = option_and_then (λ x. option_map (with_tail ci (Some x.0) 9) (tail_at x.1)) (address_at rest)

-- the header with which the bytes begin, or the first fault
unfoldable pub tpl_at : List ℕ → Result Tpl TplFault
tpl_at [] = Err (Truncated 0)
tpl_at (ci ∷ rest) =
    if ci == 0x7A || ci == 0x8A then ok_or (short_at ci rest) (Truncated (1 + length rest))
    else if ci == 0x72 || ci == 0x8B then ok_or (long_at ci rest) (Truncated (1 + length rest))
    else Err (Unbuilt ci)
