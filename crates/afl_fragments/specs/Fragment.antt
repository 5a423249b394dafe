-- Fragments of a message (EN 13757-7, authentication and fragmentation layer).
use Rattle.std.specs.Prelude.{◌≡◌, ℕ, ◌+◌, ◌<◌, ◌≤◌, true, false, List, ◌++◌, length, is_some, All}
use Rattle.afl_layer.specs.declared.header.Afl.{Afl}
use Rattle.afl_layer.specs.Header.{afl_bytes, Fits}
use Rattle.afl_layer.specs.Fields.{fcl_of, fields_bytes, is_misplaced, is_fragment, is_uncounted}

-- a fragment: its header, and the bytes behind the header, which are a piece of the message
pub record Fragment : Type 0 where
  pub afl : Afl
  pub bytes : List ℕ

-- the header of a fragment, as it is sent: fragments are numbered from 1, its fields have their places, and it says its own length
pub record IsFragment (a : Afl) : Type 0 where
  pub fragment : is_fragment a ≡ true
  pub numbered : is_uncounted a.more a.fid ≡ false
  pub placed : is_misplaced a.more a.fid (is_some a.mcl) (is_some a.ki) (is_some a.mcr) (is_some a.mac) (is_some a.ml) ≡ false
  pub len : a.len ≡ 4 + length (fields_bytes a)

-- a fragment as it is sent: its header, and the piece behind it
abbrev pub spelt : Fragment → List ℕ
spelt part = afl_bytes (fcl_of part.afl) part.afl ++ part.bytes

-- it can be sent so: its header is a fragment's, with fields of their sizes, and the piece fits into a telegram
pub record IsSpelt (part : Fragment) : Type 0 where
  pub fragment : IsFragment part.afl
  pub fits : Fits part.afl
  pub most : length part.bytes ≤ 242
  pub bytes : All (λ b. b < 256) (spelt part)
