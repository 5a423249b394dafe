-- The layers of a telegram above the link (EN 13757-4, EN 13757-7): from place 10 on an extension of the link layer, an
-- authentication and fragmentation layer, each where it is there, and then a fragment's piece of a message, or a transport
-- header with its body.
use Rattle.std.specs.Prelude.{ℕ, ◌≡◌, ◌+◌, ◌≤◌, Bool, true, false, ◌&&◌, ◌==◌, nat_le, if◌then◌else◌, List, [], ◌∷◌, length, drop, slice_get, Option, Some, None, Result, Ok}
use Rattle.std.specs.Result.{result_map_both}
use Rattle.ell_layer.specs.declared.extension.Ell.{Ell}
use Rattle.ell_layer.specs.Extension as extension
use Rattle.afl_layer.specs.declared.header.Afl.{Afl}
use Rattle.afl_layer.specs.Fields.{is_fragment}
use Rattle.afl_layer.specs.Header as fragmentation
use Rattle.tpl_headers.specs.declared.header.Tpl.{Tpl}
use Rattle.tpl_headers.specs.Header as transport
use Rattle.lists.specs.Steps.{◌>>=◌}
use Rattle.message_check.specs.declared.headers.Layers.{Layers}
use Rattle.message_check.specs.declared.refusal.LayerFault.{LayerFault}
use Rattle.message_check.specs.declared.refusal.LayerFault.TheVariants as faults

-- whether a piece of a message follows, and no transport header: so it is behind the header of a fragment
abbrev pub has_piece : Option Afl → Bool
has_piece None = false
has_piece (Some a) = is_fragment a

-- the bytes begin with an extension of the link layer, where there is one, and the rest follows
abbrev pub ExtensionThen : List ℕ → Option Ell → List ℕ → Type 0
ExtensionThen bytes None rest = bytes ≡ rest
ExtensionThen bytes (Some e) rest = (begins : extension.BeginsWithEll bytes e) × (begins.rest ≡ rest)

-- the bytes begin with an authentication and fragmentation layer, where there is one, and the rest follows
abbrev pub FragmentationThen : List ℕ → Option Afl → List ℕ → Type 0
FragmentationThen bytes None rest = bytes ≡ rest
FragmentationThen bytes (Some a) rest = (begins : fragmentation.BeginsWithAfl bytes a) × (begins.rest ≡ rest)

-- the bytes are a fragment's piece, or begin with the transport header of a message
abbrev pub IsContent : List ℕ → Option Afl → Option Tpl → Type 0
IsContent bytes afl None = has_piece afl ≡ true
IsContent bytes afl (Some t) = (has_piece afl ≡ false) × transport.BeginsWithTpl bytes t

-- a telegram has these layers
pub record IsLayers (t : List ℕ) (l : Layers) : Type 0 where
  pub after_extension : List ℕ
  pub content : List ℕ
  pub extension : ExtensionThen (drop 10 t) l.ell after_extension
  pub fragmentation : FragmentationThen after_extension l.afl content
  pub message : IsContent content l.afl l.tpl
  pub body : l.body + length content ≡ length t

-- a telegram has at most one reading
abbrev pub OneReading : Type 0
OneReading = (t : List ℕ) (l m : Layers) → IsLayers t l → IsLayers t m → l ≡ m

-- the piece or the message of a telegram stands at the place that its reading names, and goes to its end
abbrev pub ContentAtBody : Type 0
ContentAtBody = (t : List ℕ) (l : Layers) (h : IsLayers t l) → drop l.body t ≡ h.content

-- ---- faults

-- the bytes begin with a CI from 8C to 8F, which an extension of the link layer has
abbrev pub HasExtensionCi : List ℕ → Type 0
HasExtensionCi bytes = (ci : ℕ) × (slice_get bytes 0 ≡ Some ci) × (0x8C ≤ ci) × (ci ≤ 0x8F)

-- the bytes begin with CI 90, which an authentication and fragmentation layer has
abbrev pub HasFragmentationCi : List ℕ → Type 0
HasFragmentationCi bytes = slice_get bytes 0 ≡ Some 0x90

-- both layers below the transport header are there, each where its CI is, and the rest follows
pub record IsBefore (t : List ℕ) (ell : Option Ell) (afl : Option Afl) (rest : List ℕ) : Type 0 where
  pub after_extension : List ℕ
  pub extension : ExtensionThen (drop 10 t) ell after_extension
  pub no_extension : ell ≡ None → ¬ HasExtensionCi after_extension
  pub fragmentation : FragmentationThen after_extension afl rest
  pub no_fragmentation : afl ≡ None → ¬ HasFragmentationCi rest

-- why a telegram has no layers: the layers before one are there, and the rest has the CI of that layer and a fault of it. What is no
-- piece of a message is to be a transport header, whatever its CI is
abbrev pub IsLayerFault : List ℕ → LayerFault → Type 0
IsLayerFault t (faults.Ell f) = HasExtensionCi (drop 10 t) × extension.IsEllFault (drop 10 t) f
IsLayerFault t (faults.Afl f) =
    (ell : Option Ell) × (rest : List ℕ) × ExtensionThen (drop 10 t) ell rest
    × HasFragmentationCi rest × fragmentation.IsAflFault rest f
IsLayerFault t (faults.Tpl f) =
    (ell : Option Ell) × (afl : Option Afl) × (rest : List ℕ) × IsBefore t ell afl rest
    × (has_piece afl ≡ false) × transport.IsTplFault rest f

-- ---- reading from left to right, with the first fault

abbrev pub extension_len : Option Ell → ℕ
extension_len None = 0
extension_len (Some e) = e.len

abbrev pub fragmentation_len : Option Afl → ℕ
fragmentation_len None = 0
fragmentation_len (Some a) = a.len

-- the extension of the link layer, where the bytes begin with one of its four CIs
abbrev pub extension_in : List ℕ → Result (Option Ell) LayerFault
extension_in [] = Ok None
extension_in (ci ∷ rest) =
    if nat_le 0x8C ci && nat_le ci 0x8F then result_map_both Some faults.Ell (extension.ell_at (ci ∷ rest)) else Ok None

-- the header of the authentication and fragmentation layer, where the bytes begin with its CI
abbrev pub fragmentation_in : List ℕ → Result (Option Afl) LayerFault
fragmentation_in [] = Ok None
fragmentation_in (ci ∷ rest) = if ci == 0x90 then result_map_both Some faults.Afl (fragmentation.afl_at (ci ∷ rest)) else Ok None

-- the transport header, where no piece of a message stands in its place
abbrev pub header_in : Option Afl → List ℕ → Result (Option Tpl) LayerFault
header_in afl bytes = if has_piece afl then Ok None else result_map_both Some faults.Tpl (transport.tpl_at bytes)

-- the layers of a telegram, or the fault of the first that can't be read
unfoldable pub layers_of : List ℕ → Result Layers LayerFault
layers_of t = do
  ell ← extension_in (drop 10 t)
  afl ← fragmentation_in (drop (10 + extension_len ell) t)
  tpl ← header_in afl (drop (10 + extension_len ell + fragmentation_len afl) t)
  Ok (record { ell = ell; afl = afl; tpl = tpl; body = 10 + extension_len ell + fragmentation_len afl })
