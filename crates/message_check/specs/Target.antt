-- The meter that a telegram is for.
use Rattle.std.specs.Prelude.{ℕ, List, take, drop, Option, None, option_and_then, unwrap_or, Result, Ok, Err}
use Rattle.std.specs.Int.{w64, from_be_bytes}
use Rattle.meter_address.specs.declared.address.Address.{Address}
use Rattle.message_check.specs.declared.headers.Layers.{Layers}
use Rattle.message_check.specs.declared.refusal.LayerFault.{LayerFault}
use Rattle.message_check.specs.Layers.{layers_of}

-- the link address: the eight bytes behind C
abbrev pub link_address : List ℕ → Address
link_address t = record { 0 = from_be_bytes w64 (take 8 (drop 2 t)) }

-- the address of the long transport header, where there is one
abbrev pub long_address : Layers → Option Address
long_address l = option_and_then (λ h. h.address) l.tpl

abbrev pub address_read : Result Layers LayerFault → Option Address
address_read (Ok l) = long_address l
address_read (Err f) = None

-- the address of the long header where the layers are read and there is one; in every other case the link address
unfoldable pub target_of : List ℕ → Address
target_of t = unwrap_or (address_read (layers_of t)) (link_address t)
