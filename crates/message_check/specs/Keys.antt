-- The keys of a meter, and the one that secures a message of security mode 7 (OMS Volume 2).
use Rattle.std.specs.Prelude.{ℕ, ◌≡◌, ◌==◌, if◌then◌else◌, List, Option, None, option_map, unwrap_or}
use Rattle.meter_address.specs.Commission.{Commissioned}
use Rattle.tpl_headers.specs.declared.header.Tpl.{Tpl}
use Rattle.tpl_headers.specs.Configuration.{key_id_of}

-- a meter's first key, and its second one, where there is one
pub record TwoKeys : Type 0 where
  pub first : List ℕ
  pub other : Option (List ℕ)

-- the keys that are commissioned
abbrev pub keys_of : Commissioned → TwoKeys
keys_of c = record { first = c.key; other = c.other }

-- the id of the key that a header of mode 7 names
abbrev pub key_id_in : Tpl → ℕ
key_id_in h = unwrap_or (option_map key_id_of h.cfe) 0

-- of two keys that of a message with this header: the second one, where the header names key 1 and there is a second one; else the
-- first. So every key id has a key, and no message is refused for its key id
abbrev pub key_among : TwoKeys → Tpl → List ℕ
key_among k h = if key_id_in h == 1 then unwrap_or k.other k.first else k.first

-- a meter's key for a message with this header
abbrev pub key_of : Commissioned → Tpl → List ℕ
key_of c h = key_among (keys_of c) h

-- a meter without a second key has its first for every message
abbrev pub OneKeyAlone : Type 0
OneKeyAlone = (c : Commissioned) (h : Tpl) → c.other ≡ None → key_of c h ≡ c.key
