-- The parts of a downlink's telegram, and of any that is laid out like one.
use Rattle.std.specs.Prelude.{ℕ, ◌≡◌, ◌*◌, ◌^◌, ◌<◌, ◌≤◌, List, ◌++◌, length}
use Rattle.std.specs.List.{All}
use Rattle.meter_address.specs.declared.address.Address.{Address}
use Rattle.meter_address.specs.Commission.{Commissioned}
use Rattle.downlink_maker.specs.Downlink.{blocks_for, link_bytes, header_bytes, authentication_bytes, encrypted_content, mac_of}

-- what differs from one downlink to a meter to another: how many blocks its content has, its counter, its MAC, its content
pub record Parts : Type 0 where
  pub blocks : ℕ
  pub down : ℕ
  pub mac : List ℕ
  pub content : List ℕ

-- what stands before the content: link layer, authentication layer and transport header, 41 bytes
abbrev pub layers_before : Address → Address → Parts → List ℕ
layers_before own meter p = link_bytes own p.blocks ++ authentication_bytes p.down p.mac ++ header_bytes meter p.down p.blocks

-- a telegram to a meter that is laid out as a downlink with these parts
pub record HasParts (own meter : Address) (p : Parts) (t : List ℕ) : Type 0 where
  pub whole : t ≡ layers_before own meter p ++ p.content
  pub least : 1 ≤ p.blocks
  pub most : p.blocks ≤ 6
  pub counter : p.down < 2 ^ 32
  pub eight : length p.mac ≡ 8
  pub content : length p.content ≡ 16 * p.blocks

-- the parts of the downlink that carries a payload
abbrev pub parts_to : Commissioned → ℕ → List ℕ → Parts
parts_to c down payload = record {
  blocks = blocks_for (length payload);
  down = down;
  mac = mac_of c down payload;
  content = encrypted_content c down payload;
}

-- 1 to 94 bytes
pub record IsPayload (payload : List ℕ) : Type 0 where
  pub least : 1 ≤ length payload
  pub most : length payload ≤ 94
  pub bytes : All (λ b. b < 256) payload
