-- What the parts of a downlink's telegram are, read from its bytes.
use Rattle.std.proofs.Common.{◌≡◌, ℕ, ◌+◌, ◌*◌, List, ◌++◌, length, take, drop, get_or, ap, ◌∙◌, arith}
use Rattle.std.proofs.lemmas.List.{append_assoc, take_at, drop_at, length-append}
use Rattle.std.proofs.lemmas.Nat.{from_le_bytes-to_le_bytes_4}
use Rattle.std.specs.Int.{w32, from_le_bytes}
use Rattle.frame_formats.specs.Frames.{IsTelegram}
use Rattle.meter_address.specs.declared.address.Address.{Address}
use Rattle.meter_address.specs.Address.{bytes_of}
use Rattle.downlink_maker.specs.Downlink.{link_bytes, authentication_bytes, header_bytes}
use Rattle.downlink_maker.specs.Parts.{Parts, layers_before, HasParts}

pub length-layers_before : (own meter : Address) (p : Parts) → length p.mac ≡ 8 → length (layers_before own meter p) ≡ 41
unfolding bytes_of
length-layers_before own meter p h = omega (arith, length-append p.mac (header_bytes meter p.down p.blocks))

length-front : (own : Address) (p : Parts) → length p.mac ≡ 8 → length (link_bytes own p.blocks ++ authentication_bytes p.down p.mac) ≡ 27
unfolding bytes_of
length-front own p h = omega arith

module _ (own meter : Address) (p : Parts) (t : List ℕ) (h : HasParts own meter p t) where
  pub part-length : length t ≡ 41 + 16 * p.blocks
  part-length =
      omega (
        arith,
        ap length h.whole,
        length-append (layers_before own meter p) p.content,
        length-layers_before own meter p h.eight,
        h.content,
      )

  pub part-l : get_or t 0 0 ≡ 40 + 16 * p.blocks
  part-l = ap (λ (x : List ℕ). get_or x 0 0) h.whole

  pub part-counter : from_le_bytes w32 (take 4 (drop 15 t)) ≡ p.down
  unfolding bytes_of
  part-counter = ap (λ (x : List ℕ). from_le_bytes w32 (take 4 (drop 15 x))) h.whole ∙ from_le_bytes-to_le_bytes_4 p.down h.counter

  pub part-mac : take 8 (drop 19 t) ≡ p.mac
  unfolding bytes_of
  part-mac =
      ap (λ (x : List ℕ). take 8 (drop 19 x)) h.whole ∙ ap (take 8) (append_assoc p.mac (header_bytes meter p.down p.blocks) p.content)
      ∙ take_at p.mac (header_bytes meter p.down p.blocks ++ p.content) 8 h.eight

  -- the message: its transport header and its content
  pub part-message : drop 27 t ≡ header_bytes meter p.down p.blocks ++ p.content
  part-message =
      ap (drop 27) (h.whole
      ∙ append_assoc (link_bytes own p.blocks ++ authentication_bytes p.down p.mac) (header_bytes meter p.down p.blocks) p.content)
      ∙ drop_at (link_bytes own p.blocks ++ authentication_bytes p.down p.mac) (header_bytes meter p.down p.blocks ++ p.content) 27
      (length-front own p h.eight)

  pub part-content : drop 41 t ≡ p.content
  part-content = ap (drop 41) h.whole ∙ drop_at (layers_before own meter p) p.content 41 (length-layers_before own meter p h.eight)

  pub part-telegram : IsTelegram t
  part-telegram =
      record { least = omega (arith, part-length); most = omega (arith, part-length, h.most); counted = omega (arith, part-l, part-length) }
