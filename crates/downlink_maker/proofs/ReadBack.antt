-- What is encrypted for a meter is decrypted by it, and a downlink's telegram is laid out as one.
use Rattle.std.proofs.Common.{◌≡◌, ℕ, ◌-◌, ◌*◌, ◌%◌, ◌^◌, ◌<◌, List, ◌∷◌, ◌++◌, ◌∙◌, length, replicate, sym, arith, append_assoc, length-append}
use Rattle.std.proofs.lemmas.List.{length-replicate, length-take}
use Rattle.std.proofs.lemmas.List.Elements.{All-cons, All-append, All-replicate, All-take}
use Rattle.std.specs.Int.{w32, to_le_bytes}
use Rattle.aes_block.proofs.Lists.{AreBytes}
use Rattle.aes_block.specs.Block.{IsBlock}
use Rattle.cbc_cmac.specs.Cbc.{cbc_decrypted}
use Rattle.cbc_cmac.specs.Mac.{zeros, cmac}
use Rattle.cbc_cmac.proofs.MacBlocks.{IsBlock-cmac}
use Rattle.cbc_cmac.proofs.Blocks.{bytes_of_blocks_are_undone, length-cbc_encrypted, AreBytes-cbc_encrypted}
use Rattle.key_derivation.specs.declared.KeyUse.TheVariants.{PartnerCipher, PartnerMac}
use Rattle.frame_formats.specs.Crc.{IsBytes}
use Rattle.frame_formats.specs.Frames.{IsTelegram}
use Rattle.frame_formats.proofs.FrameLaws.{one_frame_a}
use Rattle.meter_address.specs.declared.address.Address.{Address}
use Rattle.meter_address.specs.Commission.{Commissioned}
use Rattle.downlink_maker.specs.Downlink.{blocks_for, link_bytes, authentication_bytes, header_bytes, plain_content, cipher_key, mac_key, encrypted_content, message_bytes, mac_of, telegram_to}
use Rattle.downlink_maker.specs.Parts.{HasParts, parts_to, IsPayload}
use Rattle.downlink_maker.specs.Laws.{IsLaidOut}
use Rattle.downlink_maker.proofs.Bytes.{Byte, all_bytes, IsBlock-zeros, IsBlock-key, AreBytes-counter, AreBytes-link_bytes, AreBytes-authentication_bytes, AreBytes-header_bytes}
use Rattle.downlink_maker.proofs.Parts.{part-telegram}

-- how many fillers there are
abbrev fill : List ℕ → ℕ
fill payload = 16 * blocks_for (length payload) - 2 - length payload

pub AreBytes-plain_content : (payload : List ℕ) → AreBytes payload → AreBytes (plain_content payload)
AreBytes-plain_content payload h =
    let fillers : List ℕ = replicate (fill payload) 0x2F in
    All-cons Byte 0x2F (0x2F ∷ payload ++ fillers) (omega arith)
    (All-cons Byte 0x2F (payload ++ fillers) (omega arith)
    (All-append Byte payload fillers h (All-replicate Byte (fill payload) 0x2F (omega arith))))

pub length-plain_content : (payload : List ℕ) → length (plain_content payload) ≡ 16 * blocks_for (length payload)
length-plain_content payload =
    omega (arith, length-append payload (replicate (fill payload) 0x2F), length-replicate {A = ℕ} (fill payload) 0x2F)

module _ (c : Commissioned) (down : ℕ) (payload : List ℕ) (key : IsBlock c.key) (bytes : AreBytes payload) where
  whole : length (plain_content payload) % 16 ≡ 0
  whole = omega (arith, length-plain_content payload)

  pub decrypted_again : cbc_decrypted (cipher_key c down) zeros (encrypted_content c down payload) ≡ plain_content payload
  unfolding encrypted_content
  decrypted_again =
      (bytes_of_blocks_are_undone (cipher_key c down) zeros (plain_content payload) (IsBlock-key c PartnerCipher down key) IsBlock-zeros
      (AreBytes-plain_content payload bytes) whole).decrypted-encrypted

  pub AreBytes-encrypted_content : AreBytes (encrypted_content c down payload)
  unfolding encrypted_content
  AreBytes-encrypted_content =
      AreBytes-cbc_encrypted (cipher_key c down) zeros (plain_content payload) (IsBlock-key c PartnerCipher down key) IsBlock-zeros
      (AreBytes-plain_content payload bytes) whole

  pub length-encrypted_content : length (encrypted_content c down payload) ≡ 16 * blocks_for (length payload)
  unfolding encrypted_content
  length-encrypted_content =
      length-cbc_encrypted (cipher_key c down) zeros (plain_content payload) (IsBlock-key c PartnerCipher down key) IsBlock-zeros
      (AreBytes-plain_content payload bytes) whole
      ∙ length-plain_content payload

  pub AreBytes-message_bytes : AreBytes (message_bytes c down payload)
  unfolding message_bytes
  AreBytes-message_bytes =
      All-append Byte (header_bytes c.address down (blocks_for (length payload))) (encrypted_content c down payload)
      (AreBytes-header_bytes c.address down (blocks_for (length payload))) AreBytes-encrypted_content

  mac_block : IsBlock (cmac (mac_key c down) (0x25 ∷ to_le_bytes w32 down ++ message_bytes c down payload))
  mac_block =
      IsBlock-cmac (mac_key c down) (0x25 ∷ to_le_bytes w32 down ++ message_bytes c down payload) (IsBlock-key c PartnerMac down key)
      (All-cons Byte 0x25 (to_le_bytes w32 down ++ message_bytes c down payload) (omega arith)
      (All-append Byte (to_le_bytes w32 down) (message_bytes c down payload) (AreBytes-counter down) AreBytes-message_bytes))

  pub length-mac_of : length (mac_of c down payload) ≡ 8
  unfolding mac_of
  length-mac_of =
      omega (arith, length-take 8 (cmac (mac_key c down) (0x25 ∷ to_le_bytes w32 down ++ message_bytes c down payload)), mac_block.count)

  pub AreBytes-mac_of : AreBytes (mac_of c down payload)
  unfolding mac_of
  AreBytes-mac_of = All-take Byte 8 _ mac_block.bytes

module _ (own : Address) (c : Commissioned) (down : ℕ) (payload : List ℕ) (key : IsBlock c.key) (counter : down < 2 ^ 32)
    (is : IsPayload payload) where
  parts : HasParts own c.address (parts_to c down payload) (telegram_to own c down payload)
  unfolding telegram_to message_bytes
  parts = record {
    whole = sym (append_assoc (link_bytes own (blocks_for (length payload)) ++ authentication_bytes down (mac_of c down payload))
        (header_bytes c.address down (blocks_for (length payload))) (encrypted_content c down payload));
    least = omega (arith, is.least);
    most = omega (arith, is.most);
    counter = counter;
    eight = length-mac_of c down payload key is.bytes;
    content = length-encrypted_content c down payload key is.bytes;
  }

  bytes : IsBytes (telegram_to own c down payload)
  unfolding telegram_to
  bytes =
      let n : ℕ = blocks_for (length payload) in
      let mac : List ℕ = mac_of c down payload in
      let front = All-append Byte (link_bytes own n) (authentication_bytes down mac) (AreBytes-link_bytes own n (omega (arith, is.most)))
      (AreBytes-authentication_bytes down mac (AreBytes-mac_of c down payload key is.bytes)) in
      all_bytes (link_bytes own n ++ authentication_bytes down mac ++ message_bytes c down payload)
      (All-append Byte (link_bytes own n ++ authentication_bytes down mac) (message_bytes c down payload) front
      (AreBytes-message_bytes c down payload key is.bytes))

  telegram : IsTelegram (telegram_to own c down payload)
  telegram = part-telegram own c.address (parts_to c down payload) (telegram_to own c down payload) parts

  pub is_laid_out : IsLaidOut own c down payload
  is_laid_out =
      record {
        telegram = telegram;
        bytes = bytes;
        decoded = (one_frame_a (telegram_to own c down payload) telegram bytes).1;
        parts = parts;
      }
