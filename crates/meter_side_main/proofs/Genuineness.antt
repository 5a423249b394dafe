-- What passes all but the comparison of its counter is genuine, and no other is.
use Rattle.std.proofs.Common.{◌≡◌, ℕ, zero, suc, ◌+◌, ◌-◌, ◌*◌, ◌%◌, ◌^◌, ◌<◌, ◌≤◌, ◌==◌, ◌&&◌, Bool, true, false, cond, leb, eqb, List, [], ◌∷◌, ◌++◌, length, take, drop, get_or, replicate, Result, Ok, Err, refl, sym, ap, ap₂, ◌∙◌, subst, arith}
use Rattle.std.proofs.lemmas.Bool.{and_from, and_parts, eq-eqb, eqb-true, le-leb, leb-true}
use Rattle.std.proofs.lemmas.List.{append_assoc, append-nil, take-append-drop, length-take, length-drop}
use Rattle.std.proofs.lemmas.List.Elements.{All-head, All-tail, All-take, All-drop}
use Rattle.std.proofs.lemmas.Slice.Eq.{bytes_eq-Decides}
use Rattle.std.specs.Str.{bytes_eq}
use Rattle.std.specs.Int.{w32, to_le_bytes, from_le_bytes}
use Rattle.aes_block.specs.Block.{IsBlock}
use Rattle.aes_block.proofs.Lists.{AreBytes}
use Rattle.cbc_cmac.specs.Cbc.{cbc_encrypted, cbc_decrypted}
use Rattle.cbc_cmac.specs.Mac.{zeros, cmac}
use Rattle.cbc_cmac.proofs.Blocks.{bytes_of_blocks_are_undone, length-cbc_decrypted, AreBytes-cbc_decrypted}
use Rattle.key_derivation.specs.declared.KeyUse.TheVariants.{PartnerCipher}
use Rattle.frame_formats.specs.Crc.{IsBytes}
use Rattle.frame_formats.specs.Frames.{IsTelegram, FrameA}
use Rattle.frame_formats.specs.Decoding.{decoded_a, frame_a}
use Rattle.frame_formats.specs.declared.format.Format.TheVariants.{A}
use Rattle.frame_formats.proofs.EitherFormat.{telegrams_are_bytes}
use Rattle.frame_formats.proofs.RelationA.{found}
use Rattle.frame_formats.proofs.FrameLaws.{one_frame_a}
use Rattle.meter_address.specs.declared.address.Address.{Address}
use Rattle.meter_address.specs.Commission.{Commissioned}
use Rattle.downlink_maker.specs.Downlink.{blocks_for, link_bytes, header_bytes, authentication_bytes, plain_content, cipher_key, mac_key, encrypted_content, message_bytes, mac_of, telegram_to}
use Rattle.downlink_maker.specs.Parts.{Parts, layers_before, HasParts, parts_to, IsPayload}
use Rattle.downlink_maker.proofs.Bytes.{Byte, bytes_all, IsBlock-zeros, IsBlock-key}
use Rattle.downlink_maker.proofs.Parts.{length-layers_before, part-l, part-counter, part-mac, part-message, part-content}
use Rattle.downlink_maker.proofs.ReadBack.{decrypted_again, is_laid_out}
use Rattle.meter_side_main.specs.declared.delivery.Executed.{Executed}
use Rattle.meter_side_main.specs.declared.reason.SideReason.{SideReason}
use Rattle.meter_side_main.specs.declared.reason.SideReason.TheVariants.{Frame, Layout, BadMac, CheckBytes}
use Rattle.meter_side_main.specs.Reading.{blocks_in, counter_in, mac_in, parts_in, layout_of, agreeing, mac_due, decrypted, Passed, framed, is_length, told}
use Rattle.meter_side_main.specs.Genuine.{IsGenuine, IsOfItsContent, GenuineAreTold, ContentsArePayloads}
use Rattle.meter_side_main.proofs.Agreeing.{agreed, agreeing-append}
use Rattle.lists.specs.Steps.{◌>>=◌}
use Rattle.lists.proofs.StepLaws.{bind_ok, map_both_ok}

-- ---- what is laid out as it should be, and has its MAC and its check bytes

module _ (own : Address) (c : Commissioned) (p : Parts) (payload t : List ℕ) (h : HasParts own c.address p t) (hk : IsBlock c.key)
    (hb : AreBytes p.content)
    (plain : cbc_decrypted (cipher_key c p.down) zeros p.content ≡ 0x2F ∷ 0x2F ∷ payload)
    (due : take 8 (cmac (mac_key c p.down) (0x25 ∷ to_le_bytes w32 p.down ++ (header_bytes c.address p.down p.blocks ++ p.content)))
    ≡ p.mac) where
  whole_blocks : length p.content % 16 ≡ 0
  whole_blocks = omega (arith, h.content)

  key_is : IsBlock (cipher_key c p.down)
  key_is = IsBlock-key c PartnerCipher p.down hk

  length-payload : length payload + 2 ≡ 16 * p.blocks
  length-payload = omega
      (arith, ap length plain, length-cbc_decrypted (cipher_key c p.down) zeros p.content key_is IsBlock-zeros hb whole_blocks, h.content)

  count : blocks_for (length payload) ≡ p.blocks
  count = omega (arith, length-payload)

  pub filled : plain_content payload ≡ 0x2F ∷ 0x2F ∷ payload
  filled =
      let none : 16 * blocks_for (length payload) - 2 - length payload ≡ 0 = omega (arith, length-payload) in
      ap (λ (k : ℕ). 0x2F ∷ 0x2F ∷ (payload ++ replicate k 0x2F)) none ∙ ap (λ (x : List ℕ). 0x2F ∷ 0x2F ∷ x) (append-nil payload)

  encrypted_is : encrypted_content c p.down payload ≡ p.content
  unfolding encrypted_content
  encrypted_is =
      ap (cbc_encrypted (cipher_key c p.down) zeros) (filled ∙ sym plain)
      ∙ (bytes_of_blocks_are_undone (cipher_key c p.down) zeros p.content key_is IsBlock-zeros hb whole_blocks).encrypted-decrypted

  message_is : message_bytes c p.down payload ≡ header_bytes c.address p.down p.blocks ++ p.content
  unfolding message_bytes
  message_is = ap₂ (λ (k : ℕ) (x : List ℕ). header_bytes c.address p.down k ++ x) count encrypted_is

  mac_is : mac_of c p.down payload ≡ p.mac
  unfolding mac_of
  mac_is = ap (λ (m : List ℕ). take 8 (cmac (mac_key c p.down) (0x25 ∷ to_le_bytes w32 p.down ++ m))) message_is ∙ due

  pub telegram_is : t ≡ telegram_to own c p.down payload
  unfolding telegram_to
  telegram_is =
      h.whole ∙ append_assoc (link_bytes own p.blocks ++ authentication_bytes p.down p.mac) (header_bytes c.address p.down p.blocks)
      p.content
      ∙ sym (
      ap (λ (k : ℕ). link_bytes own k ++ authentication_bytes p.down (mac_of c p.down payload) ++ message_bytes c p.down payload) count
      ∙ ap (λ (m : List ℕ). link_bytes own p.blocks ++ authentication_bytes p.down m ++ message_bytes c p.down payload) mac_is
      ∙ ap (λ (x : List ℕ). link_bytes own p.blocks ++ authentication_bytes p.down p.mac ++ x) message_is
      )

  pub payload_is : IsPayload payload
  payload_is = record {
    least = omega (arith, length-payload, h.least);
    most = omega (arith, length-payload, h.most);
    bytes = All-tail Byte 0x2F payload (All-tail Byte 0x2F (0x2F ∷ payload)
        (subst AreBytes plain (AreBytes-cbc_decrypted (cipher_key c p.down) zeros p.content key_is IsBlock-zeros hb whole_blocks)));
  }

-- ---- what passes

abbrev pub passed : Passed
passed = Ok tt

-- a check that was passed, and the steps behind it
pub guard_ok : {A : Type 0} (b : Bool) (e : SideReason) (f : Unit {0} → Result A SideReason) (y : A)
    → (cond b passed (Err e) >>= f) ≡ Ok y → (b ≡ true) × (f tt ≡ Ok y)
guard_ok true e f y h = (refl, h)
guard_ok false e f y h = absurd cc

pub is_counted : (l : ℕ) → is_length l ≡ true → (56 ≤ l) × (l ≤ 136) × ((l - 40) % 16 ≡ 0)
is_counted l h =
    let p = and_parts (leb 56 l && leb l 136) (eqb ((l - 40) % 16) 0) h in
    let q = and_parts (leb 56 l) (leb l 136) p.0 in
    (leb-true _ _ q.0, leb-true _ _ q.1, eqb-true _ _ p.1)

pub small : (xs : List ℕ) → AreBytes xs → (i : ℕ) → get_or xs i 0 < 256
small [] h i = omega arith
small (x ∷ xs) h zero = All-head Byte x xs h
small (x ∷ xs) h (suc i) = small xs (All-tail Byte x xs h) i

counter-fits : (xs : List ℕ) → AreBytes xs → from_le_bytes w32 xs < 2 ^ 32
counter-fits xs h = omega (arith, small xs h 0, small xs h 1, small xs h 2, small xs h 3)

parts_of : (own a : Address) (t : List ℕ) → IsBytes t → IsTelegram t → is_length (get_or t 0 0) ≡ true → agreeing (layout_of own a t) t ≡ 41
    → HasParts own a (parts_in t) t
parts_of own a t hb ht l agree =
    let counted = is_counted (get_or t 0 0) l in
    let long : 57 ≤ length t = omega (arith, ht.counted, counted.0) in
    let eight : length (mac_in t) ≡ 8 = omega (arith, length-take 8 (drop 19 t), length-drop 19 t) in
    let wide : length (layout_of own a t) ≡ 41 = length-layers_before own a (parts_in t) eight in
    let front : take 41 t ≡ layout_of own a t = ap (λ (k : ℕ). take k t) (sym wide) ∙ agreed (layout_of own a t) t (agree ∙ sym wide) in
    record {
      whole = sym (take-append-drop 41 t) ∙ ap (λ (x : List ℕ). x ++ drop 41 t) front;
      least = omega (arith, counted.0);
      most = omega (arith, counted.1);
      counter = counter-fits (take 4 (drop 15 t)) (All-take Byte 4 (drop 15 t) (All-drop Byte 15 t (bytes_all t hb)));
      eight = eight;
      content = omega (arith, length-drop 41 t, ht.counted, counted.0, counted.2);
    }

begins_twice : (plain : List ℕ) → get_or plain 0 0 ∷ get_or plain 1 0 ∷ [] ≡ 0x2F ∷ 0x2F ∷ [] → plain ≡ 0x2F ∷ 0x2F ∷ drop 2 plain
begins_twice (a ∷ b ∷ rest) e = ap (λ (x : List ℕ). x ++ rest) e
begins_twice _ e = absurd cc

-- a delivery that tells this is its downlink, with nothing but the content in its blocks
record IsItself (own : Address) (c : Commissioned) (bytes : List ℕ) (e : Executed) : Type 0 where
  counter : e.down < 2 ^ 32
  of_content : IsOfItsContent own c bytes e
  filled : plain_content e.content ≡ 0x2F ∷ 0x2F ∷ e.content

told_is_itself : (own : Address) (c : Commissioned) (bytes : List ℕ) (e : Executed) → IsBlock c.key → IsBytes bytes
    → told own c bytes ≡ Ok e → IsItself own c bytes e
unfolding told mac_due decrypted
told_is_itself own c bytes e hk hb h =
    let a = bind_ok (framed bytes) _ e h in
    let t : List ℕ = a.0 in
    let d = map_both_ok (λ (x : List ℕ). x) Frame (decoded_a bytes) t a.1 in
    let decoded : decoded_a bytes ≡ Ok t = d.1 ∙ ap Ok d.2 in
    let frame : FrameA bytes t = found bytes t hb decoded in
    let each : IsBytes t = telegrams_are_bytes A bytes t hb frame in
    let two : List ℕ = get_or (decrypted c t) 0 0 ∷ get_or (decrypted c t) 1 0 ∷ [] in
    let l = guard_ok (is_length (get_or t 0 0)) (Layout 0) _ e a.2 in
    let y = guard_ok (agreeing (layout_of own c.address t) t == 41) (Layout (agreeing (layout_of own c.address t) t)) _ e l.1 in
    let m = guard_ok (bytes_eq (mac_due c t) (mac_in t)) BadMac _ e y.1 in
    let k = guard_ok (bytes_eq two (0x2F ∷ 0x2F ∷ [])) (CheckBytes two) _ e m.1 in
    let parts = parts_of own c.address t each frame.telegram l.0 (eqb-true _ _ y.0) in
    let payload : List ℕ = drop 2 (decrypted c t) in
    let plain : decrypted c t ≡ 0x2F ∷ 0x2F ∷ payload = begins_twice (decrypted c t) ((bytes_eq-Decides two (0x2F ∷ 0x2F ∷ [])).0 k.0) in
    let signed : mac_due c t ≡ mac_in t = (bytes_eq-Decides _ _).0 m.0 in
    let message = part-message own c.address (parts_in t) t parts in
    let due = ap (λ (x : List ℕ). take 8 (cmac (mac_key c (counter_in t)) (0x25 ∷ to_le_bytes w32 (counter_in t) ++ x))) (sym message)
    ∙ signed in
    let body = All-drop Byte 41 t (bytes_all t each) in
    let made : Executed = record { down = counter_in t; content = payload } in
    let telegram = telegram_is own c (parts_in t) payload t parts hk body plain due in
    let itself : IsItself own c bytes made = record {
      counter = parts.counter;
      of_content = record {
        is_payload = payload_is own c (parts_in t) payload t parts hk body plain due;
        frame = (one_frame_a t frame.telegram each).2 bytes hb frame ∙ ap frame_a telegram;
      };
      filled = filled own c (parts_in t) payload t parts hk body plain due;
    } in
    let same : made ≡ e = cc in
    subst (IsItself own c bytes) same itself

pub told_is_genuine : (own : Address) (c : Commissioned) (bytes : List ℕ) (e : Executed) → IsBlock c.key → IsBytes bytes
    → told own c bytes ≡ Ok e → IsGenuine own c bytes e
told_is_genuine own c bytes e hk hb h =
    let itself = told_is_itself own c bytes e hk hb h in
    record {
      payload = e.content;
      is_payload = itself.of_content.is_payload;
      counter = itself.counter;
      frame = itself.of_content.frame;
      content = itself.filled;
    }

-- ---- what is genuine

pub length_of_blocks : (n : ℕ) → 1 ≤ n → n ≤ 6 → is_length (40 + 16 * n) ≡ true
length_of_blocks n a b =
    and_from _ _ (and_from _ _ (le-leb 56 (40 + 16 * n) (omega arith)) (le-leb (40 + 16 * n) 136 (omega arith)))
    (eq-eqb ((40 + 16 * n - 40) % 16) 0 (omega arith))

-- each check is passed
told_by : (own : Address) (c : Commissioned) (bytes t content : List ℕ) (down : ℕ) → decoded_a bytes ≡ Ok t
    → is_length (get_or t 0 0) ≡ true → agreeing (layout_of own c.address t) t ≡ 41
    → bytes_eq (mac_due c t) (mac_in t) ≡ true → decrypted c t ≡ 0x2F ∷ 0x2F ∷ content → counter_in t ≡ down
    → told own c bytes ≡ Ok (record { down = down; content = content })
unfolding told
told_by own c bytes t content down decoded l agree mac plain counter = rw (decoded, l, agree, mac, plain, counter) refl

pub genuine_is_told : (own : Address) (c : Commissioned) (bytes : List ℕ) (e : Executed) → IsBlock c.key → IsGenuine own c bytes e
    → told own c bytes ≡ Ok e
unfolding mac_due decrypted mac_of message_bytes
genuine_is_told own c bytes e hk g =
    let t : List ℕ = telegram_to own c e.down g.payload in
    let p : Parts = parts_to c e.down g.payload in
    let laid = is_laid_out own c e.down g.payload hk g.counter g.is_payload in
    let parts : HasParts own c.address p t = laid.parts in
    let counter : counter_in t ≡ e.down = part-counter own c.address p t parts in
    let mac : mac_in t ≡ p.mac = part-mac own c.address p t parts in
    let first : get_or t 0 0 ≡ 40 + 16 * p.blocks = part-l own c.address p t parts in
    let blocks : blocks_in t ≡ p.blocks = omega (arith, first) in
    let decoded : decoded_a bytes ≡ Ok t = ap decoded_a g.frame ∙ laid.decoded in
    let l : is_length (get_or t 0 0) ≡ true = ap (λ (x : ℕ). is_length x) first ∙ length_of_blocks p.blocks parts.least parts.most in
    let layout : layout_of own c.address t ≡ layers_before own c.address p =
    ap (λ (k : ℕ). link_bytes own k ++ authentication_bytes (counter_in t) (mac_in t) ++ header_bytes c.address (counter_in t) k) blocks
    ∙ ap₂ (λ (d : ℕ) (m : List ℕ). link_bytes own p.blocks ++ authentication_bytes d m ++ header_bytes c.address d p.blocks) counter mac in
    let agree : agreeing (layout_of own c.address t) t ≡ 41 =
    ap₂ agreeing layout parts.whole ∙ agreeing-append (layers_before own c.address p) p.content
    ∙ length-layers_before own c.address p parts.eight in
    let due : mac_due c t ≡ p.mac =
    ap₂ (λ (d : ℕ) (x : List ℕ). take 8 (cmac (mac_key c d) (0x25 ∷ to_le_bytes w32 d ++ x))) counter
    (part-message own c.address p t parts) in
    let plain : decrypted c t ≡ 0x2F ∷ 0x2F ∷ e.content =
    ap₂ (λ (d : ℕ) (x : List ℕ). cbc_decrypted (cipher_key c d) zeros x) counter (part-content own c.address p t parts)
    ∙ decrypted_again c e.down g.payload hk g.is_payload.bytes ∙ g.content in
    told_by own c bytes t e.content e.down decoded l agree ((bytes_eq-Decides _ _).1 (due ∙ sym mac)) plain counter

pub genuine_are_told : GenuineAreTold
genuine_are_told own c bytes e hk hb = (told_is_genuine own c bytes e hk hb, genuine_is_told own c bytes e hk)

pub contents_are_payloads : ContentsArePayloads
contents_are_payloads own c bytes e hk hb g = (told_is_itself own c bytes e hk hb (genuine_is_told own c bytes e hk g)).of_content
