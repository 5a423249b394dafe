-- The telegrams of made meters are genuine.
use Rattle.std.proofs.Common.{◌≡◌, ℕ, ◌+◌, ◌*◌, ◌/◌, ◌%◌, ◌^◌, ◌<◌, List, [], ◌∷◌, ◌++◌, length, drop, Some, None, Ok, refl, sym, ap}
use Rattle.std.proofs.Common.{subst, ◌∙◌, inl, arith, append-nil, append_assoc}
use Rattle.std.proofs.lemmas.List.{length-take, drop-drop, drop_at}
use Rattle.std.specs.Result.{result_map_both}
use Rattle.std.proofs.lemmas.List.Elements.{All-nil, All-cons, All-append, All-take}
use Rattle.std.specs.Int.{w32, to_le_bytes}
use Rattle.aes_block.proofs.Lists.{AreBytes}
use Rattle.aes_block.specs.Block.{IsBlock}
use Rattle.cbc_cmac.specs.Cbc.{cbc_decrypted}
use Rattle.cbc_cmac.specs.Mac.{zeros, cmac}
use Rattle.cbc_cmac.proofs.MacBlocks.{IsBlock-cmac}
use Rattle.cbc_cmac.proofs.Blocks.{bytes_of_blocks_are_undone, length-cbc_encrypted, AreBytes-cbc_encrypted}
use Rattle.key_derivation.specs.declared.KeyUse.TheVariants.{MeterCipher, MeterMac}
use Rattle.key_derivation.specs.Derivation.{derived}
use Rattle.frame_formats.specs.Crc.{IsBytes}
use Rattle.frame_formats.specs.Frames.{IsTelegram}
use Rattle.meter_address.specs.Address.{bytes_of, identification_of}
use Rattle.meter_address.specs.Commission.{Commissioned}
use Rattle.meter_address.proofs.Texts.{length-bytes_of}
use Rattle.ell_layer.specs.declared.access.Access.TheVariants as access
use Rattle.afl_layer.specs.Header.{afl_at, afl_bytes}
use Rattle.afl_layer.proofs.HeaderLaws.{again}
use Rattle.tpl_headers.specs.declared.header.Tpl.{Tpl}
use Rattle.tpl_headers.specs.Header.{BeginsWithTpl, IsHeader, tpl_at, short_at, tail_at, cfe_at}
use Rattle.message_check.specs.declared.headers.Layers.{Layers}
use Rattle.message_check.specs.declared.refusal.LayerFault.TheVariants as faults
use Rattle.message_check.specs.Layers.{extension_in, fragmentation_in, header_in, layers_of}
use Rattle.afl_layer.specs.declared.header.Auth.{Auth}
use Rattle.message_check.specs.Opening.{Found, Genuine7, mac_input, mac_of}
use Rattle.downlink_maker.specs.Downlink.{authentication_bytes, authentication_of, plain_content}
use Rattle.downlink_maker.proofs.Bytes.{Byte, bytes_all, all_bytes, AreBytes-bytes_of, IsBlock-zeros, IsBlock-key, AreBytes-1, AreBytes-counter}
use Rattle.downlink_maker.proofs.Bytes.{AreBytes-authentication_bytes}
use Rattle.downlink_maker.proofs.ReadBack.{AreBytes-plain_content, length-plain_content}
use Rattle.made_input.specs.Draws.{key_behind}
use Rattle.made_input.specs.Meters.{bcd, meter_at}
use Rattle.made_input.specs.Uplinks.{volume, header, content_of, message_of, mac_under, uplink}
use Rattle.made_input.specs.Laws.{IsGenuine, UplinksAreGenuine}
use Rattle.made_input.proofs.Telegrams.{is_telegram}

-- ---- bytes

AreBytes-volume : (n : ℕ) → AreBytes (volume n)
unfolding bcd
AreBytes-volume n = bytes_all (volume n) (search arith)

length-volume : (n : ℕ) → length (volume n) ≡ 6
unfolding bcd
length-volume n = refl

length-plain : (n : ℕ) → length (plain_content (volume n)) ≡ 16
length-plain n = length-plain_content (volume n) ∙ ap (λ p. 16 * ((p + 2 + 15) / 16)) (length-volume n)

pub IsBlock-drawn : (number place : ℕ) → IsBlock (meter_at number place).key
unfolding key_behind
IsBlock-drawn number place = record { count = refl; bytes = bytes_all (key_behind number (4 * place)) (search arith) }

-- ---- layers

-- the transport header of each message
abbrev pub the_header : Tpl
the_header = record { ci = 0x7A; address = None; acc = 1; status = 0; cf = 0x0710; cfe = Some 0x10; len = 6 }

header_at : (content : List ℕ) → tpl_at (header ++ content) ≡ Ok the_header
unfolding tpl_at short_at tail_at cfe_at
header_at content = refl

is_header : IsHeader the_header
is_header = record { address = inl refl; extension = refl; number = tt; cf = omega arith; len = refl }

abbrev begins : (content : List ℕ) → BeginsWithTpl (header ++ content) the_header
begins content = record { is_header = is_header; rest = content; parts = refl }

-- the bytes of an authentication layer
authentication_bytes_are : (n : ℕ) (mac : List ℕ) → length mac ≡ 8 → authentication_bytes n mac ≡ afl_bytes 0x2C00 (authentication_of n mac)
authentication_bytes_are n mac eight =
    let count : 0x0F ≡ 2 + length (0x25 ∷ to_le_bytes w32 n ++ mac) = omega arith in
    ap (λ (k : ℕ). 0x90 ∷ k ∷ 0x00 ∷ 0x2C ∷ 0x25 ∷ to_le_bytes w32 n ++ mac) count
    ∙ ap (λ (m : List ℕ). 0x90 ∷ (2 + length (0x25 ∷ to_le_bytes w32 n ++ m)) ∷ 0x00 ∷ 0x2C ∷ 0x25 ∷ to_le_bytes w32 n ++ m)
    (sym (append-nil mac))

length-authentication : (n : ℕ) (mac : List ℕ) → length mac ≡ 8 → length (authentication_bytes n mac) ≡ 17
length-authentication n mac eight = omega (arith, eight)

-- such a layer is read, whatever follows it
authentication_at : (n : ℕ) (mac rest : List ℕ) → n < 2 ^ 32 → length mac ≡ 8
    → afl_at (authentication_bytes n mac ++ rest) ≡ Ok (authentication_of n mac)
authentication_at n mac rest small eight =
    let is = authentication_bytes_are n mac eight in
    again (authentication_bytes n mac ++ rest) (authentication_of n mac) (record {
      fcl = 0x2C00;
      rest = rest;
      word = omega arith;
      parts = ap (λ bytes. bytes ++ rest) is;
      says = record { more = refl; fid = refl; mcl = refl; ki = refl; mcr = refl; mac = refl; ml = refl };
      fits = record { fid = omega arith; ki = tt; mcr = small; mac = eight; ml = tt };
      placed = record { fields = refl; fid = refl };
      len = sym (length-authentication n mac eight) ∙ ap length is;
    })

abbrev pub layers_with : ℕ → List ℕ → Layers
layers_with n mac = record { ell = None; afl = Some (authentication_of n mac); tpl = Some the_header; body = 27 }

-- layers that are read one after another
read_through : (t : List ℕ) (n : ℕ) (mac : List ℕ) → extension_in (drop 10 t) ≡ Ok None
    → fragmentation_in (drop 10 t) ≡ Ok (Some (authentication_of n mac))
    → header_in (Some (authentication_of n mac)) (drop 27 t) ≡ Ok (Some the_header) → layers_of t ≡ Ok (layers_with n mac)
unfolding layers_of
read_through t n mac e f h = rw (e, f, h) refl

-- the layers of a telegram like those of made meters
pub layers_are : (n : ℕ) (address mac content : List ℕ) → n < 2 ^ 32 → length address ≡ 8 → length mac ≡ 8
    → let t = 0x30 ∷ 0x44 ∷ address ++ authentication_bytes n mac ++ (header ++ content) in
    (layers_of t ≡ Ok (layers_with n mac)) × (drop 27 t ≡ header ++ content)
layers_are n address mac content small eight eight_more =
    let message : List ℕ = header ++ content in
    let authentication : List ℕ = authentication_bytes n mac in
    let t : List ℕ = 0x30 ∷ 0x44 ∷ address ++ authentication ++ message in
    let behind_link : drop 10 t ≡ authentication ++ message =
    ap (drop 10) (append_assoc (0x30 ∷ 0x44 ∷ address) authentication message) ∙ drop_at address (authentication ++ message) 8 eight in
    let behind : drop 27 t ≡ message =
    sym (drop-drop 17 10 t) ∙ ap (drop 17) behind_link ∙ drop_at authentication message 17 (length-authentication n mac eight_more) in
    let e : extension_in (drop 10 t) ≡ Ok None = ap extension_in behind_link in
    let f : fragmentation_in (drop 10 t) ≡ Ok (Some (authentication_of n mac)) =
    ap fragmentation_in behind_link ∙ ap (result_map_both Some faults.Afl) (authentication_at n mac message small eight_more) in
    let h : header_in (Some (authentication_of n mac)) (drop 27 t) ≡ Ok (Some the_header) =
    ap (header_in (Some (authentication_of n mac))) behind ∙ ap (result_map_both Some faults.Tpl) (header_at content) in
    (read_through t n mac e f h, behind)

-- ---- a meter's telegram

module _ (c : Commissioned) (n : ℕ) (key : IsBlock c.key) (small : n < 2 ^ 32) where
  abbrev cipher : List ℕ
  cipher = derived c.key MeterCipher n (identification_of c.address)

  abbrev mac : List ℕ
  mac = mac_under c n (message_of c n)

  whole : length (plain_content (volume n)) % 16 ≡ 0
  whole = omega (arith, length-plain n)

  decrypted_again : cbc_decrypted cipher zeros (content_of c n) ≡ plain_content (volume n)
  unfolding content_of
  decrypted_again =
      (bytes_of_blocks_are_undone cipher zeros (plain_content (volume n)) (IsBlock-key c MeterCipher n key) IsBlock-zeros
      (AreBytes-plain_content (volume n) (AreBytes-volume n)) whole).decrypted-encrypted

  AreBytes-content : AreBytes (content_of c n)
  unfolding content_of
  AreBytes-content =
      AreBytes-cbc_encrypted cipher zeros (plain_content (volume n)) (IsBlock-key c MeterCipher n key) IsBlock-zeros
      (AreBytes-plain_content (volume n) (AreBytes-volume n)) whole

  length-content : length (content_of c n) ≡ 16
  unfolding content_of
  length-content =
      length-cbc_encrypted cipher zeros (plain_content (volume n)) (IsBlock-key c MeterCipher n key) IsBlock-zeros
      (AreBytes-plain_content (volume n) (AreBytes-volume n)) whole
      ∙ length-plain n

  AreBytes-message : AreBytes (message_of c n)
  AreBytes-message = All-append Byte header (content_of c n) (bytes_all header (search arith)) AreBytes-content

  mac_block : IsBlock (cmac (derived c.key MeterMac n (identification_of c.address)) (mac_input 0x25 n None (message_of c n)))
  mac_block =
      IsBlock-cmac _ _ (IsBlock-key c MeterMac n key)
      (All-append Byte (0x25 ∷ [] ++ to_le_bytes w32 n ++ []) (message_of c n)
      (All-append Byte (0x25 ∷ [] ++ to_le_bytes w32 n) []
      (All-append Byte (0x25 ∷ []) (to_le_bytes w32 n) (AreBytes-1 0x25 (omega arith)) (AreBytes-counter n)) (All-nil Byte))
      AreBytes-message)

  length-mac : length mac ≡ 8
  unfolding mac_under mac_of
  length-mac = omega (
    arith,
    length-take 8
        (cmac (derived c.key MeterMac n (identification_of c.address)) (mac_input 0x25 n None (message_of c n))),
    mac_block.count,
  )

  AreBytes-mac : AreBytes mac
  unfolding mac_under mac_of
  AreBytes-mac = All-take Byte 8 _ mac_block.bytes

  pub telegram : IsTelegram (uplink c n)
  unfolding uplink
  telegram =
      is_telegram (bytes_of c.address) (authentication_bytes n mac) (message_of c n) (length-bytes_of c.address)
      (length-authentication n mac length-mac)
      (omega (arith, length-content))

  pub bytes : IsBytes (uplink c n)
  unfolding uplink
  bytes =
      let link = All-cons Byte 0x30 (0x44 ∷ bytes_of c.address) (omega arith)
      (All-cons Byte 0x44 (bytes_of c.address) (omega arith) (AreBytes-bytes_of c.address)) in
      let front : List ℕ = 0x30 ∷ 0x44 ∷ bytes_of c.address ++ authentication_bytes n mac in
      all_bytes (front ++ message_of c n) (All-append Byte front (message_of c n)
      (All-append Byte (0x30 ∷ 0x44 ∷ bytes_of c.address) (authentication_bytes n mac) link
      (AreBytes-authentication_bytes n mac AreBytes-mac)) AreBytes-message)

  pub layers_of_uplink : layers_of (uplink c n) ≡ Ok (layers_with n mac)
  unfolding uplink
  layers_of_uplink = (layers_are n (bytes_of c.address) mac (content_of c n) small (length-bytes_of c.address) length-mac).0

  behind_layers : drop 27 (uplink c n) ≡ message_of c n
  unfolding uplink
  behind_layers = (layers_are n (bytes_of c.address) mac (content_of c n) small (length-bytes_of c.address) length-mac).1

  abbrev auth : Auth
  auth = record { mcl = Some 0x25; mcr = Some n; ml = None; mac = Some mac }

  abbrev found : Found
  found = record { counter = n; access = access.None; payload = plain_content (volume n) }

  genuine_message : Genuine7 c auth (message_of c n) found
  unfolding mac_under
  genuine_message = record {
    header = the_header;
    encrypted = content_of c n;
    rest = [];
    message = record {
      header = record { begins = begins (content_of c n); meter = tt; in_mode = refl };
      parts = sym (append-nil (content_of c n));
      blocks = length-content;
    };
    derivation = refl;
    mcl = 0x25;
    control = refl;
    by_cmac = refl;
    counter = refl;
    mac = refl;
    access = refl;
    payload = sym (append-nil (cbc_decrypted cipher zeros (content_of c n)) ∙ decrypted_again);
  }

  pub is_genuine : IsGenuine c n (uplink c n)
  is_genuine = record {
    layers = layers_with n mac;
    read = layers_of_uplink;
    genuine = subst (λ message. Genuine7 c auth message found) (sym behind_layers) genuine_message;
  }

pub uplinks_are_genuine : UplinksAreGenuine
uplinks_are_genuine number place n small = is_genuine (meter_at number place) n (IsBlock-drawn number place) small
