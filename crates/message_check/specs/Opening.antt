-- What a message says to the slot of a meter once it is checked and decrypted, or the first refusal (OMS Volume 2, EN 13757-7).
-- A message is the bytes from the CI of its transport header on.
use Rattle.std.specs.Prelude.{ℕ, ◌≡◌, ◌-◌, ◌*◌, ◌%◌, ◌<◌, ◌==◌, ◌↔◌, nat_lt, if◌then◌else◌, List, [], ◌∷◌, ◌++◌, length, take, drop, slice_index, replicate, Option, Some, None, IfSome, ok_or, option_map, unwrap_or, Result, Ok, Err}
use Rattle.std.specs.Result.{result_map_both}
use Rattle.std.specs.Str.{bytes_eq}
use Rattle.std.specs.Int.{w16, w32, to_le_bytes}
use Rattle.frame_formats.specs.Crc.{IsBytes}
use Rattle.meter_address.specs.declared.address.Address.{Address}
use Rattle.meter_address.specs.Address.{bytes_of, identification_of}
use Rattle.meter_address.specs.Commission.{Commissioned}
use Rattle.ell_layer.specs.declared.access.Access.{Access}
use Rattle.ell_layer.specs.declared.access.Access.TheVariants as access
use Rattle.ell_layer.specs.Access.{access_of}
use Rattle.afl_layer.specs.declared.header.Auth.{Auth}
use Rattle.tpl_headers.specs.declared.header.Tpl.{Tpl}
use Rattle.tpl_headers.specs.Configuration.{mode_of, blocks_of, derivation_of, is_bidirectional, is_accessible}
use Rattle.tpl_headers.specs.Header.{BeginsWithTpl, tpl_at}
use Rattle.cbc_cmac.specs.Cbc.{cbc_decrypted}
use Rattle.cbc_cmac.specs.Mac.{zeros, cmac}
use Rattle.key_derivation.specs.declared.KeyUse.TheVariants.{MeterCipher, MeterMac}
use Rattle.key_derivation.specs.Derivation.{derived}
use Rattle.lists.specs.Steps.{◌>>=◌}
use Rattle.message_check.specs.Keys.{key_of}
use Rattle.message_check.specs.declared.signature.Signature.{Signature}
use Rattle.message_check.specs.declared.refusal.Reason.{Reason}
use Rattle.message_check.specs.declared.refusal.Reason.TheVariants.{BadMessage, OtherAddress, Mode, NoAuth, Kdf, ShortBlocks, Unchecked, BadMac, Stale, CheckBytes, SameAccess}

-- what a message says: the number that counts it, which is the message counter in mode 7 and the access number in mode 5; when
-- the meter listens, as far as the message says it; the payload
pub record Found : Type 0 where
  pub counter : ℕ
  pub access : Access
  pub payload : List ℕ

-- ---- the parts of a message, and what it is decrypted with

-- the encrypted blocks behind the header, and what follows them in plain
abbrev pub encrypted_of : Tpl → List ℕ → List ℕ
encrypted_of h m = take (16 * blocks_of h.cf) (drop h.len m)

abbrev pub rest_of : Tpl → List ℕ → List ℕ
rest_of h m = drop (16 * blocks_of h.cf) (drop h.len m)

-- mode 5: CBC begins with the meter's address, M first, and eight times the access number
abbrev pub initialization_vector : Address → ℕ → List ℕ
initialization_vector a acc = bytes_of a ++ replicate 8 acc

-- mode 5: when the meter listens, as B and A of the configuration field say
abbrev pub access_in_configuration : ℕ → Access
access_in_configuration cf = access_of (is_bidirectional cf) (is_accessible cf)

-- mode 5: the blocks, decrypted under the meter's key
unfoldable pub decrypted5 : Commissioned → Tpl → List ℕ → List ℕ
decrypted5 c h m = cbc_decrypted c.key (initialization_vector c.address h.acc) (encrypted_of h m)

-- the message length as sent, where it is there
abbrev pub length_bytes : Option ℕ → List ℕ
length_bytes None = []
length_bytes (Some ml) = to_le_bytes w16 ml

-- mode 7: what the MAC is taken over: message control, message counter and message length as sent, and the whole message as sent
abbrev pub mac_input : ℕ → ℕ → Option ℕ → List ℕ → List ℕ
mac_input mcl counter ml m = mcl ∷ [] ++ to_le_bytes w32 counter ++ length_bytes ml ++ m

-- mode 7: the keys that are derived from the meter's key for a message: that of its MAC, and that of its encryption
abbrev pub mac_key : Commissioned → Tpl → ℕ → List ℕ
mac_key c h counter = derived (key_of c h) MeterMac counter (identification_of c.address)

abbrev pub cipher_key : Commissioned → Tpl → ℕ → List ℕ
cipher_key c h counter = derived (key_of c h) MeterCipher counter (identification_of c.address)

-- mode 7: the MAC of a message: the first eight bytes of its CMAC under the MAC key
unfoldable pub mac_of : List ℕ → ℕ → ℕ → Option ℕ → List ℕ → List ℕ
mac_of key mcl counter ml m = take 8 (cmac key (mac_input mcl counter ml m))

-- mode 7: the blocks, decrypted under the cipher key; CBC begins with zeros
unfoldable pub decrypted7 : List ℕ → Tpl → List ℕ → List ℕ
decrypted7 key h m = cbc_decrypted key zeros (encrypted_of h m)

-- ---- messages in the standard's words

-- the header of a message to this meter in this security mode: it names no other meter
pub record IsFor (a : Address) (mode : ℕ) (m : List ℕ) (h : Tpl) : Type 0 where
  pub begins : BeginsWithTpl m h
  pub meter : IfSome h.address (λ named. named ≡ a)
  pub in_mode : mode_of h.cf ≡ mode

-- a message to this meter in this security mode: the header, the encrypted blocks that it says, a plain rest
pub record IsSecured (a : Address) (mode : ℕ) (m : List ℕ) (h : Tpl) (encrypted rest : List ℕ) : Type 0 where
  pub header : IsFor a mode m h
  pub parts : header.begins.rest ≡ encrypted ++ rest
  pub blocks : length encrypted ≡ 16 * blocks_of h.cf

-- a message of mode 5 that was checked: decrypted, its blocks begin with 2F 2F
pub record Checked5 (c : Commissioned) (m : List ℕ) (f : Found) : Type 0 where
  pub header : Tpl
  pub encrypted : List ℕ
  pub content : List ℕ
  pub rest : List ℕ
  pub message : IsSecured c.address 5 m header encrypted rest
  pub some : 0 < blocks_of header.cf
  pub decrypted : cbc_decrypted c.key (initialization_vector c.address header.acc) encrypted ≡ 0x2F ∷ 0x2F ∷ content
  pub counter : f.counter ≡ header.acc
  pub access : f.access ≡ access_in_configuration header.cf
  pub payload : f.payload ≡ 0x2F ∷ 0x2F ∷ (content ++ rest)

-- a genuine message of mode 7: its MAC, by AES-CMAC-128 cut to eight bytes, is that of its bytes as they were sent. Both derived keys
-- are those of the key that its header names, the meter's first or its second
pub record Genuine7 (c : Commissioned) (auth : Auth) (m : List ℕ) (f : Found) : Type 0 where
  pub header : Tpl
  pub encrypted : List ℕ
  pub rest : List ℕ
  pub message : IsSecured c.address 7 m header encrypted rest
  pub derivation : option_map derivation_of header.cfe ≡ Some 1
  pub mcl : ℕ
  pub control : auth.mcl ≡ Some mcl
  pub by_cmac : mcl % 16 ≡ 5
  pub counter : auth.mcr ≡ Some f.counter
  pub mac : auth.mac ≡ Some (mac_of (mac_key c header f.counter) mcl f.counter auth.ml m)
  pub access : f.access ≡ access.None
  pub payload : f.payload ≡ cbc_decrypted (cipher_key c header f.counter) zeros encrypted ++ rest

-- ---- the refusals, in their order

-- a check that says nothing but whether it is passed
abbrev pub Passed : Type 0
Passed = Result (Unit {0}) Reason

-- no transport header
abbrev pub header_in : List ℕ → Result Tpl Reason
header_in m = result_map_both (λ h. h) BadMessage (tpl_at m)

-- another meter's address in a long header
abbrev pub address_passed : Address → Option Address → Passed
address_passed a None = Ok tt
address_passed a (Some found) = if found.0 == a.0 then Ok tt else Err (OtherAddress found)

-- another security mode
abbrev pub mode_passed : ℕ → ℕ → Passed
mode_passed wanted cf = if mode_of cf == wanted then Ok tt else Err (Mode (mode_of cf) wanted)

-- the header of a message to this meter in this security mode
unfoldable pub header_for : Address → ℕ → List ℕ → Result Tpl Reason
header_for a mode m = do
  h ← header_in m
  _ ← address_passed a h.address
  _ ← mode_passed mode h.cf
  Ok h

-- fewer bytes behind the header than its blocks have
abbrev pub blocks_passed : Tpl → List ℕ → Passed
blocks_passed h m =
    if nat_lt (length m - h.len) (16 * blocks_of h.cf) then Err (ShortBlocks (16 * blocks_of h.cf) (length m - h.len))
    else Ok tt

-- mode 5: no block at all
abbrev pub some_passed : ℕ → Passed
some_passed cf = if blocks_of cf == 0 then Err Unchecked else Ok tt

-- mode 5: decrypted bytes that don't begin with 2F 2F
abbrev pub check_bytes_passed : List ℕ → Passed
check_bytes_passed plain =
    let two : List ℕ = slice_index plain 0 ∷ slice_index plain 1 ∷ [] in
    if bytes_eq two (0x2F ∷ 0x2F ∷ []) then Ok tt else Err (CheckBytes two)

-- mode 5: the access number is the last one
abbrev pub access_number_passed : Option ℕ → ℕ → Passed
access_number_passed None acc = Ok tt
access_number_passed (Some last) acc = if last == acc then Err (SameAccess acc) else Ok tt

-- ---- mode 5

-- what a checked message of mode 5 says, or the first refusal but that of its access number
unfoldable pub opened5 : Commissioned → List ℕ → Result Found Reason
opened5 c m = do
  h ← header_for c.address 5 m
  _ ← blocks_passed h m
  _ ← some_passed h.cf
  _ ← check_bytes_passed (decrypted5 c h m)
  Ok (record { counter = h.acc; access = access_in_configuration h.cf; payload = decrypted5 c h m ++ rest_of h m })

-- what is found, where its access number isn't the last one
unfoldable pub compared5 : Option ℕ → Found → Result Found Reason
compared5 last f = do
  _ ← access_number_passed last f.counter
  Ok f

-- what a message of mode 5 says after another, or the first refusal
unfoldable pub opened5_after : Option ℕ → Commissioned → List ℕ → Result Found Reason
opened5_after last c m = do
  f ← opened5 c m
  compared5 last f

-- ---- mode 7

-- a part of the authentication that has to be there
abbrev pub part_there : {A : Type 0} → Option A → Result A Reason
part_there o = ok_or o NoAuth

-- AES-CMAC-128, cut to eight bytes, is 5 in bits 3 to 0 of the message control
abbrev pub control_passed : ℕ → Passed
control_passed mcl = if mcl % 16 == 5 then Ok tt else Err NoAuth

-- a part is missing, or the message control names another authentication
unfoldable pub signature_of : Auth → Result Signature Reason
signature_of auth = do
  mcl ← part_there auth.mcl
  counter ← part_there auth.mcr
  mac ← part_there auth.mac
  _ ← control_passed mcl
  Ok (record { mcl = mcl; counter = counter; ml = auth.ml; mac = mac })

-- the derivation of keys that a header of mode 7 names
abbrev pub derivation_in : Tpl → ℕ
derivation_in h = unwrap_or (option_map derivation_of h.cfe) 0

-- a derivation other than by CMAC, which is 1
abbrev pub derivation_passed : Tpl → Passed
derivation_passed h = if derivation_in h == 1 then Ok tt else Err (Kdf (derivation_in h))

-- another MAC than that of the message under the MAC key
abbrev pub mac_passed : List ℕ → Signature → List ℕ → Passed
mac_passed key s m = if bytes_eq (mac_of key s.mcl s.counter s.ml m) s.mac then Ok tt else Err BadMac

-- a counter that isn't above the last one
abbrev pub counter_passed : Option ℕ → ℕ → Passed
counter_passed None counter = Ok tt
counter_passed (Some last) counter = if nat_lt last counter then Ok tt else Err (Stale counter last)

-- what a genuine message of mode 7 says, or the first refusal but that of its counter
unfoldable pub opened7 : Commissioned → Auth → List ℕ → Result Found Reason
opened7 c auth m = do
  h ← header_for c.address 7 m
  s ← signature_of auth
  _ ← derivation_passed h
  _ ← blocks_passed h m
  _ ← mac_passed (mac_key c h s.counter) s m
  Ok (record { counter = s.counter; access = access.None; payload = decrypted7 (cipher_key c h s.counter) h m ++ rest_of h m })

-- what is found, where its counter is above the last one
unfoldable pub compared7 : Option ℕ → Found → Result Found Reason
compared7 last f = do
  _ ← counter_passed last f.counter
  Ok f

-- what a message of mode 7 says after another, or the first refusal
unfoldable pub opened7_after : Option ℕ → Commissioned → Auth → List ℕ → Result Found Reason
opened7_after last c auth m = do
  f ← opened7 c auth m
  compared7 last f

-- ---- laws

-- what is opened in mode 5 are the checked messages, and they say what they are opened to
abbrev pub CheckedAreOpened : Type 0
CheckedAreOpened = (c : Commissioned) (m : List ℕ) (f : Found) → IsBytes m → (opened5 c m ≡ Ok f) ↔ Checked5 c m f

-- what is opened in mode 7 are the genuine messages, and they say what they are opened to
abbrev pub GenuineAreOpened : Type 0
GenuineAreOpened = (c : Commissioned) (auth : Auth) (m : List ℕ) (f : Found) → IsBytes m → (opened7 c auth m ≡ Ok f) ↔ Genuine7 c auth m f
