-- Why a message is refused: the first cause, in the order of `Reason` (OMS Volume 2, EN 13757-7).
use Rattle.std.specs.Prelude.{ℕ, ◌≡◌, ◌≢◌, ◌+◌, ◌*◌, ◌%◌, ◌<◌, ◌≤◌, ◌↔◌, List, [], ◌∷◌, length, slice_index, Option, Some, IfSome, option_map, Err}
use Rattle.frame_formats.specs.Crc.{IsBytes}
use Rattle.meter_address.specs.declared.address.Address.{Address}
use Rattle.meter_address.specs.Commission.{Commissioned}
use Rattle.afl_layer.specs.declared.header.Auth.{Auth}
use Rattle.tpl_headers.specs.declared.header.Tpl.{Tpl}
use Rattle.tpl_headers.specs.Configuration.{mode_of, blocks_of, derivation_of}
use Rattle.tpl_headers.specs.Header.{BeginsWithTpl, IsTplFault}
use Rattle.cbc_cmac.specs.Cbc.{cbc_decrypted}
use Rattle.message_check.specs.declared.refusal.Reason.{Reason}
use Rattle.message_check.specs.declared.refusal.Reason.TheVariants.{BadMessage, OtherAddress, Mode, NoAuth, Kdf, ShortBlocks, Unchecked, BadMac, Stale, CheckBytes, SameAccess}
use Rattle.message_check.specs.Opening.{Found, initialization_vector, mac_key, mac_of, IsFor, IsSecured, Checked5, Genuine7, opened5_after, opened7_after}

-- no header of a message to this meter in this security mode: none at all, one of another meter, one of another mode
abbrev pub HeaderRefusal : Address → ℕ → List ℕ → Reason → Type 0
HeaderRefusal a mode m (BadMessage f) = IsTplFault m f
HeaderRefusal a mode m (OtherAddress found) = (h : Tpl) × BeginsWithTpl m h × (h.address ≡ Some found) × (found ≢ a)
HeaderRefusal a mode m (Mode found wanted) =
    (h : Tpl) × BeginsWithTpl m h × IfSome h.address (λ named. named ≡ a)
    × (found ≡ mode_of h.cf) × (wanted ≡ mode) × (found ≢ wanted)
HeaderRefusal a mode m r = ⊥

-- fewer bytes behind the header than its blocks have
pub record IsShort (m : List ℕ) (h : Tpl) (want have : ℕ) : Type 0 where
  pub wanted : want ≡ 16 * blocks_of h.cf
  pub there : h.len + have ≡ length m
  pub fewer : have < want

-- the decrypted blocks of a message of mode 5 begin with these two bytes, which aren't 2F 2F
pub record HasOtherCheckBytes (c : Commissioned) (m two : List ℕ) : Type 0 where
  pub header : Tpl
  pub encrypted : List ℕ
  pub rest : List ℕ
  pub message : IsSecured c.address 5 m header encrypted rest
  pub some : 0 < blocks_of header.cf
  pub begin : (let plain : List ℕ = cbc_decrypted c.key (initialization_vector c.address header.acc) encrypted in
      two ≡ slice_index plain 0 ∷ slice_index plain 1 ∷ [])
  pub other : two ≢ 0x2F ∷ 0x2F ∷ []

-- why a message of mode 5 is refused
abbrev pub Refusal5 : Option ℕ → Commissioned → List ℕ → Reason → Type 0
Refusal5 last c m (ShortBlocks want have) = (h : Tpl) × IsFor c.address 5 m h × IsShort m h want have
Refusal5 last c m Unchecked = (h : Tpl) × IsFor c.address 5 m h × (blocks_of h.cf ≡ 0)
Refusal5 last c m (CheckBytes two) = HasOtherCheckBytes c m two
Refusal5 last c m (SameAccess acc) = (f : Found) × Checked5 c m f × (f.counter ≡ acc) × (last ≡ Some acc)
Refusal5 last c m r = HeaderRefusal c.address 5 m r

-- in mode 5 each refusal comes exactly where its cause is the first
abbrev pub RefusedExactly5 : Type 0
RefusedExactly5 = (last : Option ℕ) (c : Commissioned) (m : List ℕ) (r : Reason) → IsBytes m
    → (opened5_after last c m ≡ Err r) ↔ Refusal5 last c m r

-- the authentication is there: message control, message counter and MAC, by AES-CMAC-128 cut to eight bytes
pub record HasAuth (auth : Auth) : Type 0 where
  pub mcl : ℕ
  pub counter : ℕ
  pub mac : List ℕ
  pub control : auth.mcl ≡ Some mcl
  pub by_cmac : mcl % 16 ≡ 5
  pub counted : auth.mcr ≡ Some counter
  pub signed : auth.mac ≡ Some mac

-- a message of mode 7 has all its parts, and another MAC than that of its bytes
pub record IsForged (c : Commissioned) (auth : Auth) (m : List ℕ) : Type 0 where
  pub header : Tpl
  pub encrypted : List ℕ
  pub rest : List ℕ
  pub message : IsSecured c.address 7 m header encrypted rest
  pub derivation : option_map derivation_of header.cfe ≡ Some 1
  pub there : HasAuth auth
  pub other : mac_of (mac_key c header there.counter) there.mcl there.counter auth.ml m ≢ there.mac

-- why a message of mode 7 is refused
abbrev pub Refusal7 : Option ℕ → Commissioned → Auth → List ℕ → Reason → Type 0
Refusal7 last c auth m NoAuth = (h : Tpl) × IsFor c.address 7 m h × (¬ HasAuth auth)
Refusal7 last c auth m (Kdf found) =
    (h : Tpl) × IsFor c.address 7 m h × HasAuth auth × (option_map derivation_of h.cfe ≡ Some found) × (found ≢ 1)
Refusal7 last c auth m (ShortBlocks want have) =
    (h : Tpl) × IsFor c.address 7 m h × HasAuth auth × (option_map derivation_of h.cfe ≡ Some 1) × IsShort m h want have
Refusal7 last c auth m BadMac = IsForged c auth m
Refusal7 last c auth m (Stale got before) = (f : Found) × Genuine7 c auth m f × (f.counter ≡ got) × (last ≡ Some before) × (got ≤ before)
Refusal7 last c auth m r = HeaderRefusal c.address 7 m r

-- in mode 7 each refusal comes exactly where its cause is the first
abbrev pub RefusedExactly7 : Type 0
RefusedExactly7 = (last : Option ℕ) (c : Commissioned) (auth : Auth) (m : List ℕ) (r : Reason) → IsBytes m
    → (opened7_after last c auth m ≡ Err r) ↔ Refusal7 last c auth m r
