-- What a telegram brings to a slot, as far as the telegram and the held fragments show it.
use Rattle.std.specs.Prelude.{ℕ, ◌==◌, ◌||◌, Bool, nat_lt, if◌then◌else◌, List, ◌∷◌, drop, slice_index, Option, Some, None, Result, Ok, Err}
use Rattle.meter_address.specs.declared.commission.Mode.{Mode}
use Rattle.meter_address.specs.declared.commission.Mode.TheVariants.{Five, Seven}
use Rattle.afl_layer.specs.declared.header.Afl.{Afl}
use Rattle.afl_layer.specs.declared.header.Auth.{Auth}
use Rattle.afl_fragments.specs.Fragment.{Fragment}
use Rattle.afl_layer.specs.Fields.{is_fragment}
use Rattle.afl_fragments.specs.Held.{Told, Piece, Message, held, assembled}
use Rattle.message_check.specs.Steps.{◌>>=◌}
use Rattle.message_check.specs.Layers.{layers_of}
use Rattle.message_check.specs.Opening.{Passed}
use Rattle.message_check.specs.declared.headers.Layers.{Layers}
use Rattle.message_check.specs.declared.refusal.LayerFault.{LayerFault}
use Rattle.message_check.specs.declared.refusal.Reason.{Reason}
use Rattle.message_check.specs.declared.refusal.Reason.TheVariants.{NotUplink, BadLayers, PartInMode5, TooManyParts}

-- the C fields of what a meter sends unasked (EN 13757-4): SND-NR, SND-IR, ACC-NR, ACC-DMD
abbrev pub is_unasked : ℕ → Bool
is_unasked c = c == 0x44 || c == 0x46 || c == 0x47 || c == 0x48

-- the C fields of responses: the four of RSP-UD
abbrev pub is_response : ℕ → Bool
is_response c = c == 0x08 || c == 0x18 || c == 0x28 || c == 0x38

-- the C fields of uplinks
abbrev pub is_uplink : ℕ → Bool
is_uplink c = is_unasked c || is_response c

-- ---- the first refusals, in their order

-- another C field
abbrev pub uplink_passed : ℕ → Passed
uplink_passed c = if is_uplink c then Ok tt else Err (NotUplink c)

-- a layer that can't be read
abbrev pub layers_passed : Result Layers LayerFault → Result Layers Reason
layers_passed (Ok l) = Ok l
layers_passed (Err fault) = Err (BadLayers fault)

-- a fragment for a meter of mode 5, and in mode 7 one with a number above sixteen
abbrev pub number_passed : Mode → ℕ → Passed
number_passed Five fid = Err PartInMode5
number_passed Seven fid = if nat_lt 16 fid then Err (TooManyParts fid) else Ok tt

abbrev pub fragment_passed : Mode → Option Afl → Passed
fragment_passed mode None = Ok tt
fragment_passed mode (Some a) = if is_fragment a then number_passed mode a.fid else Ok tt

-- the layers of a telegram to a meter of this mode, or the first refusal
unfoldable pub received : Mode → List ℕ → Result Layers Reason
received mode t = do
  _ ← uplink_passed (slice_index t 1)
  l ← layers_passed (layers_of t)
  _ ← fragment_passed mode l.afl
  Ok l

-- ---- what stands behind the layers

-- a whole message, or a fragment of one
pub data Content : Type 0 where
  Whole : Message → Content
  Part : Fragment → Content

-- the fields that authenticate a whole message: those of its authentication and fragmentation layer, where it has one
abbrev pub auth_in : Option Afl → Auth
auth_in None = record { mcl = None; mcr = None; ml = None; mac = None }
auth_in (Some a) = record { mcl = a.mcl; mcr = a.mcr; ml = a.ml; mac = a.mac }

abbrev pub content_of : Option Afl → List ℕ → Content
content_of None bytes = Whole (record { auth = auth_in None; bytes = bytes })
content_of (Some a) bytes =
    if is_fragment a then Part (record { afl = a; bytes = bytes }) else Whole (record { auth = auth_in (Some a); bytes = bytes })

abbrev pub content_behind : List ℕ → Layers → Content
content_behind t l = content_of l.afl (drop l.body t)

-- the message that a telegram brings: its own, or the one that its fragment completes, where it completes one
abbrev pub message_in : List Told → Content → Option Message
message_in told (Whole message) = Some message
message_in told (Part part) = assembled (held (Piece part ∷ told))

-- the message that a telegram brings after what was told, where it brings one, or the first refusal
abbrev pub brought : List Told → List ℕ → Result Layers Reason → Result (Option Message) Reason
brought told t (Err reason) = Err reason
brought told t (Ok l) = Ok (message_in told (content_behind t l))
