-- Why an event is refused, and why a line says nothing: a word, and the values behind it.
use Rattle.std.specs.Prelude.{ℕ, ◌≡◌, List, [], ◌∷◌, ◌++◌, codes}
use Rattle.std.specs.List.{flat_map}
use Rattle.std.specs.Fmt.{decimal}
use Rattle.std.specs.Int.{w16, to_be_bytes}
use Rattle.hex.specs.Hex.{encode_lower}
use Rattle.meter_address.specs.Address.{bytes_of}
use Rattle.frame_formats.specs.declared.fault.FrameFault.{FrameFault}
use Rattle.frame_formats.specs.declared.fault.FrameFault.TheVariants as frame
use Rattle.line_reader.specs.declared.line.BadLine.{BadLine}
use Rattle.line_reader.specs.declared.line.BadLine.TheVariants as bad
use Rattle.ell_layer.specs.declared.extension.EllFault.TheVariants as ell
use Rattle.afl_layer.specs.declared.header.AflFault.TheVariants as afl
use Rattle.tpl_headers.specs.declared.header.TplFault.{TplFault}
use Rattle.tpl_headers.specs.declared.header.TplFault.TheVariants as tpl
use Rattle.message_check.specs.declared.refusal.LayerFault.{LayerFault}
use Rattle.message_check.specs.declared.refusal.LayerFault.TheVariants.{Ell, Afl, Tpl}
use Rattle.message_check.specs.declared.refusal.Reason.{Reason}
use Rattle.message_check.specs.declared.refusal.Reason.TheVariants.{NotUplink, BadLayers, PartInMode5, TooManyParts, BadMessage}
use Rattle.message_check.specs.declared.refusal.Reason.TheVariants.{OtherAddress, Mode, NoAuth, Kdf, ShortBlocks, Unchecked, BadMac}
use Rattle.message_check.specs.declared.refusal.Reason.TheVariants.{Stale, CheckBytes, SameAccess, QueueFull, IdsSpent, NoSuch, KeyInMode5}
use Rattle.report_text.specs.Outcomes.{reason_text}

-- a value behind a word
pub data Value : Type 0 where
  Number : ℕ → Value
  Bytes : List ℕ → Value

-- a word, and the values behind it
pub record Cause : Type 0 where
  pub word : List ℕ
  pub values : List Value

abbrev pub alone : List ℕ → Cause
alone word = record { word = word; values = [] }

abbrev pub with_number : List ℕ → ℕ → Cause
with_number word n = record { word = word; values = Number n ∷ [] }

abbrev pub with_two : List ℕ → ℕ → ℕ → Cause
with_two word n m = record { word = word; values = Number n ∷ Number m ∷ [] }

abbrev pub with_bytes : List ℕ → List ℕ → Cause
with_bytes word bytes = record { word = word; values = Bytes bytes ∷ [] }

-- ---- why an event is refused

-- the layer that can't be read
abbrev pub layers_cause : LayerFault → Cause
layers_cause (Ell (ell.Truncated have)) = with_number (codes "layers ell truncated") have
layers_cause (Ell (ell.Kind ci)) = with_bytes (codes "layers ell kind") (ci ∷ [])
layers_cause (Afl (afl.Truncated have)) = with_number (codes "layers afl truncated") have
layers_cause (Afl (afl.AflLength said fields)) = with_two (codes "layers afl length") said fields
layers_cause (Afl (afl.FieldPlace fcl)) = with_bytes (codes "layers afl place") (to_be_bytes w16 fcl)
layers_cause (Afl afl.FidZero) = alone (codes "layers afl fidzero")
layers_cause (Tpl (tpl.Truncated have)) = with_number (codes "layers tpl truncated") have
layers_cause (Tpl (tpl.Unbuilt ci)) = with_bytes (codes "layers tpl unbuilt") (ci ∷ [])

-- the header with which no message begins
abbrev pub message_cause : TplFault → Cause
message_cause (tpl.Truncated have) = with_number (codes "message truncated") have
message_cause (tpl.Unbuilt ci) = with_bytes (codes "message unbuilt") (ci ∷ [])

abbrev pub reason_cause : Reason → Cause
reason_cause (NotUplink control) = with_bytes (codes "uplink") (control ∷ [])
reason_cause (BadLayers fault) = layers_cause fault
reason_cause PartInMode5 = alone (codes "part5")
reason_cause (TooManyParts fid) = with_number (codes "parts") fid
reason_cause (BadMessage fault) = message_cause fault
reason_cause (OtherAddress address) = with_bytes (codes "other") (bytes_of address)
reason_cause (Mode found wanted) = with_two (codes "mode") found wanted
reason_cause NoAuth = alone (codes "noauth")
reason_cause (Kdf found) = with_number (codes "kdf") found
reason_cause (ShortBlocks want have) = with_two (codes "blocks") want have
reason_cause Unchecked = alone (codes "unchecked")
reason_cause BadMac = alone (codes "mac")
reason_cause (Stale got last) = with_two (codes "stale") got last
reason_cause (CheckBytes two) = with_bytes (codes "check") two
reason_cause (SameAccess access) = with_number (codes "access") access
reason_cause QueueFull = alone (codes "queue")
reason_cause IdsSpent = alone (codes "ids")
reason_cause (NoSuch id) = with_number (codes "nosuch") id
reason_cause KeyInMode5 = alone (codes "key5")

-- ---- why a line says nothing

-- bytes that are no frame (EN 13757-4), in the words of frame_inspect
abbrev pub frame_cause : FrameFault → Cause
frame_cause frame.Empty = alone (codes "empty")
frame_cause (frame.Short l) = with_number (codes "short") l
frame_cause (frame.Gap l) = with_number (codes "gap") l
frame_cause (frame.Length want have) = with_two (codes "length") want have
frame_cause (frame.Crc block) = with_number (codes "crc") block

-- a line outside the grammar
abbrev pub bad_cause : BadLine → Cause
bad_cause bad.TooLong = alone (codes "long")
bad_cause bad.Word = alone (codes "word")
bad_cause bad.Fields = alone (codes "fields")
bad_cause bad.Number = alone (codes "number")
bad_cause bad.Address = alone (codes "address")
bad_cause bad.Hex = alone (codes "hex")
bad_cause (bad.Payload count) = with_number (codes "payload") count
bad_cause bad.Key = alone (codes "key")

-- ---- the words of the report

-- numbers are decimal, and bytes hexadecimal
abbrev pub value_text : Value → List ℕ
value_text (Number n) = decimal n
value_text (Bytes bytes) = encode_lower bytes

abbrev pub spaced : Value → List ℕ
spaced value = codes " " ++ value_text value

-- the word, and the values with a blank before each
abbrev pub cause_text : Cause → List ℕ
cause_text cause = cause.word ++ flat_map spaced cause.values

-- the report says of a refusal its word and its values, and nothing else
abbrev pub ReasonIsItsParts : Type 0
ReasonIsItsParts = (reason : Reason) → reason_text reason ≡ cause_text (reason_cause reason)
