-- The text of what a slot answers.
use Rattle.std.specs.Prelude.{ℕ, List, [], ◌∷◌, ◌++◌, codes, Option, option_map}
use Rattle.meter_address.specs.Address.{bytes_of}
use Rattle.message_check.specs.declared.refusal.LayerFault.{LayerFault}
use Rattle.message_check.specs.declared.refusal.Reason.{Reason}
use Rattle.message_check.specs.declared.refusal.Reason.TheVariants.{NotUplink, BadLayers, PartInMode5, TooManyParts, BadMessage}
use Rattle.message_check.specs.declared.refusal.Reason.TheVariants.{OtherAddress, Mode, NoAuth, Kdf, ShortBlocks, Unchecked, BadMac}
use Rattle.message_check.specs.declared.refusal.Reason.TheVariants.{Stale, CheckBytes, SameAccess, QueueFull, IdsSpent, NoSuch, KeyInMode5}
use Rattle.meter_slots.specs.declared.entry.Outcome.{Outcome}
use Rattle.meter_slots.specs.declared.entry.Outcome.TheVariants.{Stored, PartKept, Ticked, Queued, Cancelled, Rekeyed, Refused}
use Rattle.meter_slots.specs.declared.reading.Reading.{Reading}
use Rattle.record_text.specs.Values.{hex_text}
use Rattle.layer_text.specs.Faults.{named_fault_text, layer_fault_text}
use Rattle.paper.specs.Pieces.{labelled, labelled_two, labelled_if, labelled_bytes, text_if}

-- ---- refusals

unfoldable pub bad_layers_text : LayerFault → List ℕ
bad_layers_text fault = codes "layers " ++ layer_fault_text fault

abbrev pub reason_text : Reason → List ℕ
reason_text (NotUplink c) = labelled_bytes (codes "uplink ") (c ∷ [])
reason_text (BadLayers fault) = bad_layers_text fault
reason_text PartInMode5 = codes "part5"
reason_text (TooManyParts fid) = labelled (codes "parts ") fid
reason_text (BadMessage fault) = named_fault_text (codes "message") fault
reason_text (OtherAddress a) = labelled_bytes (codes "other ") (bytes_of a)
reason_text (Mode found wanted) = labelled_two (codes "mode ") found wanted
reason_text NoAuth = codes "noauth"
reason_text (Kdf found) = labelled (codes "kdf ") found
reason_text (ShortBlocks want have) = labelled_two (codes "blocks ") want have
reason_text Unchecked = codes "unchecked"
reason_text BadMac = codes "mac"
reason_text (Stale got last) = labelled_two (codes "stale ") got last
reason_text (CheckBytes two) = labelled_bytes (codes "check ") two
reason_text (SameAccess acc) = labelled (codes "access ") acc
reason_text QueueFull = codes "queue"
reason_text IdsSpent = codes "ids"
reason_text (NoSuch id) = labelled (codes "nosuch ") id
reason_text KeyInMode5 = codes "key5"

-- ---- what is stored

-- the moment and the payload
unfoldable pub reading_text : Reading → List ℕ
reading_text r = labelled (codes " ") r.at ++ codes " " ++ hex_text r.payload

-- the counter and the reading, the command that it confirms, and the downlink that is sent
unfoldable pub stored_text : ℕ → Option Reading → Option ℕ → Option ℕ → List ℕ
stored_text counter reading confirmed sent =
    labelled (codes "stored ") counter ++ text_if reading_text reading
    ++ labelled_if (codes " confirmed ") confirmed ++ labelled_if (codes " sent ") sent

-- ---- outcomes

unfoldable pub refused_text : Reason → List ℕ
refused_text reason = codes "refused " ++ reason_text reason

unfoldable pub ticked_text : Option ℕ → List ℕ
ticked_text expired = codes "ticked" ++ labelled_if (codes " expired ") expired

-- an outcome, with the reading of what is stored
abbrev pub outcome_text : Option Reading → Outcome → List ℕ
outcome_text reading (Stored counter confirmed sent) = stored_text counter reading confirmed (option_map (λ s. s.down) sent)
outcome_text reading PartKept = codes "part"
outcome_text reading (Ticked expired) = ticked_text expired
outcome_text reading (Queued id) = labelled (codes "queued ") id
outcome_text reading (Cancelled id) = labelled (codes "cancelled ") id
outcome_text reading Rekeyed = codes "rekeyed"
outcome_text reading (Refused reason) = refused_text reason
