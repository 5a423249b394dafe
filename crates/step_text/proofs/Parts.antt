-- What the report says of a refusal is its word and its values.
use Rattle.std.proofs.Common.{◌≡◌, ℕ, List, [], ◌∷◌, ◌++◌, refl, sym, ap, ◌∙◌, append_assoc, append-nil}
use Rattle.std.specs.Prelude.{codes}
use Rattle.std.specs.Fmt.{decimal}
use Rattle.std.specs.Int.{w16, to_be_bytes}
use Rattle.hex.specs.Hex.{encode_lower}
use Rattle.meter_address.specs.Address.{bytes_of}
use Rattle.ell_layer.specs.declared.extension.EllFault.TheVariants as ell
use Rattle.afl_layer.specs.declared.header.AflFault.TheVariants as afl
use Rattle.tpl_headers.specs.declared.header.TplFault.{TplFault}
use Rattle.tpl_headers.specs.declared.header.TplFault.TheVariants as tpl
use Rattle.message_check.specs.declared.refusal.LayerFault.{LayerFault}
use Rattle.message_check.specs.declared.refusal.LayerFault.TheVariants.{Ell, Afl, Tpl}
use Rattle.message_check.specs.declared.refusal.Reason.TheVariants.{NotUplink, BadLayers, TooManyParts, BadMessage, OtherAddress, Mode, Kdf}
use Rattle.message_check.specs.declared.refusal.Reason.TheVariants.{ShortBlocks, Stale, CheckBytes, SameAccess, NoSuch}
use Rattle.paper.specs.Pieces.{labelled, labelled_two, labelled_bytes}
use Rattle.layer_text.specs.Faults.{named_fault_text}
use Rattle.report_text.specs.Outcomes.{bad_layers_text}
use Rattle.step_text.specs.Causes.{layers_cause, message_cause, cause_text, ReasonIsItsParts}

-- a word with its blank, and one value or two behind it
one : (word value : List ℕ) → word ++ value ≡ word ++ (value ++ [])
one word value = ap (λ t. word ++ t) (sym (append-nil value))

two : (word first second : List ℕ) → word ++ first ++ codes " " ++ second ≡ word ++ (first ++ 32 ∷ (second ++ []))
two word first second =
    append_assoc (word ++ first) (codes " ") second ∙ append_assoc word first (32 ∷ second)
    ∙ ap (λ t. word ++ (first ++ 32 ∷ t)) (sym (append-nil second))

layers_are : (fault : LayerFault) → bad_layers_text fault ≡ cause_text (layers_cause fault)
unfolding bad_layers_text named_fault_text labelled labelled_two labelled_bytes
layers_are (Ell (ell.Truncated have)) = one (codes "layers ell truncated ") (decimal have)
layers_are (Ell (ell.Kind ci)) = one (codes "layers ell kind ") (encode_lower (ci ∷ []))
layers_are (Afl (afl.Truncated have)) = one (codes "layers afl truncated ") (decimal have)
layers_are (Afl (afl.AflLength said fields)) = two (codes "layers afl length ") (decimal said) (decimal fields)
layers_are (Afl (afl.FieldPlace fcl)) = one (codes "layers afl place ") (encode_lower (to_be_bytes w16 fcl))
layers_are (Afl afl.FidZero) = refl
layers_are (Tpl (tpl.Truncated have)) = one (codes "layers tpl truncated ") (decimal have)
layers_are (Tpl (tpl.Unbuilt ci)) = one (codes "layers tpl unbuilt ") (encode_lower (ci ∷ []))

message_is : (fault : TplFault) → named_fault_text (codes "message") fault ≡ cause_text (message_cause fault)
unfolding named_fault_text labelled labelled_bytes
message_is (tpl.Truncated have) = one (codes "message truncated ") (decimal have)
message_is (tpl.Unbuilt ci) = one (codes "message unbuilt ") (encode_lower (ci ∷ []))

pub reason_is_its_parts : ReasonIsItsParts
unfolding labelled labelled_two labelled_bytes
reason_is_its_parts (NotUplink control) = one (codes "uplink ") (encode_lower (control ∷ []))
reason_is_its_parts (BadLayers fault) = layers_are fault
reason_is_its_parts (TooManyParts fid) = one (codes "parts ") (decimal fid)
reason_is_its_parts (BadMessage fault) = message_is fault
reason_is_its_parts (OtherAddress address) = one (codes "other ") (encode_lower (bytes_of address))
reason_is_its_parts (Mode found wanted) = two (codes "mode ") (decimal found) (decimal wanted)
reason_is_its_parts (Kdf found) = one (codes "kdf ") (decimal found)
reason_is_its_parts (ShortBlocks want have) = two (codes "blocks ") (decimal want) (decimal have)
reason_is_its_parts (Stale got last) = two (codes "stale ") (decimal got) (decimal last)
reason_is_its_parts (CheckBytes bytes) = one (codes "check ") (encode_lower bytes)
reason_is_its_parts (SameAccess access) = one (codes "access ") (decimal access)
reason_is_its_parts (NoSuch id) = one (codes "nosuch ") (decimal id)
reason_is_its_parts _ = refl
