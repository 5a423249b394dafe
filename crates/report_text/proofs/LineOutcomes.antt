-- The text of an outcome holds no newline.
use Rattle.std.proofs.Common.{ℕ, List, [], ◌∷◌, Option, refl}
use Rattle.std.specs.Prelude.{codes, option_map}
use Rattle.ell_layer.specs.declared.extension.EllFault.{EllFault}
use Rattle.ell_layer.specs.declared.extension.EllFault.TheVariants as ell
use Rattle.afl_layer.specs.declared.header.AflFault.{AflFault}
use Rattle.afl_layer.specs.declared.header.AflFault.TheVariants as afl
use Rattle.tpl_headers.specs.declared.header.TplFault.{TplFault}
use Rattle.tpl_headers.specs.declared.header.TplFault.TheVariants as tpl
use Rattle.message_check.specs.declared.refusal.LayerFault.{LayerFault}
use Rattle.message_check.specs.declared.refusal.LayerFault.TheVariants.{Tpl}
use Rattle.message_check.specs.declared.refusal.Reason.{Reason}
use Rattle.message_check.specs.declared.refusal.Reason.TheVariants.{BadLayers, BadMessage}
use Rattle.meter_slots.specs.declared.entry.Outcome.{Outcome}
use Rattle.meter_slots.specs.declared.entry.Outcome.TheVariants.{Stored}
use Rattle.meter_slots.specs.declared.reading.Reading.{Reading}
use Rattle.layer_text.specs.Faults.{ell_fault_text, afl_fault_text, tpl_fault_text, named_fault_text, layer_fault_text}
use Rattle.report_text.specs.Outcomes.{bad_layers_text, reason_text, reading_text, stored_text, refused_text, ticked_text, outcome_text}
use Rattle.report_text.proofs.LineWalks.{IsWithout, ◌⌢◌, literal}
use Rattle.report_text.proofs.LinePieces.{worded_number, worded_bytes, piece_if, pieces}

ell_fault : (fault : EllFault) → IsWithout 10 (ell_fault_text fault)
ell_fault (ell.Truncated have) = worded_number (literal (codes "ell truncated ") refl) have
ell_fault (ell.Kind ci) = worded_bytes (literal (codes "ell kind ") refl) (ci ∷ [])

afl_fault : (fault : AflFault) → IsWithout 10 (afl_fault_text fault)
afl_fault (afl.Truncated have) = search pieces
afl_fault _ = search pieces

tpl_fault : (fault : TplFault) → IsWithout 10 (tpl_fault_text fault)
tpl_fault (tpl.Truncated have) = worded_number (literal (codes " truncated ") refl) have
tpl_fault (tpl.Unbuilt ci) = worded_bytes (literal (codes " unbuilt ") refl) (ci ∷ [])

named_fault : (name : List ℕ) (fault : TplFault) → IsWithout 10 name → IsWithout 10 (named_fault_text name fault)
unfolding named_fault_text
named_fault name fault is = is ⌢ tpl_fault fault

layer_fault : (fault : LayerFault) → IsWithout 10 (layer_fault_text fault)
layer_fault (Tpl fault) = named_fault (codes "tpl") fault (literal (codes "tpl") refl)
layer_fault _ = search (ell_fault, afl_fault)

bad_layers : (fault : LayerFault) → IsWithout 10 (bad_layers_text fault)
unfolding bad_layers_text
bad_layers fault = literal (codes "layers ") refl ⌢ layer_fault fault

reason_is : (reason : Reason) → IsWithout 10 (reason_text reason)
reason_is (BadLayers fault) = bad_layers fault
reason_is (BadMessage fault) = named_fault (codes "message") fault (literal (codes "message") refl)
reason_is _ = search pieces

reading_is : (r : Reading) → IsWithout 10 (reading_text r)
unfolding reading_text
reading_is r = search pieces

stored_is : (counter : ℕ) (reading : Option Reading) (confirmed sent : Option ℕ) → IsWithout 10 (stored_text counter reading confirmed sent)
unfolding stored_text
stored_is counter reading confirmed sent = search (pieces, piece_if, reading_is) depth 9

refused_is : (reason : Reason) → IsWithout 10 (refused_text reason)
unfolding refused_text
refused_is reason = search (pieces, reason_is)

ticked_is : (expired : Option ℕ) → IsWithout 10 (ticked_text expired)
unfolding ticked_text
ticked_is expired = search pieces

pub outcome_is : (reading : Option Reading) (outcome : Outcome) → IsWithout 10 (outcome_text reading outcome)
outcome_is reading (Stored counter confirmed sent) = stored_is counter reading confirmed (option_map (λ s. s.down) sent)
outcome_is reading _ = search (pieces, ticked_is, refused_is)
