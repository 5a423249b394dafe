-- The words of a layer that can't be read.
use Rattle.std.specs.Prelude.{ℕ, List, [], ◌∷◌, ◌++◌, codes}
use Rattle.std.specs.Int.{w16, to_be_bytes}
use Rattle.ell_layer.specs.declared.extension.EllFault.{EllFault}
use Rattle.ell_layer.specs.declared.extension.EllFault.TheVariants as ell
use Rattle.afl_layer.specs.declared.header.AflFault.{AflFault}
use Rattle.afl_layer.specs.declared.header.AflFault.TheVariants as afl
use Rattle.tpl_headers.specs.declared.header.TplFault.{TplFault}
use Rattle.tpl_headers.specs.declared.header.TplFault.TheVariants as tpl
use Rattle.message_check.specs.declared.refusal.LayerFault.{LayerFault}
use Rattle.message_check.specs.declared.refusal.LayerFault.TheVariants.{Ell, Afl, Tpl}
use Rattle.paper.specs.Pieces.{labelled, labelled_two, labelled_bytes}

abbrev pub ell_fault_text : EllFault → List ℕ
ell_fault_text (ell.Truncated have) = labelled (codes "ell truncated ") have
ell_fault_text (ell.Kind ci) = labelled_bytes (codes "ell kind ") (ci ∷ [])

abbrev pub afl_fault_text : AflFault → List ℕ
afl_fault_text (afl.Truncated have) = labelled (codes "afl truncated ") have
afl_fault_text (afl.AflLength said fields) = labelled_two (codes "afl length ") said fields
afl_fault_text (afl.FieldPlace fcl) = labelled_bytes (codes "afl place ") (to_be_bytes w16 fcl)
afl_fault_text afl.FidZero = codes "afl fidzero"

-- behind the name of what can't be read
abbrev pub tpl_fault_text : TplFault → List ℕ
tpl_fault_text (tpl.Truncated have) = labelled (codes " truncated ") have
tpl_fault_text (tpl.Unbuilt ci) = labelled_bytes (codes " unbuilt ") (ci ∷ [])

-- a name, and behind it why the header of that name can't be read
unfoldable pub named_fault_text : List ℕ → TplFault → List ℕ
named_fault_text name fault = name ++ tpl_fault_text fault

abbrev pub layer_fault_text : LayerFault → List ℕ
layer_fault_text (Ell fault) = ell_fault_text fault
layer_fault_text (Afl fault) = afl_fault_text fault
layer_fault_text (Tpl fault) = named_fault_text (codes "tpl") fault
