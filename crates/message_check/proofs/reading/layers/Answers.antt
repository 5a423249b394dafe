use Rattle.std.proofs.Common.{ap, ◌∙◌}
use Rattle.message_check.specs.Layers.{layers_of}
use Rattle.message_check.proofs.LayerLaws.{is_found, is_only}
use Rattle.message_check.proofs.LayerFaults.{is_fault}
use Rattle.message_check.proofs.reading.layers.Goals as goal

pub returns-clause-found : goal.returns-clause-found
returns-clause-found c =
    is_found c.args.telegram.now c.read_layers.result c.bytes.ensures.telegram c.bytes.ensures.each (c.read_layers.ensures.exact
    ∙ ap layers_of c.bytes.ensures.bytes)

pub returns-clause-only : goal.returns-clause-only
returns-clause-only c = is_only c.args.telegram.now c.read_layers.result (c.read_layers.ensures.exact ∙ ap layers_of c.bytes.ensures.bytes)

pub returns-clause-fault : goal.returns-clause-fault
returns-clause-fault c =
    is_fault c.args.telegram.now c.read_layers.result c.bytes.ensures.each (c.read_layers.ensures.exact
    ∙ ap layers_of c.bytes.ensures.bytes)
