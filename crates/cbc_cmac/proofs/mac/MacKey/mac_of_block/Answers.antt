use Rattle.std.proofs.Common.{ℕ, List, ap, ◌∙◌}
use Rattle.aes_block.specs.Block.{encrypt}
use Rattle.cbc_cmac.specs.Mac.{cmac}
use Rattle.cbc_cmac.proofs.OneBlock.{cmac-block}
use Rattle.cbc_cmac.proofs.mac.MacKey.mac_of_block.Goals as goal

pub returns : goal.returns
returns c =
    c.encrypt.ensures ∙ ap (encrypt c.self.inside.keys) c.add_block.ensures
    ∙ cmac-block c.self.inside.keys c.args.block.now c.self.inside.subkey c.told-block c.self.invariant
    ∙ ap (λ (key : List ℕ). cmac key c.args.block.now) c.self.view_is
