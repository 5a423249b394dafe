use Rattle.aes_block.proofs.Cipher.{each_step_is_undone}
use Rattle.aes_block.proofs.laws.each_step_is_undone.Goals as goal

pub returns : goal.returns
returns c = each_step_is_undone
