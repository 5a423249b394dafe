use Rattle.aes_block.proofs.Remainder.{product_is_remainder}
use Rattle.aes_block.proofs.laws.product_is_remainder.Goals as goal

pub returns : goal.returns
returns c = product_is_remainder
