use Rattle.cbc_cmac.proofs.Blocks.{bytes_of_blocks_are_undone}
use Rattle.cbc_cmac.proofs.laws.decryption_undoes_encryption_of_bytes.Goals as goal

pub returns : goal.returns
returns c = bytes_of_blocks_are_undone
