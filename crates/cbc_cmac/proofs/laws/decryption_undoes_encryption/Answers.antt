use Rattle.cbc_cmac.proofs.Chains.{chains_are_undone}
use Rattle.cbc_cmac.proofs.laws.decryption_undoes_encryption.Goals as goal

pub returns : goal.returns
returns c = chains_are_undone
