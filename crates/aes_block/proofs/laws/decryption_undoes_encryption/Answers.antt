use Rattle.aes_block.proofs.Cipher.{decryption_undoes_encryption}
use Rattle.aes_block.proofs.laws.decryption_undoes_encryption.Goals as goal

pub returns : goal.returns
returns c = decryption_undoes_encryption
