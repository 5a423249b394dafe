-- What holds of the definitions themselves.
use Rattle.std.specs.Prelude.{◌≡◌, ℕ, ◌%◌, ◌<◌, List, length}
use Rattle.std.specs.List.{All}
use Rattle.aes_block.specs.Block.{IsBlock}
use Rattle.cbc_cmac.specs.Fed.{Fed, StandsFor}
use Rattle.cbc_cmac.specs.Cbc.{encrypted_blocks, decrypted_blocks, cbc_encrypted, cbc_decrypted}

-- blocks that are encrypted and then decrypted are what they were, and the other way round
pub record BlocksAreUndone (key iv : List ℕ) (bs : List (List ℕ)) : Type 0 where
  pub decrypted-encrypted : decrypted_blocks key iv (encrypted_blocks key iv bs) ≡ bs
  pub encrypted-decrypted : encrypted_blocks key iv (decrypted_blocks key iv bs) ≡ bs

-- for every key and iv, and every list of blocks
abbrev pub ChainsAreUndone : Type 0
ChainsAreUndone = (key iv : List ℕ) (bs : List (List ℕ)) → IsBlock key → IsBlock iv → All IsBlock bs → BlocksAreUndone key iv bs

-- so are bytes
pub record BytesAreUndone (key iv bytes : List ℕ) : Type 0 where
  pub decrypted-encrypted : cbc_decrypted key iv (cbc_encrypted key iv bytes) ≡ bytes
  pub encrypted-decrypted : cbc_encrypted key iv (cbc_decrypted key iv bytes) ≡ bytes

-- as many as whole blocks have
abbrev pub BytesOfBlocksAreUndone : Type 0
BytesOfBlocksAreUndone = (key iv bytes : List ℕ) → IsBlock key → IsBlock iv → All (λ b. b < 256) bytes → length bytes % 16 ≡ 0
    → BytesAreUndone key iv bytes

-- what is kept of a message is settled by the key and the message, however it was cut
abbrev pub CutMakesNoDifference : Type 0
CutMakesNoDifference = (fed other : Fed) (key message : List ℕ) → StandsFor fed key message → StandsFor other key message → fed ≡ other
