-- What a `Cmac` keeps of the bytes that it was fed.
use Rattle.std.specs.Prelude.{◌≡◌, ℕ, ◌-◌, ◌*◌, ◌%◌, ◌≤◌, List, length, drop}
use Rattle.cbc_cmac.specs.Cbc.{first_blocks}
use Rattle.cbc_cmac.specs.Mac.{chain, zeros, before_last, first_subkey}

-- the key, the chain over the blocks before the last, and what is there of the last block
pub record Fed : Type 0 where
  pub key : List ℕ
  pub chained : List ℕ
  pub last : List ℕ

-- these are kept of the message under the key
pub record StandsFor (fed : Fed) (key message : List ℕ) : Type 0 where
  pub under : fed.key ≡ key
  pub before : fed.chained ≡ chain key zeros (first_blocks (before_last message) message)
  pub rest : fed.last ≡ drop (16 * before_last message) message

-- the subkey is that of the key, and no more bytes are used than a block has
pub record IsReady (key subkey : List ℕ) (used : ℕ) : Type 0 where
  pub subkey_is : subkey ≡ first_subkey key
  pub within : used ≤ 16

-- how many bytes there is room for: a whole last block gives way to an empty one
abbrev pub room_of : Fed → ℕ
room_of fed = 16 - length fed.last % 16
