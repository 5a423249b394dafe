use Rattle.std.proofs.Common.{◌≡◌, ◌+◌, ◌<◌, ℕ, [], length, get_or}
use Rattle.aes_block.specs.Block.{round_key}
use Rattle.aes_block.specs.Words.{IsMixedBack}
use Rattle.aes_block.proofs.inverse.InverseKeys.new.Given as goal

abbrev pub invariant-loop-n : goal.invariant-loop-n
invariant-loop-n l = (length l.mixed ≡ 9) × ((m : ℕ) → m < l.n → IsMixedBack (get_or l.mixed m []) (round_key l.keys (m + 1)))
