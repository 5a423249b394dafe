use Rattle.std.proofs.Common.{◌≡◌, ◌+◌, ◌*◌, length, take}
use Rattle.aes_block.specs.Block.{round_key}
use Rattle.aes_block.specs.Words.{AreWordsOf, round_words}
use Rattle.aes_block.proofs.Keys.new.Given as goal

abbrev pub invariant-loop-n : goal.invariant-loop-n
invariant-loop-n l =
    (length l.words ≡ 44) × AreWordsOf l.last (round_key l.key l.n) × (take (4 * l.n + 4) l.words ≡ round_words (l.n + 1) l.key)
