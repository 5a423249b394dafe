use Rattle.std.proofs.lemmas.List.Elements.{All-from_get_or}
use Rattle.std.proofs.Common.{◌<◌, [], ◌∷◌}
use Rattle.aes_block.specs.Words.{word}
use Rattle.aes_block.proofs.rounds.loaded.Goals as goal

pub returns : goal.returns
unfolding word
returns c = record {
  block = record { count = c.told-block; bytes = All-from_get_or (λ x. x < 256) c.args.block.now 0 (λ i lt. c.fits-block i) };
  words = λ i. c.from_be_bytes.ensures i ∷ c.from_be_bytes-2.ensures i ∷ c.from_be_bytes-3.ensures i ∷ c.from_be_bytes-4.ensures i ∷ [];
}
