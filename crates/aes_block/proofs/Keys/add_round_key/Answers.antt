use Rattle.aes_block.proofs.Keys.add_round_key.Goals as goal

pub returns : goal.returns
returns c b h = c.added.ensures b _ h c.round_words.ensures
