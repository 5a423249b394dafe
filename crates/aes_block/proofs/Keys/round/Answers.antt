use Rattle.aes_block.proofs.Keys.round.Goals as goal

pub returns : goal.returns
returns c b h = c.add_round_key.ensures _ (c.forward_round.ensures _ h)
