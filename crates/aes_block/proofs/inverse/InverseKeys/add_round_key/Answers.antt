use Rattle.std.proofs.Common.{ℕ, List, subst}
use Rattle.aes_block.specs.Block.{add, round_key}
use Rattle.aes_block.specs.Words.{AreWordsOf}
use Rattle.aes_block.proofs.inverse.InverseKeys.add_round_key.Goals as goal

pub returns : goal.returns
returns c b h =
    subst (λ (key : List ℕ). AreWordsOf c.add_round_key.result (add b (round_key key c.args.n))) c.self.view_is
    (c.add_round_key.ensures b h)
