use Rattle.std.proofs.Common.{◌∙◌}
use Rattle.aes_block.specs.Block.{mix_polynomial}
use Rattle.aes_block.specs.Words.{mixed_substitute}
use Rattle.aes_block.proofs.Mixing.{AreBytes-mix_polynomial}
use Rattle.aes_block.proofs.ByteTables.{substitute-lt}
use Rattle.aes_block.proofs.ColumnWords.{four_read, summed, word_of_mixed, row-lt}
use Rattle.aes_block.proofs.rounds.mixed_word.Goals as goal

pub returns : goal.returns
unfolding mixed_substitute
returns c =
    four_read summed (mixed_substitute 0) (mixed_substitute 1) (mixed_substitute 2) (mixed_substitute 3) c.args.a c.args.b c.args.c c.args.d
    c.to_be_bytes.ensures c.to_be_bytes-2.ensures c.to_be_bytes-3.ensures c.to_be_bytes-4.ensures
    c.mixed_substitution.ensures c.mixed_substitution-2.ensures c.mixed_substitution-3.ensures c.mixed_substitution-4.ensures
    ∙ word_of_mixed mix_polynomial _ _ _ _ AreBytes-mix_polynomial
    (substitute-lt _ (row-lt c.args.a 0)) (substitute-lt _ (row-lt c.args.b 1))
    (substitute-lt _ (row-lt c.args.c 2)) (substitute-lt _ (row-lt c.args.d 3))
