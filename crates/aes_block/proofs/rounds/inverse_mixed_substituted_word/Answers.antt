use Rattle.std.proofs.Common.{◌∙◌}
use Rattle.aes_block.specs.Block.{inverse_mix_polynomial}
use Rattle.aes_block.specs.Words.{inverse_mixed_substitute}
use Rattle.aes_block.proofs.Mixing.{AreBytes-inverse_mix_polynomial}
use Rattle.aes_block.proofs.ByteTables.{inverse_substitute-lt}
use Rattle.aes_block.proofs.ColumnWords.{four_read, summed, word_of_mixed, row-lt}
use Rattle.aes_block.proofs.rounds.inverse_mixed_substituted_word.Goals as goal

pub returns : goal.returns
unfolding inverse_mixed_substitute
returns c =
    four_read summed (inverse_mixed_substitute 0) (inverse_mixed_substitute 1) (inverse_mixed_substitute 2) (inverse_mixed_substitute 3)
    c.args.a c.args.b c.args.c c.args.d
    c.to_be_bytes.ensures c.to_be_bytes-2.ensures c.to_be_bytes-3.ensures c.to_be_bytes-4.ensures
    c.inverse_mixed_substitution.ensures c.inverse_mixed_substitution-2.ensures
    c.inverse_mixed_substitution-3.ensures c.inverse_mixed_substitution-4.ensures
    ∙ word_of_mixed inverse_mix_polynomial _ _ _ _ AreBytes-inverse_mix_polynomial
    (inverse_substitute-lt _ (row-lt c.args.a 0)) (inverse_substitute-lt _ (row-lt c.args.b 1))
    (inverse_substitute-lt _ (row-lt c.args.c 2)) (inverse_substitute-lt _ (row-lt c.args.d 3))
