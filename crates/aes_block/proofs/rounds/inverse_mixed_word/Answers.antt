use Rattle.std.proofs.Common.{◌∙◌}
use Rattle.aes_block.specs.Block.{inverse_mix_polynomial}
use Rattle.aes_block.specs.Words.{inverse_mixed}
use Rattle.aes_block.proofs.Mixing.{AreBytes-inverse_mix_polynomial}
use Rattle.aes_block.proofs.ColumnWords.{four_read, summed, word_of_mixed, row-lt}
use Rattle.aes_block.proofs.rounds.inverse_mixed_word.Goals as goal

pub returns : goal.returns
unfolding inverse_mixed
returns c =
    four_read summed (inverse_mixed 0) (inverse_mixed 1) (inverse_mixed 2) (inverse_mixed 3)
    c.args.column c.args.column c.args.column c.args.column
    c.to_be_bytes.ensures c.to_be_bytes.ensures c.to_be_bytes.ensures c.to_be_bytes.ensures
    c.inverse_mixture.ensures c.inverse_mixture-2.ensures c.inverse_mixture-3.ensures c.inverse_mixture-4.ensures
    ∙ word_of_mixed inverse_mix_polynomial _ _ _ _ AreBytes-inverse_mix_polynomial
    (row-lt c.args.column 0) (row-lt c.args.column 1) (row-lt c.args.column 2) (row-lt c.args.column 3)
