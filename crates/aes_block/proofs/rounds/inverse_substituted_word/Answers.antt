use Rattle.std.proofs.Common.{◌∙◌}
use Rattle.aes_block.specs.Field.{inverse_substitute}
use Rattle.aes_block.specs.Words.{word}
use Rattle.aes_block.proofs.ColumnWords.{four_read, gathered}
use Rattle.aes_block.proofs.rounds.inverse_substituted_word.Goals as goal

pub returns : goal.returns
unfolding word
returns c =
    c.from_be_bytes.ensures ∙ four_read gathered inverse_substitute inverse_substitute inverse_substitute inverse_substitute
    c.args.a c.args.b c.args.c c.args.d
    c.to_be_bytes.ensures c.to_be_bytes-2.ensures c.to_be_bytes-3.ensures c.to_be_bytes-4.ensures
    c.inverse_substituted.ensures c.inverse_substituted-2.ensures c.inverse_substituted-3.ensures c.inverse_substituted-4.ensures
