use Rattle.std.proofs.Common.{◌∙◌}
use Rattle.aes_block.specs.Field.{substitute}
use Rattle.aes_block.specs.Words.{word}
use Rattle.aes_block.proofs.ColumnWords.{four_read, gathered}
use Rattle.aes_block.proofs.rounds.substituted_word.Goals as goal

pub returns : goal.returns
unfolding word
returns c =
    c.from_be_bytes.ensures ∙ four_read gathered substitute substitute substitute substitute c.args.a c.args.b c.args.c c.args.d
    c.to_be_bytes.ensures c.to_be_bytes-2.ensures c.to_be_bytes-3.ensures c.to_be_bytes-4.ensures
    c.substituted.ensures c.substituted-2.ensures c.substituted-3.ensures c.substituted-4.ensures
