use Rattle.std.proofs.Common.{[], ◌∷◌, ◌∙◌}
use Rattle.aes_block.proofs.Cipher.{IsBlock-inverse_sub_bytes, IsBlock-inverse_shift_rows}
use Rattle.aes_block.proofs.ColumnWords.{inverse_round_words}
use Rattle.aes_block.proofs.rounds.inverse_round.Goals as goal

pub returns : goal.returns
returns c b h = record {
  block = IsBlock-inverse_sub_bytes _ (IsBlock-inverse_shift_rows b h.block);
  words = (λ i. c.inverse_substituted_word.ensures i ∷ c.inverse_substituted_word-2.ensures i ∷ c.inverse_substituted_word-3.ensures i
      ∷ c.inverse_substituted_word-4.ensures i ∷ []) ∙ inverse_round_words b c.args.s h.block h.words;
}
