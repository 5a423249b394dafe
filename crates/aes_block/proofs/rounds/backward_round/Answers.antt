use Rattle.std.proofs.Common.{[], ◌∷◌, ◌∙◌}
use Rattle.aes_block.proofs.Cipher.{IsBlock-inverse_mix_columns, IsBlock-inverse_shift_rows, IsBlock-inverse_sub_bytes}
use Rattle.aes_block.proofs.ColumnWords.{backward_words}
use Rattle.aes_block.proofs.rounds.backward_round.Goals as goal

pub returns : goal.returns
returns c b h = record {
  block = IsBlock-inverse_mix_columns _ (IsBlock-inverse_sub_bytes _ (IsBlock-inverse_shift_rows b h.block));
  words = (λ i. c.inverse_mixed_substituted_word.ensures i ∷ c.inverse_mixed_substituted_word-2.ensures i
      ∷ c.inverse_mixed_substituted_word-3.ensures i ∷ c.inverse_mixed_substituted_word-4.ensures i ∷ [])
      ∙ backward_words b c.args.s h.block h.words;
}
