use Rattle.std.proofs.Common.{[], ◌∷◌, ◌∙◌}
use Rattle.aes_block.proofs.Cipher.{IsBlock-inverse_mix_columns}
use Rattle.aes_block.proofs.ColumnWords.{words_mixed_back}
use Rattle.aes_block.proofs.rounds.inverse_mixed_words.Goals as goal

pub returns : goal.returns
returns c b h = record {
  block = IsBlock-inverse_mix_columns b h.block;
  words = (λ i. c.inverse_mixed_word.ensures i ∷ c.inverse_mixed_word-2.ensures i ∷ c.inverse_mixed_word-3.ensures i
      ∷ c.inverse_mixed_word-4.ensures i ∷ []) ∙ words_mixed_back b c.args.s h.block h.words;
}
