use Rattle.std.proofs.Common.{[], ◌∷◌, ◌∙◌}
use Rattle.aes_block.proofs.Cipher.{IsBlock-mix_columns, IsBlock-shift_rows, IsBlock-sub_bytes}
use Rattle.aes_block.proofs.ColumnWords.{forward_words}
use Rattle.aes_block.proofs.rounds.forward_round.Goals as goal

pub returns : goal.returns
returns c b h = record {
  block = IsBlock-mix_columns _ (IsBlock-shift_rows _ (IsBlock-sub_bytes b h.block));
  words = (λ i. c.mixed_word.ensures i ∷ c.mixed_word-2.ensures i ∷ c.mixed_word-3.ensures i ∷ c.mixed_word-4.ensures i ∷ [])
      ∙ forward_words b c.args.s h.block h.words;
}
