use Rattle.std.proofs.Common.{[], ◌∷◌, ◌∙◌}
use Rattle.aes_block.proofs.Cipher.{IsBlock-shift_rows, IsBlock-sub_bytes}
use Rattle.aes_block.proofs.ColumnWords.{last_words}
use Rattle.aes_block.proofs.rounds.last_round.Goals as goal

pub returns : goal.returns
returns c b h = record {
  block = IsBlock-shift_rows _ (IsBlock-sub_bytes b h.block);
  words = (λ i. c.substituted_word.ensures i ∷ c.substituted_word-2.ensures i ∷ c.substituted_word-3.ensures i
      ∷ c.substituted_word-4.ensures i ∷ []) ∙ last_words b c.args.s h.block h.words;
}
