use Rattle.std.proofs.Common.{[], ◌∷◌, get_or, bit_xor, sym, ◌∙◌}
use Rattle.aes_block.proofs.Cipher.{IsBlock-add}
use Rattle.aes_block.proofs.ColumnWords.{words_of-add}
use Rattle.aes_block.proofs.rounds.added.Goals as goal

pub returns : goal.returns
returns c b k h g = record {
  block = IsBlock-add b k h.block g.block;
  words =
      (λ i. bit_xor (get_or (h.words i) 0 0) (get_or (g.words i) 0 0) ∷ bit_xor (get_or (h.words i) 1 0) (get_or (g.words i) 1 0)
      ∷ bit_xor (get_or (h.words i) 2 0) (get_or (g.words i) 2 0) ∷ bit_xor (get_or (h.words i) 3 0) (get_or (g.words i) 3 0) ∷ [])
      ∙ sym (words_of-add b k h.block g.block);
}
