use Rattle.std.proofs.Common.{◌≡◌, ◌<◌, ◌+◌, ◌*◌, ℕ, List, [], ◌∷◌, get_or, sym, ap, ◌∙◌, subst, arith, add-zero}
use Rattle.aes_block.specs.Block.{IsBlock, round_key}
use Rattle.aes_block.proofs.Cipher.{IsBlock-round_key}
use Rattle.aes_block.specs.Words.{words_of, first_key}
use Rattle.aes_block.proofs.RoundWords.{round_word_at}
use Rattle.aes_block.proofs.Keys.round_words.Goals as goal

pub returns : goal.returns
returns c =
    let key : List ℕ = c.args.self.now in
    let n : ℕ = c.args.n in
    let words : List ℕ = c.self.inside.words in
    let is_key : IsBlock key = let P : List ℕ → Type 0 = λ k. IsBlock k in subst P c.self.view_is c.self.invariant.key in
    let at : (j : ℕ) → j < 4 → get_or words (4 * n + j) 0 ≡ get_or (words_of (round_key key n)) j 0 =
    λ j lt. ap (λ ws. get_or ws (4 * n + j) 0) c.self.invariant.whole ∙ round_word_at 11 (first_key words) n j c.requires lt
    ∙ ap (λ x. get_or (words_of (round_key x n)) j 0) c.self.view_is in
    let first = ap (λ p. get_or words p 0) (sym (add-zero (4 * n))) ∙ at 0 (omega arith) in
    record {
      block = IsBlock-round_key key n is_key;
      words = λ i. first i ∷ at 1 (omega arith) i ∷ at 2 (omega arith) i ∷ at 3 (omega arith) i ∷ [];
    }
