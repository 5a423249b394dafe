use Rattle.std.proofs.Common.{◌≡◌, ℕ, List, [], ◌∷◌, get_or, bit_xor, ap, ap₂, ◌∙◌, arith}
use Rattle.std.specs.Int.{w32, from_be_bytes}
use Rattle.aes_block.specs.Field.{substitute}
use Rattle.aes_block.specs.Block.{power_of_x, column}
use Rattle.aes_block.proofs.Cipher.{IsBlock-next_round_key}
use Rattle.aes_block.specs.Words.{word}
use Rattle.aes_block.proofs.ColumnWords.{bytes_at}
use Rattle.aes_block.proofs.RoundWords.{next_words_are}
use Rattle.aes_block.proofs.rounds.next_words.Goals as goal

pub returns : goal.returns
unfolding word
returns c b h =
    let bytes : c.to_be_bytes.result ≡ column b 3 = c.to_be_bytes.ensures ∙ bytes_at b c.args.k h.block h.words 3 (omega arith) in
    let s0 = c.substituted.ensures ∙ ap (λ x. substitute (get_or x 1 0)) bytes in
    let s1 = c.substituted-2.ensures ∙ ap (λ x. substitute (get_or x 2 0)) bytes in
    let s2 = c.substituted-3.ensures ∙ ap (λ x. substitute (get_or x 3 0)) bytes in
    let s3 = c.substituted-4.ensures ∙ ap (λ x. substitute (get_or x 0 0)) bytes in
    let t : c.from_be_bytes-turned.result ≡ word (bit_xor (substitute (get_or b 13 0)) (power_of_x c.args.n) ∷ substitute (get_or b 14 0)
    ∷ substitute (get_or b 15 0) ∷ substitute (get_or b 12 0) ∷ []) =
    c.from_be_bytes-turned.ensures ∙ (λ i. from_be_bytes w32 (bit_xor (s0 i) (c.round_constant.ensures i) ∷ s1 i ∷ s2 i ∷ s3 i ∷ [])) in
    record {
      block = IsBlock-next_round_key c.args.n b h.block;
      words = ap₂ (λ (k : List ℕ) (t : ℕ).
          bit_xor (get_or k 0 0) t ∷ bit_xor (get_or k 1 0) (bit_xor (get_or k 0 0) t)
          ∷ bit_xor (get_or k 2 0) (bit_xor (get_or k 1 0) (bit_xor (get_or k 0 0) t))
          ∷ bit_xor (get_or k 3 0) (bit_xor (get_or k 2 0) (bit_xor (get_or k 1 0) (bit_xor (get_or k 0 0) t))) ∷ []) h.words t
          ∙ next_words_are b c.args.n h.block;
    }
