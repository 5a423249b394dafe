use Rattle.std.proofs.Common.{◌≡◌, ◌+◌, ◌*◌, ◌-◌, ◌++◌, ℕ, List, length, refl, sym, ap, ap₂, ◌∙◌, arith, add-one}
use Rattle.std.proofs.lemmas.List.{length-append, length-take, length-drop}
use Rattle.std.proofs.lemmas.Slice.{take-put_mid}
use Rattle.aes_block.specs.Block.{round_key}
use Rattle.aes_block.specs.Words.{AreWordsOf, words_of, round_words}
use Rattle.aes_block.proofs.RoundWords.{expanded_of}
use Rattle.aes_block.proofs.Keys.new.Goals as goal

pub loop-n-init : goal.loop-n-init
unfolding round_words round_key
loop-n-init c =
    let e : c.copy_from_slice.new.self ≡ words_of c.args.key.now = c.copy_from_slice.ensures.after ∙ c.loaded-last.ensures.words in
    (rw e refl, c.loaded-last.ensures, rw e refl)

pub loop-n-preserved : goal.loop-n-preserved
unfolding round_words round_key
loop-n-preserved c =
    let key : List ℕ = c.args.key.now in
    let n : ℕ = c.loop-n.n in
    let next : AreWordsOf c.next_words-last.result (round_key key (n + 1)) =
    rw (add-one n) (c.next_words-last.ensures _ c.loop-n.invariant.1) in
    let written : c.copy_from_slice-in-loop-n.new.self ≡ words_of (round_key key (n + 1)) =
    c.copy_from_slice-in-loop-n.ensures.after ∙ next.words in
    let four : length c.copy_from_slice-in-loop-n.new.self ≡ 4 = ap length written in
    let long : length c.loop-n.words ≡ 44 = c.loop-n.invariant.0 in (
      simp (length-append, length-take, length-drop) (omega (arith, four, long)),
      next,
      take-put_mid (4 * n + 4) (4 * n + 8 - (4 * n + 4)) c.loop-n.words c.copy_from_slice-in-loop-n.new.self (4 * (n + 1) + 4)
          (omega (arith, four)) (omega (arith, long))
          ∙ ap₂ (λ (x y : List ℕ). x ++ y) c.loop-n.invariant.2 written
          ∙ ap (λ m. round_words m key) (sym (add-one (n + 1))),
    )

pub invariant_of-result : goal.invariant_of-result
invariant_of-result c =
    (expanded_of c.loop-n.words c.args.key.now c.loop-n.n c.loaded-last.ensures.block (omega arith)
    c.loop-n.invariant.0 c.loop-n.invariant.2).0

pub returns : goal.returns
returns c =
    (expanded_of c.loop-n.words c.args.key.now c.loop-n.n c.loaded-last.ensures.block (omega arith)
    c.loop-n.invariant.0 c.loop-n.invariant.2).1
