use Rattle.std.proofs.Common.{◌≡◌, ◌<◌, ◌++◌, ℕ, List, length, drop, ap, ap₂, sym, ◌∙◌, arith, append-nil}
use Rattle.std.proofs.Math.ListN.{set}
use Rattle.std.proofs.lemmas.List.{drop_all}
use Rattle.aes_block.specs.Block.{add}
use Rattle.cbc_cmac.specs.Mac.{doubled, zeros}
use Rattle.cbc_cmac.proofs.Macs.{masked_whole, masked_short, padded_is}
use Rattle.cbc_cmac.proofs.mac.masked.Goals as goal

pub returns-then-used-eq16 : goal.returns-then-used-eq16
returns-then-used-eq16 c key h =
    let last : List ℕ = c.args.last.now in
    let whole : length last ≡ 16 = c.if-used-eq16.true in
    let block : c.copy_from_slice.new.self ++ drop (length last) zeros ≡ last =
    ap₂ (λ (x y : List ℕ). x ++ y) c.copy_from_slice.ensures.after (drop_all (length last) zeros (omega arith)) ∙ append-nil last in
    c.add_block.ensures
    ∙ ap₂ add block h
    ∙ sym (masked_whole key last whole)

pub returns-else-used-eq16 : goal.returns-else-used-eq16
returns-else-used-eq16 c key h =
    let last : List ℕ = c.args.last.now in
    let short : length last < 16 = omega arith in
    c.add_block-else-used-eq16.ensures
    ∙ ap₂ add (ap (λ (x : List ℕ). set (x ++ drop (length last) zeros) (length last) 0x80) c.copy_from_slice.ensures.after
    ∙ padded_is last short)
    (c.doubled.ensures ∙ ap doubled h)
    ∙ sym (masked_short key last short)
