-- What is kept stands in front.
use Rattle.std.proofs.Common.{◌≡◌, ◌+◌, ◌-◌, length, take, drop, sym, ap, ◌∙◌, arith, length-drop, length-take-le, min}
use lib.Seq.{paste}
use Rattle.std.proofs.lemmas.List.{drop-take}
use Rattle.std.proofs.lemmas.List.Edits.{take-paste}
use Rattle.reading_list.proofs.PageLines.{kept_front}
use Rattle.reading_list.proofs.page.Page.give_up.Goals as goal

pub returns : goal.returns
returns c =
    let all = c.self.inside.bytes in
    let end = c.self.inside.end in
    let from = c.args.count in
    let kept = c.min-kept.result in
    let size : length c.args.self.now ≡ end = ap length (sym c.self.view_is) ∙ length-take-le end all (omega (arith, c.self.invariant, c.self.told)) in
    let is : kept ≡ min 8194 (end - from) = c.min-kept.ensures in
    let same : kept ≡ 0 + kept = omega arith in
    let whole : from + (end - from) ≡ end = omega (arith, c.requires) in
    ap (take kept) c.copy_within.ensures.after ∙ ap (λ k. take kept (paste all 0 (drop from all) k)) (let so : from + kept - from ≡ kept = omega arith in so)
    ∙ ap (λ k. take k (paste all 0 (drop from all) kept)) same
    ∙ take-paste all 0 (drop from all) kept (omega arith) (omega (arith, c.self.invariant, c.self.told, length-drop from all))
    ∙ kept_front (drop from all) kept (end - from) is
    ∙ ap (take 8194) (sym (drop-take from (end - from) all) ∙ ap (λ k. drop from (take k all)) whole ∙ ap (drop from) c.self.view_is)
