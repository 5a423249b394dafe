-- What a paper in memory keeps of several calls.
use Rattle.std.proofs.Common.{◌≡◌, sym, ◌∙◌, ap, append_assoc}
use Rattle.std.specs.Prelude.{ℕ, false, List, [], ◌++◌}
use Rattle.std.proofs.lemmas.List.{append-nil}
use Rattle.paper.specs.InMemory.{Kept, Keeps}
use Rattle.paper.specs.Puts.{Puts}
use Rattle.paper.proofs.Calls.{puts_have}

-- a text put on a paper in memory stands behind the paper's text
pub puts_keep : (p q : Kept) (text : List ℕ) → Puts Keeps p text q → Keeps p text q
puts_keep = puts_have Keeps Keeps (λ p off. (off, sym (append-nil p.text))) (λ p mid q text more one later off.
    let all = later off in
    let first = one all.0 in
    (first.0, all.1 ∙ ap (λ t. t ++ more) first.1 ∙ append_assoc p.text text more))

-- a text put on an empty paper is the paper's text
pub kept : (p q : Kept) (text bytes : List ℕ) → Puts Keeps p text q → p.text ≡ [] → q.failed ≡ false → bytes ≡ q.text → bytes ≡ text
kept p q text bytes puts empty off is = is ∙ (puts_keep p q text puts off).1 ∙ ap (λ t. t ++ text) empty
