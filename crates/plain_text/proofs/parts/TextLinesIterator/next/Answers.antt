use Rattle.std.proofs.Common.{◌∷◌, ◌∙◌, sym, ap, length, rules}
use Rattle.std.specs.Str.Lines.{lines}
use Rattle.std.proofs.lemmas.Option.{MatchOption-at_some}
use Rattle.plain_text.proofs.Cuts.{lines_cut}
use Rattle.plain_text.proofs.parts.TextLinesIterator.next.Goals as goal

pub returns-in-Some-clause-steps : goal.returns-in-Some-clause-steps
returns-in-Some-clause-steps c =
    let cut = MatchOption-at_some _ _ c.in-Some.rest c.in-Some.is c.cut.ensures in
    sym c.self.view_is ∙ lines_cut c.self.inside.rest.now c.cut.result.0.now c.in-Some.rest.now cut.first
    ∙ ap (λ line. line ∷ lines c.in-Some.rest.now) (sym c.without_return.ensures)

pub returns-in-Some-clause-goes : goal.returns-in-Some-clause-goes
returns-in-Some-clause-goes c = let fewer = ap length (returns-in-Some-clause-steps c) in search rules
