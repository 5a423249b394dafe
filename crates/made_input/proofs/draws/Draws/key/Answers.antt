use Rattle.std.proofs.Common.{◌+◌, length, ap, ◌∙◌, refl, arith}
use Rattle.made_input.specs.Draws.{draw_of, key_behind}
use Rattle.made_input.proofs.Drawing.{stepped, sixteen}
use Rattle.made_input.proofs.draws.Draws.key.Goals as goal

pub returns-clause-state : goal.returns-clause-state
returns-clause-state c = λ number n is.
    let one = stepped number n (n + 1) _ _ c.draw.ensures.state is refl in
    let two = stepped number (n + 1) (n + 2) _ _ c.draw-2.ensures.state one (omega arith) in
    let three = stepped number (n + 2) (n + 3) _ _ c.draw-3.ensures.state two (omega arith) in
    stepped number (n + 3) (n + 4) _ _ c.draw-4.ensures.state three (omega arith)

pub returns-clause-key : goal.returns-clause-key
unfolding key_behind
returns-clause-key c = λ number n is.
    let one = stepped number n (n + 1) _ _ c.draw.ensures.state is refl in
    let two = stepped number (n + 1) (n + 2) _ _ c.draw-2.ensures.state one (omega arith) in
    let three = stepped number (n + 2) (n + 3) _ _ c.draw-3.ensures.state two (omega arith) in
    let four = stepped number (n + 3) (n + 4) _ _ c.draw-4.ensures.state three (omega arith) in
    sixteen c.draw.result c.draw-2.result c.draw-3.result c.draw-4.result _ _ _ _ (ap length c.draw.ensures.drawn)
    (ap length c.draw-2.ensures.drawn)
    (ap length c.draw-3.ensures.drawn) (ap length c.draw-4.ensures.drawn) (c.draw.ensures.drawn ∙ ap draw_of one)
    (c.draw-2.ensures.drawn ∙ ap draw_of two)
    (c.draw-3.ensures.drawn ∙ ap draw_of three) (c.draw-4.ensures.drawn ∙ ap draw_of four)
