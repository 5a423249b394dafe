use Rattle.std.proofs.Common.{◌≤◌, length, drop, get_or, sym, ap, subst, ◌∙◌, arith}
use Rattle.made_input.specs.Streams.{IsPlace, place_in_all}
use Rattle.made_input.proofs.Pieces.{nothing_read, piece_read}
use Rattle.made_input.proofs.streams.HeardTextSource.read.Goals as goal

pub returns-in_default-clause-end : goal.returns-in_default-clause-end
returns-in_default-clause-end c = λ tells none.
    let at = c.next_place-piece.result in
    let same = ap (λ ps. place_in_all (λ p. p.items) ps at.0 at.1) (sym c.deref.ensures.value) ∙ c.next_place-piece.ensures.same
    ∙ ap (λ ps. place_in_all (λ p. p.items) ps c.self.inside.piece c.self.inside.at) c.deref.ensures.value in
    nothing_read (λ p. p.items) c.self.inside.pieces.items at.0 at.1 _ c.args.self.now c.self.view_is same
    (omega (arith, c.in_default.ensures.lookup.3, ap length c.deref-2.ensures.value))

pub returns-clause-ok : goal.returns-clause-ok
returns-clause-ok c = λ tells.
    let at = c.next_place-piece.result in
    let place = subst (λ ps. IsPlace (λ p. p.items) ps at.0 at.1) c.deref.ensures.value c.next_place-piece.ensures.place in
    let same = ap (λ ps. place_in_all (λ p. p.items) ps at.0 at.1) (sym c.deref.ensures.value) ∙ c.next_place-piece.ensures.same
    ∙ ap (λ ps. place_in_all (λ p. p.items) ps c.self.inside.piece c.self.inside.at) c.deref.ensures.value in
    let few : c.copy_front-count.result ≤ length c.split_at.result.1.now = omega (arith, c.copy_front-count.ensures.count) in
    piece_read (λ p. p.items) c.self.inside.pieces.items at.0 at.1 _ c.copy_front-count.result c.args.self.now c.in-Some.bytes.now
    c.split_at.result.1.now _ c.self.view_is place same
    (omega (arith, c.in-Some.ensures.lookup.3.0, ap length c.deref-2.ensures.value))
    (c.in-Some.ensures.lookup.1 ∙ ap (λ ps. get_or ps at.0 c.in-Some.bytes.now) c.deref-2.ensures.value)
    (c.split_at.ensures.back ∙ ap (drop at.1) c.deref-3.ensures.value) few c.copy_front-count.ensures.front
