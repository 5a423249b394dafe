use Rattle.std.proofs.Common.{◌≡◌, ℕ, ◌<◌, List, ap, ◌∙◌, arith}
use Rattle.std.proofs.lemmas.List.Elements.{All-cons, All-from_get_or}
use Rattle.dif_vif.specs.Reading.{next_of}
use Rattle.full_spans.proofs.Blocks.{copied_front, same_read}
use Rattle.full_spans.proofs.heads.head_span.Goals as goal

pub returns-clause-exact : goal.returns-clause-exact
returns-clause-exact c = λ lvar h.
    c.next_record.ensures.exact
    ∙ (ap (λ (xs : List ℕ). next_of xs 0) (copied_front _ _ c.args.rest.now _ _ c.min-count.ensures c.copy_from_slice.ensures.after)
    ∙ same_read c.args.dif lvar c.args.rest.now
    (All-cons (λ (b : ℕ). b < 256) c.args.dif c.args.rest.now (omega (arith, c.ranges.dif)) (All-from_get_or (λ (b : ℕ). b < 256) c.args.rest.now 0 (λ i within. omega (arith, c.type_inv.rest i)))) h)
