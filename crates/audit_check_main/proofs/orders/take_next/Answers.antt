-- A pair is taken where it is the next line of its receiver, and is wrong where it isn't.
use Rattle.std.proofs.Common.{◌≡◌, ◌+◌, ◌-◌, ◌∙◌, ◌++◌, ◌∷◌, [], ap, sym, set, subst, arith}
use Rattle.std.specs.List.{slice_get}
use Rattle.std.proofs.lemmas.List.{get_or_read}
use Rattle.audit_check_main.specs.Cursors.{HaveTaken}
use Rattle.audit_check_main.specs.Hearing.{numbers_in_list}
use Rattle.audit_check_main.proofs.OrderChecks.{taken_next, not_next, no_receiver, nothing_from, number_there, number_other, some_few}
use Rattle.audit_check_main.proofs.orders.take_next.Goals as goal

pub returns-then-source-eq0-clause-other : goal.returns-then-source-eq0-clause-other
returns-then-source-eq0-clause-other c = λ _ order so next.
    no_receiver (numbers_in_list c.args.heard.now c.args.list) order c.args.taken.now.items so c.args.pair.0 c.args.pair.1
    (ap (numbers_in_list c.args.heard.now c.args.list) c.if-source-eq0.true) next

pub returns-then-source-len-clause-other : goal.returns-then-source-len-clause-other
returns-then-source-len-clause-other c = λ _ order so next.
    let long = c.len.ensures in let past = c.if-source-len.true in let same = c.requires in
    no_receiver (numbers_in_list c.args.heard.now c.args.list) order c.args.taken.now.items so c.args.pair.0 c.args.pair.1
    (nothing_from c.args.heard.now c.args.list c.args.pair.0 (omega arith)) next

pub returns-then-ne-clause-other : goal.returns-then-ne-clause-other
returns-then-ne-clause-other c = λ _ order so next.
    let some = c.if-source-eq0.false in
    let place : c.args.pair.0 ≡ c.args.pair.0 - 1 + 1 = omega arith in
    let len = c.args.taken.now.ok.0 in let long = c.len.ensures in let inside = c.if-source-len.false in
    not_next (numbers_in_list c.args.heard.now c.args.list) order c.args.taken.now.items so (c.args.pair.0 - 1)
    c.args.pair.0 c.args.pair.1 place
    (λ e. number_other c.number_at.result c.args.pair.1 c.ne.result c.ne.ensures c.if-ne.true
    (c.number_at.ensures.number
    ∙ (ap (slice_get (numbers_in_list c.args.heard.now c.args.list (c.args.pair.0 - 1 + 1)))
    (get_or_read c.args.taken.now.items (c.args.pair.0 - 1) c.index-count.result.now (omega arith) c.index-count.ensures 0) ∙ e))) next

pub overflow_add-count : goal.overflow_add-count
overflow_add-count c =
    let there = number_there c.number_at.result c.args.pair.1 c.ne.result c.ne.ensures c.if-ne.false in
    let few = some_few c.number_at.result c.args.pair.1 there c.number_at.ensures.few in omega arith

pub returns-clause-next : goal.returns-clause-next
returns-clause-next c = λ _ order so.
    let some = c.if-source-eq0.false in
    let place : c.args.pair.0 ≡ c.args.pair.0 - 1 + 1 = omega arith in
    let len = c.args.taken.now.ok.0 in let long = c.len.ensures in let inside = c.if-source-len.false in
    let count = get_or_read c.args.taken.now.items (c.args.pair.0 - 1) c.index-count.result.now (omega arith) c.index-count.ensures 0 in
    let there = number_there c.number_at.result c.args.pair.1 c.ne.result c.ne.ensures c.if-ne.false in
    subst (λ n. HaveTaken (numbers_in_list c.args.heard.now c.args.list) (order ++ c.args.pair ∷ [])
    (set c.args.taken.now.items (c.args.pair.0 - 1) (n + 1))) (sym count)
    (taken_next (numbers_in_list c.args.heard.now c.args.list) order c.args.taken.now.items so (c.args.pair.0 - 1)
    c.args.pair.0 c.args.pair.1 place (omega arith)
    (ap (slice_get (numbers_in_list c.args.heard.now c.args.list (c.args.pair.0 - 1 + 1))) (sym count)
    ∙ (sym c.number_at.ensures.number ∙ there)))
