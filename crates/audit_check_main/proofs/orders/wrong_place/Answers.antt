use Rattle.std.proofs.Common.{sym, refl, subst, arith}
use Rattle.audit_check_main.proofs.OrderChecks.{wrong_at, wrong_end, none_taken, taken_there, taken_all, same_place}
use Rattle.audit_check_main.specs.Cursors.{HaveTaken}
use Rattle.audit_check_main.specs.Hearing.{numbers_in_list}
use Rattle.audit_check_main.specs.Order.{IsWrongAt}
use Rattle.audit_check_main.proofs.orders.wrong_place.Goals as goal

pub returns-then-not-take_next-clause-wrong : goal.returns-then-not-take_next-clause-wrong
returns-then-not-take_next-clause-wrong c = λ place e.
    subst (IsWrongAt (numbers_in_list c.args.heard.now c.args.list) c.args.order.now) (same_place _ _ e)
    (wrong_at (numbers_in_list c.args.heard.now c.args.list)
    c.args.order.now c.loop-place.taken.items c.loop-place.place _ c.loop-place-test.true refl c.loop-place.invariant.so
    (c.take_next.ensures.other c.if-not-take_next.true _ c.loop-place.invariant.so))

pub loop-place-init : goal.loop-place-init
loop-place-init c = record {
  count = c.in_ok-taken.ensures.len;
  so = none_taken (numbers_in_list c.args.heard.now c.args.list) _ c.in_ok-taken.taken.items
      (c.in_ok-taken.ensures.items_if_clones_equal (λ _ same. same));
}

pub loop-place-preserved : goal.loop-place-preserved
loop-place-preserved c = record {
  count = c.take_next.ensures.count;
  so = taken_there (numbers_in_list c.args.heard.now c.args.list) c.args.order.now c.take_next.new.taken.items c.loop-place.place _
      c.loop-place-test.true refl (c.take_next.ensures.next c.if-not-take_next.false _ c.loop-place.invariant.so);
}

pub returns-then-are_all_taken-clause-right : goal.returns-then-are_all_taken-clause-right
returns-then-are_all_taken-clause-right c = λ e.
    let past = c.loop-place-test.false in
    let inside = c.loop-place.auto.place-end in
    let so = taken_all (numbers_in_list c.args.heard.now c.args.list) c.args.order.now c.loop-place.taken.items c.loop-place.place
    (omega arith) c.loop-place.invariant.so in
    c.are_all_taken.ensures.all c.if-are_all_taken.true c.args.order.now
    (subst (HaveTaken (numbers_in_list c.args.heard.now c.args.list) c.args.order.now) (sym c.as_slice.ensures.value) so)

pub returns-clause-wrong : goal.returns-clause-wrong
returns-clause-wrong c = λ place e.
    let past = c.loop-place-test.false in
    let inside = c.loop-place.auto.place-end in
    let so = taken_all (numbers_in_list c.args.heard.now c.args.list) c.args.order.now c.loop-place.taken.items c.loop-place.place
    (omega arith) c.loop-place.invariant.so in
    subst (IsWrongAt (numbers_in_list c.args.heard.now c.args.list) c.args.order.now) (same_place _ _ e)
    (wrong_end (numbers_in_list c.args.heard.now c.args.list) c.args.order.now c.loop-place.taken.items so
    (c.are_all_taken.ensures.missing c.if-are_all_taken.false c.args.order.now
    (subst (HaveTaken (numbers_in_list c.args.heard.now c.args.list) c.args.order.now) (sym c.as_slice.ensures.value) so)))
