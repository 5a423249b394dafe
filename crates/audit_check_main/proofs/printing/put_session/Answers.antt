use Rattle.std.proofs.Common.{◌≡◌, ◌∙◌, ℕ, Err, List, [], length, get_or, map, ap, sym, subst, arith, rules}
use Rattle.std.proofs.lemmas.Result.{err_from_is_err_and}
use Rattle.meter_address.specs.Address.{AreApart}
use Rattle.meter_slots.specs.Journal.{Start}
use Rattle.receivers.specs.Orders.{IsOrderOfStrangers, AreOrderedStrangers}
use Rattle.lists.specs.Each.{Each}
use Rattle.audit_check_main.specs.declared.hearing.Sort.TheVariants as sorts
use Rattle.audit_check_main.specs.Hearing.{tells, told_at, sort_of}
use Rattle.audit_check_main.proofs.Claimed.{listed_all, stray_from}
use Rattle.audit_check_main.proofs.Prints.{session_put}
use Rattle.audit_check_main.proofs.Slots.{order_there}
use Rattle.audit_check_main.proofs.printing.put_session.Goals as goal

pub put_meters-requires-clause-apart : goal.put_meters-requires-clause-apart
put_meters-requires-clause-apart c = subst AreApart c.requires.directory c.requires.apart

pub returns-in_err-strangers-clause-stray : goal.returns-in_err-strangers-clause-stray
returns-in_err-strangers-clause-stray c = λ stray right.
    let p = err_from_is_err_and c.from_residual-in_err-strangers.result c.from_residual-in_err-strangers.ensures.1 in
    let e = stray_from c.from_residual-in_err-strangers.result p.0 c.in_err-strangers.field-0.0 p.1 p.2 stray in
    let long = c.requires.long in
    let many : c.len.result ≡ length c.args.meters.items = search rules in
    let order =
    order_there c.args.lists.now c.len.result c.pairs-order.result.now c.index-lists-len.result (omega arith)
    c.pairs-order.ensures c.index-lists-len.is ∙ ap (λ (n : ℕ). get_or c.args.lists.now n []) many in
    c.in_err-strangers.ensures.stray (ap Err e)
    (subst (λ (m : List Start). IsOrderOfStrangers m (map tells c.args.heard.now) c.pairs-order.result.now) (sym c.as_slice-2.ensures.value)
    (subst (λ (o : List (ℕ × ℕ)). IsOrderOfStrangers c.args.meters.items (map tells c.args.heard.now) o) (sym order) right.strangers_list))

pub returns-clause-put : goal.returns-clause-put
returns-clause-put c = λ right.
    let long = c.requires.long in
    let many : c.len.result ≡ length c.args.meters.items = search rules in
    let order =
    order_there c.args.lists.now c.len.result c.pairs-order.result.now c.index-lists-len.result (omega arith)
    c.pairs-order.ensures c.index-lists-len.is ∙ ap (λ (n : ℕ). get_or c.args.lists.now n []) many in
    session_put c.args.own c.args.meters.items c.args.heard.now c.args.lists.now c.args.paper.now c.put_head.new.paper
    c.put_meters.new.paper c.put_strangers.new.paper c.put_end.new.paper c.args.next.now c.put_state_head.new.paper c.put_meters.new.next
    c.put_text.new.paper c.as_slice.result.now c.pairs-order.result.now
    c.in_ok-strangers.strangers c.show_own.ensures c.requires.few (subst AreApart c.requires.directory c.requires.apart)
    (c.as_slice.ensures.value ∙ c.in_ok-ends.ensures) c.put_head.ensures c.put_state_head.ensures
    (c.in_ok-put_meters.ensures.put right.meters_lists) order
    (subst (λ (m : List Start). AreOrderedStrangers m (map tells c.args.heard.now) c.pairs-order.result.now c.in_ok-strangers.strangers)
    c.as_slice-2.ensures.value
    (c.in_ok-strangers.ensures.strangers
    (subst (λ (m : List Start). IsOrderOfStrangers m (map tells c.args.heard.now) c.pairs-order.result.now) (sym c.as_slice-2.ensures.value)
    (subst (λ (o : List (ℕ × ℕ)). IsOrderOfStrangers c.args.meters.items (map tells c.args.heard.now) o) (sym order) right.strangers_list))))
    c.put_strangers.ensures c.put_end.ensures c.put_text.ensures

pub returns-clause-own_lines : goal.returns-clause-own_lines
returns-clause-own_lines c =
    let long = c.requires.long in
    let many : c.len.result ≡ length c.args.meters.items = search rules in
    let slice = c.as_slice-2.ensures.value in
    listed_all c.args.heard.now c.args.lists.now c.args.meters.items c.args.directory.now c.pairs-order.result.now c.requires.directory
    (order_there c.args.lists.now c.len.result c.pairs-order.result.now c.index-lists-len.result (omega arith)
    c.pairs-order.ensures c.index-lists-len.is ∙ ap (λ (n : ℕ). get_or c.args.lists.now n []) many)
    c.in_ok-put_meters.ensures.own_lines
    (subst (λ (m : List Start). Each (λ p. sort_of c.args.directory.now (told_at c.args.heard.now p.0 p.1) ≡ sorts.Listed (length m))
    c.pairs-order.result.now) slice c.in_ok-strangers.ensures.own_lines)
