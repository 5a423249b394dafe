use Rattle.std.proofs.Common.{◌≡◌, ◌<◌, ◌∙◌, ◌+◌, ℕ, Err, List, [], map, take, length, get_or, refl, ap, sym, subst, arith}
use Rattle.std.proofs.Math.Seq.{take-length}
use Rattle.std.proofs.lemmas.Iterator.Adapters.{YieldsList-from_vec}
use Rattle.std.proofs.lemmas.Iterator.Consumers.{YieldsList-turn, YieldsList-end}
use Rattle.std.proofs.lemmas.List.{length_push}
use Rattle.std.proofs.lemmas.Result.{err_from_is_err_and}
use Rattle.meter_slots.specs.Journal.{Start}
use Rattle.receivers.specs.Orders.{IsOrderOf}
use Rattle.audit_check_main.specs.Hearing.{tells}
use Rattle.audit_check_main.specs.Printing.{IsMeterPut, AreMetersPut}
use Rattle.audit_check_main.proofs.Claimed.{listed_more, stray_from}
use Rattle.audit_check_main.proofs.Prints.{no_meters, meters_more}
use Rattle.audit_check_main.proofs.Slots.{order_at, order_there}
use Rattle.audit_check_main.proofs.printing.put_meters.Goals as goal

pub loop-start-init : goal.loop-start-init
loop-start-init c = record {
  count = refl;
  put = λ right. no_meters c.args.own (map tells c.args.heard.now) c.args.lists.now _;
  own_lines = λ list below. absurd (omega arith);
}

pub bounds-lists-list : goal.bounds-lists-list
bounds-lists-list c =
    let begun = c.into_iter-start-iterator.ensures.into_iter_gives in
    let all = YieldsList-from_vec {s = c.into_iter-start-iterator.result} c.args.meters.items begun.0 (begun.1 ∙ c.args.meters.ok.0) in
    let turn = YieldsList-turn all c.loop-start.yielded _ c.loop-start.yielded_by _ c.next.new.self c.in-Some.start c.in-Some.is
    c.next.ensures.steps in
    let inside = turn.0 in let count = c.loop-start.invariant.count in let few = c.requires.lists in omega arith

pub returns-in_err-put_meter-clause-stray : goal.returns-in_err-put_meter-clause-stray
returns-in_err-put_meter-clause-stray c = λ stray right.
    let begun = c.into_iter-start-iterator.ensures.into_iter_gives in
    let all = YieldsList-from_vec {s = c.into_iter-start-iterator.result} c.args.meters.items begun.0 (begun.1 ∙ c.args.meters.ok.0) in
    let turn = YieldsList-turn all c.loop-start.yielded _ c.loop-start.yielded_by _ c.next.new.self c.in-Some.start c.in-Some.is
    c.next.ensures.steps in
    let count : c.loop-start.list ≡ length c.loop-start.yielded = c.loop-start.invariant.count in
    let turns = turn.0 in
    let inside : c.loop-start.list < length c.args.meters.items = omega arith in
    let is : c.in-Some.start ≡ get_or c.args.meters.items c.loop-start.list c.in-Some.start =
    turn.1 ∙ ap (λ (n : ℕ). get_or c.args.meters.items n c.in-Some.start) (sym count) in
    let p = err_from_is_err_and c.from_residual.result c.from_residual.ensures.1 in
    let e = stray_from c.from_residual.result p.0 c.in_err-put_meter.field-0.0 p.1 p.2 stray in
    let few = c.requires.lists in
    let order =
    order_there c.args.lists.now c.loop-start.list c.pairs.result.now c.index-lists-list.result (omega arith)
    c.pairs.ensures c.index-lists-list.is in
    c.in_err-put_meter.ensures.stray (ap Err e)
    (subst (λ (o : List (ℕ × ℕ)). IsOrderOf c.in-Some.start.address (map tells c.args.heard.now) o) (sym order)
    (subst (λ (m : Start). IsOrderOf m.address (map tells c.args.heard.now) (get_or c.args.lists.now c.loop-start.list []))
    (sym is)
    (order_at c.args.own (map tells c.args.heard.now)
    c.args.meters.items c.args.lists.now c.loop-start.list c.in-Some.start right inside)))

pub loop-start-preserved : goal.loop-start-preserved
loop-start-preserved c =
    let begun = c.into_iter-start-iterator.ensures.into_iter_gives in
    let all = YieldsList-from_vec {s = c.into_iter-start-iterator.result} c.args.meters.items begun.0 (begun.1 ∙ c.args.meters.ok.0) in
    let turn = YieldsList-turn all c.loop-start.yielded _ c.loop-start.yielded_by _ c.next.new.self c.in-Some.start c.in-Some.is
    c.next.ensures.steps in
    let count : c.loop-start.list ≡ length c.loop-start.yielded = c.loop-start.invariant.count in
    let turns = turn.0 in
    let inside : c.loop-start.list < length c.args.meters.items = omega arith in
    let is : c.in-Some.start ≡ get_or c.args.meters.items c.loop-start.list c.in-Some.start =
    turn.1 ∙ ap (λ (n : ℕ). get_or c.args.meters.items n c.in-Some.start) (sym count) in
    let few = c.requires.lists in
    let order =
    order_there c.args.lists.now c.loop-start.list c.pairs.result.now c.index-lists-list.result (omega arith)
    c.pairs.ensures c.index-lists-list.is in
    let own_order = λ (right : _).
    subst (λ (o : List (ℕ × ℕ)). IsOrderOf c.in-Some.start.address (map tells c.args.heard.now) o) (sym order)
    (subst (λ (m : Start). IsOrderOf m.address (map tells c.args.heard.now) (get_or c.args.lists.now c.loop-start.list []))
    (sym is)
    (order_at c.args.own (map tells c.args.heard.now)
    c.args.meters.items c.args.lists.now c.loop-start.list c.in-Some.start right inside)) in record {
      count = ap (λ (n : ℕ). n + 1) count ∙ sym (length_push c.loop-start.yielded c.in-Some.start);
      put = λ right.
          meters_more c.args.own (map tells c.args.heard.now) c.args.lists.now c.args.meters.items c.loop-start.list
          c.in-Some.start _ _ _ (c.loop-start.invariant.put right) inside few is
          (subst (λ (o : List (ℕ × ℕ)). IsMeterPut c.args.own (map tells c.args.heard.now)
          c.in-Some.start o (record { report = c.loop-start.paper; next = c.loop-start.next })
          (record { report = c.put_meter.new.paper; next = c.put_meter.new.next })) order (c.in_ok-put_meter.ensures.put (own_order right)));
      own_lines =
          listed_more c.args.heard.now c.args.lists.now c.args.meters.items c.loop-start.list c.in-Some.start c.pairs.result.now
          c.requires.apart inside is order c.loop-start.invariant.own_lines c.in_ok-put_meter.ensures.own_lines;
    }

pub returns-clause-put : goal.returns-clause-put
returns-clause-put c = λ right.
    let begun = c.into_iter-start-iterator.ensures.into_iter_gives in
    let all = YieldsList-from_vec {s = c.into_iter-start-iterator.result} c.args.meters.items begun.0 (begun.1 ∙ c.args.meters.ok.0) in
    let end = YieldsList-end all c.loop-start.yielded _ c.loop-start.yielded_by _ c.next.new.self c.in-None.is c.next.ensures.steps in
    let whole : take c.loop-start.list c.args.meters.items ≡ c.args.meters.items =
    ap (λ (n : ℕ). take n c.args.meters.items) (c.loop-start.invariant.count ∙ end.1) ∙ take-length c.args.meters.items in
    subst (λ (m : List Start). AreMetersPut c.args.own (map tells c.args.heard.now) m c.args.lists.now
    (record { report = c.args.paper.now; next = c.args.next.now }) (record { report = c.loop-start.paper; next = c.loop-start.next }))
    whole (c.loop-start.invariant.put right)

pub returns-clause-own_lines : goal.returns-clause-own_lines
returns-clause-own_lines c =
    let begun = c.into_iter-start-iterator.ensures.into_iter_gives in
    let all = YieldsList-from_vec {s = c.into_iter-start-iterator.result} c.args.meters.items begun.0 (begun.1 ∙ c.args.meters.ok.0) in
    let end = YieldsList-end all c.loop-start.yielded _ c.loop-start.yielded_by _ c.next.new.self c.in-None.is c.next.ensures.steps in
    let count = c.loop-start.invariant.count in let long = end.1 in
    λ list below. c.loop-start.invariant.own_lines list (omega arith)
