-- Each step is that of the slot whose journal has the printed order, and a stray line is none of its own.
use Rattle.std.proofs.Common.{◌≡◌, ◌∙◌, ℕ, List, map, take, refl, sym, ap, subst, arith}
use Rattle.meter_slots.specs.declared.entry.Entry.{Entry}
use Rattle.meter_slots.specs.Journal.{SlotView}
use Rattle.meter_address.specs.declared.address.Address.{Address}
use Rattle.receivers.specs.declared.told.Told.TheVariants as told
use Rattle.receivers.proofs.OrderLaws.{slot_exists}
use Rattle.audit_check_main.specs.Hearing.{tells, told_at}
use Rattle.audit_check_main.specs.Stepping.{IsEventFor}
use Rattle.lists.proofs.Members.{each_more, each_whole}
use Rattle.audit_check_main.proofs.SteppedLines.{same_slot}
use Rattle.audit_check_main.proofs.Steps.{step_told, step_more, all_stepped}
use Rattle.audit_check_main.proofs.stepping.step_meter.Goals as goal

pub returns-in_default-clause-stray : goal.returns-in_default-clause-stray
returns-in_default-clause-stray c = λ _ right.
    let target = slot_exists c.args.own c.args.start (map tells c.args.heard.now) c.args.order.now right in
    let t = step_told c.args.own c.args.heard.now c.args.start c.args.order.now target.0 target.1 c.loop-pair.pair-index _
    c.loop-pair-test.true refl in
    c.in_default.not-Event t.told_is.0 t.item.event (c.told_at.ensures ∙ t.told_is.1.0)

pub returns-then-address-mine-clause-stray : goal.returns-then-address-mine-clause-stray
returns-then-address-mine-clause-stray c = λ _ right.
    let target = slot_exists c.args.own c.args.start (map tells c.args.heard.now) c.args.order.now right in
    let t = step_told c.args.own c.args.heard.now c.args.start c.args.order.now target.0 target.1 c.loop-pair.pair-index _
    c.loop-pair-test.true refl in
    let both : told.Event c.in-Event.address c.in-Event.event ≡ told.Event t.told_is.0 t.item.event =
    sym (sym c.told_at.ensures ∙ c.in-Event.is) ∙ t.told_is.1.0 in
    let same : c.in-Event.address ≡ t.told_is.0 = cc in
    let opened = ap (λ (a : Address). a.0) c.address-mine.ensures in
    let there = ap (λ (a : Address). a.0) same in
    let mine = t.told_is.1.1 in c.if-address-mine.true (omega arith)

pub loop-pair-init : goal.loop-pair-init
loop-pair-init c = record {
  so = λ target h. c.new-steps.ensures.stepped c.args.paper.now;
  own_lines = tt;
  steps_are = c.new-steps.ensures.steps;
  few = let none = c.new-steps.ensures.readings in omega arith;
}

pub step-requires-clause-steps : goal.step-requires-clause-steps
step-requires-clause-steps c =
    let so = c.loop-pair.invariant.steps_are in let inside = c.loop-pair-test.true in omega arith

pub loop-pair-preserved : goal.loop-pair-preserved
loop-pair-preserved c =
    let so = c.loop-pair.invariant in record {
      so = λ target h.
          let now : SlotView = record {
            own = c.args.own;
            start = c.args.start;
            journal = take c.loop-pair.pair-index target.journal;
          } in
          same_slot _ _ _ _ _
          (ap (λ (js : List Entry). let v : SlotView = record { own = c.args.own; start = c.args.start; journal = js } in v)
          (step_more c.args.own c.args.heard.now c.args.start c.args.order.now target h c.loop-pair.pair-index _ c.in-Event.address
          c.in-Event.event c.loop-pair-test.true refl (sym c.told_at.ensures ∙ c.in-Event.is)))
          (c.in_ok-step.ensures.stepped now _ (so.so target h));
      own_lines =
          each_more (λ (p : ℕ × ℕ). IsEventFor c.args.start.address (told_at c.args.heard.now p.0 p.1)) c.args.order.now
          c.loop-pair.pair-index _ (0, 0) so.own_lines c.loop-pair-test.true refl
          (subst (IsEventFor c.args.start.address) (sym c.in-Event.is ∙ c.told_at.ensures)
          (let opened = ap (λ (a : Address). a.0) c.address-mine.ensures in
          let same = c.if-address-mine.false in omega arith));
      steps_are = let more = c.in_ok-step.ensures.steps in let before = so.steps_are in omega arith;
      few = c.in_ok-step.ensures.readings;
    }

pub returns-clause-stepped : goal.returns-clause-stepped
returns-clause-stepped c = λ target h.
    let past = c.loop-pair-test.false in let inside = c.loop-pair.auto.pair-index-end in
    same_slot _ _ _ _ _
    (all_stepped c.args.own c.args.heard.now c.args.start c.args.order.now target h c.loop-pair.pair-index (omega arith))
    (c.loop-pair.invariant.so target h)

pub returns-clause-own_lines : goal.returns-clause-own_lines
returns-clause-own_lines c =
    let past = c.loop-pair-test.false in let inside = c.loop-pair.auto.pair-index-end in
    each_whole (λ (p : ℕ × ℕ). IsEventFor c.args.start.address (told_at c.args.heard.now p.0 p.1)) c.args.order.now
    c.loop-pair.pair-index (omega arith) c.loop-pair.invariant.own_lines
