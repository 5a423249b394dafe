-- Closes the ends of `hear_lines`, and each turn of its loop.
use Rattle.std.proofs.Common.{◌≡◌, ◌+◌, ◌++◌, ◌∷◌, [], ℕ, refl, sym, ap, ◌∙◌, subst, arith}
use Rattle.line_reader.specs.Lines.{all_lines}
use Rattle.line_reader.specs.Reader.{given}
use Rattle.meter_slots.specs.declared.counts.Counts.{Counts}
use Rattle.meter_slots.specs.declared.counts.Ended.TheVariants as ends
use Rattle.receivers.specs.Classes.{class_by}
use Rattle.receivers.specs.Run.{hearing, lines_taken}
use Rattle.receivers.specs.Slots.{Hears}
use Rattle.receivers.proofs.Numbers.{are_few, lines_counted, rose_since, has_heard, ended_told, ended_memory, ended_unsent}
use Rattle.receivers.proofs.Onward.{far_first, more_heard, far_next, far_unsent, hears_to}
use Rattle.receivers.proofs.hearing.hear_lines.Goals as goal
use Rattle.receivers.proofs.hearing.hear_lines.Goals.{In-Ok-hear_told}

pub lines-init : goal.lines-init
lines-init g c = record {
  goes_on = c.requires.goes_on;
  few = omega (arith, c.requires.fresh);
  at = ap (λ (n : Counts). n.lines) c.requires.counts ∙ sym c.requires.fresh;
  later = omega arith;
  bytes = λ tells. refl;
  ready = c.requires.ready;
  fixed = refl;
  so = far_first (g.P.Slots.makes (g.P.Slots.fixed c.args.slots.now)) g.S.Source.tells
      (g.P.Slots.directory (g.P.Slots.fixed c.args.slots.now)) (all_lines (g.S.Source.taken c.args.lines.now.source))
      c.args.lines.now.line c.args.counts.now (c.args.slots.now, c.args.tx.now) c.requires.fresh c.requires.counts;
}

pub count-requires : goal.count-requires
count-requires g c =
    let so = c.lines.invariant.so in let directory = g.P.Slots.directory (g.P.Slots.fixed c.args.slots.now) in
    let n = lines_counted directory so.heard c.lines.counts so.so.counts_are in let at = c.lines.invariant.at in
    let few = c.lines.invariant.few in
    are_few directory so.heard c.lines.counts so.so.counts_are (omega arith)

pub returns-in-Err-clause-heard : goal.returns-in-Err-clause-heard
returns-in-Err-clause-heard g c =
    let f = g.P.Slots.fixed c.args.slots.now in
    let inv = c.lines.invariant in let so = inv.so in let e = c.in-Err.ensures in
    let h = hearing g.S.Source c.args.lines.now.source c.next_told.new.lines.source c.lines.counts c.in-Err.ended in record {
      heard = so.heard;
      has_heard = has_heard (g.P.Slots.directory f) h (given g.S.Source.taken c.lines.lines) so.heard so.so
          (ended_told h (given g.S.Source.taken c.lines.lines) c.next_told.new.lines.line (e.same ∙ sym inv.at) e.ended)
          (λ fault. rose_since (g.S.Source.faults c.args.lines.now.source) (g.S.Source.faults c.lines.lines.source)
          (g.S.Source.faults c.next_told.new.lines.source) inv.later (e.cause fault)) (omega (arith, inv.later, e.later))
          (λ tells. e.bytes tells ∙ inv.bytes tells);
      hears = hears_to (g.P.Slots.makes f) (g.P.Slots.waits f) c.in-Err.ended so.heard (c.args.slots.now, c.args.tx.now)
          (c.lines.slots, c.lines.tx) e.never so.hears;
    }

pub returns-in-Err-hear_told-clause-heard : goal.returns-in-Err-hear_told-clause-heard
returns-in-Err-hear_told-clause-heard g c =
    let f = g.P.Slots.fixed c.args.slots.now in
    let inv = c.lines.invariant in let so = inv.so in let e = c.in-Ok.ensures in let at = inv.at in
    let h = hearing g.S.Source c.args.lines.now.source c.next_told.new.lines.source c.lines.counts ends.Memory in record {
      heard = so.heard;
      has_heard = has_heard (g.P.Slots.directory f) h (given g.S.Source.taken c.lines.lines) so.heard so.so
          (ended_memory (g.P.Slots.directory f) h (given g.S.Source.taken c.lines.lines)
          (given g.S.Source.taken c.next_told.new.lines) so.heard c.in-Ok.told refl so.so e.told
          (ap (λ (n : ℕ). lines_taken n (g.S.Source.taken c.next_told.new.lines.source)) (e.goes_on.0 ∙ ap (λ n. n + 1) (sym at))))
          (λ fault. absurd cc) (omega (arith, inv.later, e.later)) (λ tells. e.bytes tells ∙ inv.bytes tells);
      hears = (
        (c.lines.slots, c.lines.tx),
        so.hears,
        subst (λ (f : g.P.Slots.Fixed). g.P.Slots.waits f (c.lines.slots, c.lines.tx) (c.hear_told.new.slots, c.hear_told.new.tx)) inv.fixed
            c.in-Err-hear_told.ensures.memory,
      );
    }

-- what the line did, and its class, over what was fixed when the loop began
class_is : (g : _) (c : In-Ok-hear_told g)
    → c.in-Ok-hear_told.heard.class ≡ class_by (g.P.Slots.directory (g.P.Slots.fixed c.args.slots.now)) c.in-Ok.told
class_is g c = subst (λ (f : g.P.Slots.Fixed). c.in-Ok-hear_told.heard.class ≡ class_by (g.P.Slots.directory f) c.in-Ok.told)
    c.lines.invariant.fixed c.in-Ok-hear_told.ensures.class

hears : (g : _) (c : In-Ok-hear_told g)
    → Hears (g.P.Slots.makes (g.P.Slots.fixed c.args.slots.now)) (c.lines.counts.lines + 1) c.in-Ok.told c.in-Ok-hear_told.heard.sent
    (c.lines.slots, c.lines.tx) (c.hear_told.new.slots, c.hear_told.new.tx)
hears g c = subst (λ (f : g.P.Slots.Fixed). Hears (g.P.Slots.makes f) (c.lines.counts.lines + 1) c.in-Ok.told c.in-Ok-hear_told.heard.sent
    (c.lines.slots, c.lines.tx) (c.hear_told.new.slots, c.hear_told.new.tx)) c.lines.invariant.fixed c.in-Ok-hear_told.ensures.hears

pub returns-in-Err-sent-clause-heard : goal.returns-in-Err-sent-clause-heard
returns-in-Err-sent-clause-heard g c =
    let f = g.P.Slots.fixed c.args.slots.now in let k = (goal.at.returns-in-Err-sent-clause-heard g c).In-Ok-hear_told in
    let inv = c.lines.invariant in let so = inv.so in let e = c.in-Ok.ensures in let at = inv.at in
    let old = given g.S.Source.taken c.lines.lines in let new = given g.S.Source.taken c.next_told.new.lines in
    let h = hearing g.S.Source c.args.lines.now.source c.next_told.new.lines.source c.count.result ends.TxFault in
    let new_is : given g.S.Source.taken c.next_told.new.lines ≡ lines_taken c.count.result.lines
    (g.S.Source.taken c.next_told.new.lines.source) =
    ap (λ (n : ℕ). lines_taken n (g.S.Source.taken c.next_told.new.lines.source)) (e.goes_on.0
    ∙ (ap (λ n. n + 1) (sym at) ∙ sym (ap (λ (n : Counts). n.lines) c.count.ensures))) in record {
      heard = so.heard ++ c.in-Ok.told ∷ [];
      has_heard = has_heard (g.P.Slots.directory f) h new (so.heard ++ c.in-Ok.told ∷ [])
          (more_heard _ _ _ old new _ _ _ _ _ (c.lines.counts.lines + 1) _ _ so refl e.told (class_is g k) c.count.ensures _ (hears g k))
          (ended_unsent h old new c.in-Ok.told refl e.told new_is)
          (λ fault. absurd cc) (omega (arith, inv.later, e.later)) (λ tells. e.bytes tells ∙ inv.bytes tells);
      hears = far_unsent _ _ _ old new _ _ _ _ _ (c.lines.counts.lines + 1) _ _ so refl e.told (class_is g k) c.count.ensures _ (hears g k)
          c.in-Err-sent.field-0 c.in-Err-sent.is;
    }

pub lines-preserved : goal.lines-preserved
lines-preserved g c =
    let k = (goal.at.lines-preserved g c).In-Ok-hear_told in
    let inv = c.lines.invariant in let e = c.in-Ok.ensures in let f = g.P.Slots.fixed c.args.slots.now in record {
      goes_on = e.goes_on.1;
      few = e.few;
      at = ap (λ (n : Counts). n.lines) c.count.ensures ∙ (let at = inv.at in ap (λ n. n + 1) at ∙ sym e.goes_on.0);
      later = omega (arith, inv.later, e.later);
      bytes = λ tells. e.bytes tells ∙ inv.bytes tells;
      ready = c.hear_told.ensures.ready;
      fixed = c.hear_told.ensures.fixed ∙ inv.fixed;
      so = far_next _ _ _ (given g.S.Source.taken c.lines.lines) (given g.S.Source.taken c.next_told.new.lines) _ _ _ _ _
          (c.lines.counts.lines + 1) _ _ inv.so refl e.told (class_is g k) c.count.ensures _ (hears g k) c.in-Ok-sent.field-0 c.in-Ok-sent.is;
    }
