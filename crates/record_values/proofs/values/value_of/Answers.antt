use Rattle.std.proofs.Common.{◌%◌, take, ap, ◌∙◌, arith}
use Rattle.std.proofs.lemmas.Bool.{cond-false, ne_eqb}
use Rattle.dif_vif.proofs.Spans.{LiesWithin-from_span}
use Rattle.record_values.specs.declared.units.Unit.{Unit}
use Rattle.record_values.specs.declared.values.Reading.TheVariants as readings
use Rattle.record_values.proofs.ValueCases.{unread_as}
use Rattle.record_values.proofs.values.value_of.Goals as goal

pub split_at-requires : goal.split_at-requires
split_at-requires c = let places = LiesWithin-from_span c.args.bytes.now c.args.span.now c.requires in omega arith

pub split_at-requires-2 : goal.split_at-requires-2
split_at-requires-2 c = let places = LiesWithin-from_span c.args.bytes.now c.args.span.now c.requires in omega arith

pub returns-in-Day-2 : goal.returns-in-Day-2
returns-in-Day-2 c =
    unread_as readings.Day c.args.bytes.now c.split_at-2.result.0.now c.args.span.now _ _ (ap (λ (u : Unit). u.quantity) c.unit_of.ensures)
    c.in-Day-2.ensures (cond-false _ _ _ (ne_eqb (c.args.span.now.dif % 16) 2 c.if-span-eq2.false)) (c.split_at-2.ensures.front
    ∙ ap (take c.args.span.now.data_len) c.split_at.ensures.back) c.unread-in-Day-2.ensures

pub returns-in-Moment-2 : goal.returns-in-Moment-2
returns-in-Moment-2 c =
    unread_as readings.Moment c.args.bytes.now c.split_at-2.result.0.now c.args.span.now _ _ (ap (λ (u : Unit). u.quantity) c.unit_of.ensures)
    c.in-Moment-2.ensures (cond-false _ _ _ (ne_eqb (c.args.span.now.dif % 16) 4 c.if-span-eq4.false)) (c.split_at-2.ensures.front
    ∙ ap (take c.args.span.now.data_len) c.split_at.ensures.back) c.unread-in-Moment-2.ensures
