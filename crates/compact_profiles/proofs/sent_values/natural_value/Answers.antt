use Rattle.std.proofs.Common.{◌^◌, ◌<◌, ◌≤◌, leb, Some, length, sym, ap, ◌∙◌, arith, pos, ℤ}
use Rattle.std.specs.Int.{w128}
use Rattle.std.proofs.lemmas.Bool.{le-leb, cond-true, cond-false}
use Rattle.std.proofs.lemmas.Int.{ints, to_z_pos}
use Rattle.record_values.proofs.Whole.{limit_below}
use Rattle.compact_profiles.specs.SentValues.{are_ones}
use Rattle.compact_profiles.proofs.sent_values.natural_value.Goals as goal

pub overflow_cast-result : goal.overflow_cast-result
overflow_cast-result c =
    let few : length c.args.sent.now ≤ 15 = omega arith in
    omega (arith, ints, limit_below (length c.args.sent.now) few)

pub returns : goal.returns
returns c =
    let few : length c.args.sent.now ≤ 15 = omega arith in
    let fits : c.unsigned_of.result < 2 ^ 127 = omega (arith, limit_below (length c.args.sent.now) few) in
    ap (λ (z : ℤ). Some z) (to_z_pos w128 c.unsigned_of.result fits ∙ ap pos c.unsigned_of.ensures.value)
    ∙ sym (cond-true (leb c.args.field 7) _ _ (le-leb c.args.field 7 c.if-field-gt7.false)
    ∙ cond-false (are_ones c.args.sent.now) _ _ (sym c.are_ones.ensures ∙ c.if-are_ones.false))
