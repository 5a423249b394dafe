use Rattle.std.proofs.Common.{sym, ◌∙◌, arith, w8}
use Rattle.std.proofs.lemmas.Int.{to_z-of_z}
use Rattle.full_spans.proofs.Found.{LiesWithin-from_full}
use Rattle.full_records.proofs.Plain.{width_of_data}
use Rattle.full_records.proofs.UnitPlaces.{not_long_span}
use Rattle.full_records.proofs.PlainPowers.{is_small}
use Rattle.full_records.proofs.records.plain_value.Goals as goal

pub part-sent-requires : goal.part-sent-requires
part-sent-requires c = let places = LiesWithin-from_full c.args.bytes.now c.args.span.now c.requires in omega arith

pub value_as-requires : goal.value_as-requires
value_as-requires c = rw c.part-sent.ensures (width_of_data c.args.bytes.now c.args.span.now
    (not_long_span c.args.bytes.now c.args.span.now c.requires (sym c.is_long.ensures ∙ c.if-is_long.false)) c.if-span.false)

pub returns-clause-small : goal.returns-clause-small
returns-clause-small c =
    is_small c.value_as.result c.args.data_type c.args.exponent _ _ _ _ c.value_as.ensures
    (to_z-of_z w8 c.args.exponent c.ranges.exponent) c.ranges.exponent
