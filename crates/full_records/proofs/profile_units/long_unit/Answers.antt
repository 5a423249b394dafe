use Rattle.std.proofs.Common.{sym, ◌∙◌}
use Rattle.full_spans.proofs.Found.{first_vife-from_full}
use Rattle.full_records.proofs.Places.{from_top}
use Rattle.full_records.proofs.UnitPlaces.{coded_is, long_span_maker, plain_is}
use Rattle.full_records.proofs.profile_units.long_unit.Goals as goal

pub bounds-bytes-span : goal.bounds-bytes-span
bounds-bytes-span c =
    (first_vife-from_full c.args.bytes.now c.args.span.now c.requires.stands
    (long_span_maker c.args.bytes.now c.args.span.now c.requires.stands c.requires.long)
    (from_top c.args.span.now.vif (sym c.announces_code.ensures ∙ c.if-announces_code.true))).1

pub returns-then-announces_code : goal.returns-then-announces_code
returns-then-announces_code c =
    c.placed.ensures ∙ (c.unit_of_code-found.ensures _ _
    ∙ coded_is c.args.bytes.now c.args.span.now (long_span_maker c.args.bytes.now c.args.span.now c.requires.stands c.requires.long)
    (sym c.announces_code.ensures ∙ c.if-announces_code.true))

pub returns : goal.returns
returns c =
    c.placed-2.ensures ∙ (c.unit_of_code-found-2.ensures _ _
    ∙ plain_is c.args.bytes.now c.args.span.now (long_span_maker c.args.bytes.now c.args.span.now c.requires.stands c.requires.long)
    (sym c.announces_code.ensures ∙ c.if-announces_code.false))
