use Rattle.std.proofs.Common.{sym, ap, ◌∙◌}
use Rattle.std.proofs.lemmas.Bool.{cond-false}
use Rattle.serde_json.specs.Data.{Data, object}
use Rattle.serde_json.specs.Written.{compact_text}
use Rattle.paper.proofs.Items.{is_put}
use Rattle.record_values.specs.declared.units.Unit.{Unit}
use Rattle.record_values.specs.declared.values.Value.{Value}
use Rattle.record_values.specs.Units.{unit}
use Rattle.report_text.specs.Readings.{members, record_members}
use Rattle.report_text.proofs.entries.put_span.Goals as goal

pub returns-else-span : goal.returns-else-span
returns-else-span g c =
    let payload = c.args.payload.now in
    let span = c.args.span.now in
    let tree : Unit → Value → Data = λ u v. object (members (record_members payload span u v)) in
    let are = ap (λ u. tree u c.value_of.result) c.unit_of.ensures ∙ ap (tree (unit payload span)) c.value_of.ensures in
    is_put _ _ (ap compact_text (cond-false span.maker _ _ c.if-span.false ∙ sym are)) c.put_record.ensures
