use Rattle.std.proofs.Common.{sym, ap}
use Rattle.std.specs.Prelude.{codes}
use Rattle.json.specs.Print.{escape_byte}
use Rattle.serde_json.specs.Data.{string}
use Rattle.serde_json.specs.Written.{compact_text}
use Rattle.paper.proofs.Items.{is_put}
use Rattle.report_text.specs.Readings.{members}
use Rattle.report_text.proofs.MembersPut.{no_more, and_known, and_member, and_text, object_put}
use Rattle.step_text.specs.Causes.{reason_cause}
use Rattle.step_text.specs.Lines.{event_word, values_tree, refused_members}
use Rattle.step_text.proofs.Words.{as_found}
use Rattle.step_text.proofs.step.put_refused.Goals as goal

pub returns : goal.returns
unfolding escape_byte
returns g c =
    let a = c.args in
    let said = c.reason_cause-values.ensures in
    let cause = reason_cause a.reason in
    let values = is_put _ _ (ap (λ vs. compact_text (values_tree vs)) (sym said.values)) c.put_values.ensures in
    object_put (members (refused_members a.line a.address (event_word a.event.now) cause))
    (and_text (codes "address") c.put_text.ensures c.put_address.ensures
    (and_text (codes "event") c.put_text-2.ensures c.put_event.ensures
    (and_known (codes "kind") (string (codes "step"))
    (and_member (codes "line") c.put_text-3.ensures c.put_number.ensures
    (and_known (codes "outcome") (string (codes "refused"))
    (and_text (codes "reason") c.put_text-4.ensures
    (as_found cause.word said.word said.plain c.put_text-5.ensures)
    (and_member (codes "values") c.put_text-6.ensures values
    (no_more c.put_text-7.ensures))))))))
