use Rattle.std.specs.Prelude.{codes}
use Rattle.json.specs.Print.{escape_byte}
use Rattle.serde_json.specs.Data.{string}
use Rattle.report_text.specs.Readings.{members}
use Rattle.report_text.proofs.MembersPut.{no_more, and_known, and_member, and_text, object_put}
use Rattle.step_text.specs.Lines.{event_word, ticked_members}
use Rattle.step_text.proofs.step.put_ticked.Goals as goal

pub returns : goal.returns
unfolding escape_byte
returns g c =
    let a = c.args in
    object_put (members (ticked_members a.line a.address (event_word a.event.now) a.expired))
    (and_text (codes "address") c.put_text.ensures c.put_address.ensures
    (and_text (codes "event") c.put_text-2.ensures c.put_event.ensures
    (and_member (codes "expired") c.put_text-3.ensures c.put_number_if.ensures
    (and_known (codes "kind") (string (codes "step"))
    (and_member (codes "line") c.put_text-4.ensures c.put_number.ensures
    (and_known (codes "outcome") (string (codes "ticked"))
    (no_more c.put_text-5.ensures)))))))
