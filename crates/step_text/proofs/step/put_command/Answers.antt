use Rattle.std.specs.Prelude.{codes}
use Rattle.json.specs.Print.{escape_byte}
use Rattle.serde_json.specs.Data.{string}
use Rattle.report_text.specs.Readings.{members}
use Rattle.report_text.proofs.MembersPut.{no_more, and_known, and_member, and_text, object_put}
use Rattle.step_text.specs.Lines.{event_word, command_members}
use Rattle.step_text.proofs.Words.{as_word}
use Rattle.step_text.proofs.step.put_command.Goals as goal

pub returns : goal.returns
unfolding escape_byte
returns g c =
    let a = c.args in
    object_put (members (command_members a.line a.address (event_word a.event.now) a.outcome.now a.id))
    (and_text (codes "address") c.put_text.ensures c.put_address.ensures
    (and_text (codes "event") c.put_text-2.ensures c.put_event.ensures
    (and_member (codes "id") c.put_text-3.ensures c.put_number.ensures
    (and_known (codes "kind") (string (codes "step"))
    (and_member (codes "line") c.put_text-4.ensures c.put_number-2.ensures
    (and_text (codes "outcome") c.put_text-5.ensures (as_word c.requires c.put_text-6.ensures)
    (no_more c.put_text-7.ensures)))))))
