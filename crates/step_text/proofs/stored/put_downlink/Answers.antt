use Rattle.std.proofs.Common.{sym, ap}
use Rattle.std.specs.Prelude.{codes}
use Rattle.hex.specs.Hex.{encode_lower}
use Rattle.json.specs.Print.{escape_byte, escape}
use Rattle.serde_json.specs.Written.{compact_text}
use Rattle.paper.proofs.Items.{is_put}
use Rattle.report_text.specs.Readings.{members}
use Rattle.report_text.proofs.MembersPut.{no_more, and_member, and_text, object_put}
use Rattle.step_text.specs.Lines.{number_tree, sent_members}
use Rattle.step_text.proofs.stored.put_downlink.Goals as goal

pub returns : goal.returns
unfolding escape_byte
returns g c =
    let down = is_put _ _ (ap (λ n. compact_text (number_tree n)) (sym c.down.ensures)) c.put_number.ensures in
    let frame = is_put _ _ (ap (λ b. escape (encode_lower b)) (sym c.bytes.ensures.bytes)) c.put_digits.ensures in
    let id = is_put _ _ (ap (λ n. compact_text (number_tree n)) (sym c.id.ensures)) c.put_number-2.ensures in
    object_put (members (sent_members c.args.downlink.now))
    (and_member (codes "down") c.put_text.ensures down
    (and_text (codes "frame") c.put_text-2.ensures frame
    (and_member (codes "id") c.put_text-3.ensures id
    (no_more c.put_text-4.ensures))))
