use Rattle.std.specs.Prelude.{codes}
use Rattle.json.specs.Print.{escape_byte}
use Rattle.serde_json.specs.Data.{string}
use Rattle.report_text.specs.Readings.{members}
use Rattle.report_text.proofs.MembersPut.{no_more, and_known, and_member, and_text, object_put}
use Rattle.step_text.specs.Lines.{counts_members}
use Rattle.step_text.proofs.counting.put_counts.Goals as goal

pub returns : goal.returns
unfolding escape_byte
returns g c =
    object_put (members (counts_members c.args.counts c.args.ended))
    (and_member (codes "bad") c.put_text.ensures c.put_number.ensures
    (and_text (codes "end") c.put_text-2.ensures c.put_ended.ensures
    (and_known (codes "kind") (string (codes "counts"))
    (and_member (codes "lines") c.put_text-3.ensures c.put_number-2.ensures
    (and_member (codes "own") c.put_text-4.ensures c.put_number-3.ensures
    (and_member (codes "strangers") c.put_text-5.ensures c.put_number-4.ensures
    (and_member (codes "unframed") c.put_text-6.ensures c.put_number-5.ensures
    (no_more c.put_text-7.ensures))))))))
