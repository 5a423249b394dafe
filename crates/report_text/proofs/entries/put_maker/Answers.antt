use Rattle.std.specs.Prelude.{codes}
use Rattle.json.specs.Print.{escape_byte}
use Rattle.report_text.specs.Readings.{members, maker_members}
use Rattle.report_text.proofs.MembersPut.{no_more, and_text, object_put}
use Rattle.report_text.proofs.entries.put_maker.Goals as goal

pub returns : goal.returns
unfolding escape_byte
returns g c =
    object_put (members (maker_members c.args.payload.now c.args.span.now))
    (and_text (codes "maker") c.put_text.ensures c.put_digits.ensures
    (and_text (codes "raw") c.put_text-2.ensures c.put_part.ensures
    (no_more c.put_text-3.ensures)))
