use Rattle.std.proofs.Common.{refl}
use Rattle.std.specs.Prelude.{codes}
use Rattle.json.specs.Print.{escape_byte}
use Rattle.report_text.specs.Readings.{members, record_members}
use Rattle.report_text.proofs.PlainTexts.{function_plain, quantity_plain, name_plain, value_plain}
use Rattle.report_text.proofs.MembersPut.{inside, no_more, and_member, and_text, object_put}
use Rattle.report_text.proofs.entries.put_record.Goals as goal

pub returns : goal.returns
unfolding escape_byte
returns g c =
    let u = c.args.unit in
    object_put (members (record_members c.args.payload.now c.args.span.now u c.args.value))
    (and_member (codes "exponent") c.put_text.ensures c.put_exponent.ensures
    (and_text (codes "function") c.put_text-2.ensures
    (inside (function_plain c.args.span.now.function) c.function_word.ensures c.put_text-3.ensures)
    (and_text (codes "modifiers") c.put_text-4.ensures c.put_part.ensures
    (and_text (codes "quantity") c.put_text-5.ensures
    (inside (quantity_plain u.quantity) c.quantity_word.ensures c.put_text-6.ensures)
    (and_text (codes "raw") c.put_text-7.ensures c.put_part-2.ensures
    (and_member (codes "storage") c.put_text-8.ensures c.put_number.ensures
    (and_member (codes "subunit") c.put_text-9.ensures c.put_number-2.ensures
    (and_member (codes "tariff") c.put_text-10.ensures c.put_number-3.ensures
    (and_text (codes "unit") c.put_text-11.ensures
    (inside (name_plain u.name) c.name_word.ensures c.put_text-12.ensures)
    (and_text (codes "value") c.put_text-13.ensures (inside (value_plain c.args.value) refl c.put_value.ensures)
    (no_more c.put_text-14.ensures)))))))))))
