use Rattle.std.specs.Prelude.{codes}
use Rattle.json.specs.Print.{escape_byte}
use Rattle.report_text.specs.Readings.{members}
use Rattle.report_text.proofs.MembersPut.{no_more, and_member, and_text, object_put}
use Rattle.step_text.specs.Lines.{fault_members}
use Rattle.step_text.specs.Numbers.{values_of}
use Rattle.step_text.proofs.Words.{as_word}
use Rattle.step_text.proofs.unsaid.put_fault.Goals as goal

pub returns : goal.returns
unfolding escape_byte
returns g c =
    let a = c.args in
    object_put (members (fault_members a.kind.now a.line (record { word = a.word.now; values = values_of a.values })))
    (and_text (codes "kind") c.put_text.ensures (as_word c.requires.kind c.put_text-2.ensures)
    (and_member (codes "line") c.put_text-3.ensures c.put_number.ensures
    (and_text (codes "reason") c.put_text-4.ensures (as_word c.requires.word c.put_text-5.ensures)
    (and_member (codes "values") c.put_text-6.ensures c.put_values.ensures
    (no_more c.put_text-7.ensures)))))
