use Rattle.std.proofs.Common.{refl}
use Rattle.paper.proofs.Calls.{then}
use Rattle.report_text.proofs.PlainTexts.{fault_plain}
use Rattle.report_text.proofs.MembersPut.{inside}
use Rattle.report_text.proofs.entries.put_words.Goals as goal

pub returns : goal.returns
returns g c =
    let words = inside (fault_plain c.args.fault c.show_byte.ensures) refl c.put_fault_words.ensures in
    then c.put_text.ensures (then words c.put_text-2.ensures)
