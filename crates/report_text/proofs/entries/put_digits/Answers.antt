use Rattle.std.proofs.Common.{refl, arith}
use Rattle.report_text.proofs.PlainTexts.{hex_plain}
use Rattle.report_text.proofs.MembersPut.{inside}
use Rattle.report_text.proofs.entries.put_digits.Goals as goal

pub returns : goal.returns
returns g c = inside (hex_plain c.args.bytes.now (λ i. omega (arith, c.type_inv.bytes i))) refl c.put_hex.ensures
