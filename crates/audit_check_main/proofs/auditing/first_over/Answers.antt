-- The first input past the limits stands behind those within.
use Rattle.std.proofs.Common.{◌≡◌, ◌∙◌, true, false, sym}
use Rattle.line_reader.specs.Lines.{is_over}
use Rattle.audit_check_main.proofs.Firsts.{stops_at}
use Rattle.audit_check_main.proofs.auditing.first_over.Goals as goal

pub returns-then-is_over : goal.returns-then-is_over
returns-then-is_over c =
    stops_at (λ input. is_over input ≡ false) (λ input. is_over input ≡ true)
    c.loop-place.place c.args.inputs.now c.index-inputs-place.result c.loop-place-test.true c.index-inputs-place.is c.loop-place.invariant
    (sym c.is_over.ensures ∙ c.if-is_over.true)
