use Rattle.std.proofs.Common.{◌∙◌, sym, refl, arith, true, false, None}
use Rattle.plain_text.proofs.Plain.{plain_number, no_number, written}
use Rattle.plain_text.proofs.numbers.read_number.Goals as goal

pub returns-then-has_plain_form-clause-exact : goal.returns-then-has_plain_form-clause-exact
returns-then-has_plain_form-clause-exact c =
    c.value_up_to.ensures ∙ plain_number c.args.most c.args.text.now (sym c.has_plain_form.ensures ∙ c.if-has_plain_form.true)

pub returns-then-has_plain_form-clause-written : goal.returns-then-has_plain_form-clause-written
returns-then-has_plain_form-clause-written c =
    let plain = sym c.has_plain_form.ensures ∙ c.if-has_plain_form.true in
    written c.args.most c.args.text.now (omega arith) true plain c.value_up_to.result c.value_up_to.ensures

pub returns-else-has_plain_form-clause-exact : goal.returns-else-has_plain_form-clause-exact
returns-else-has_plain_form-clause-exact c =
    no_number c.args.most c.args.text.now (sym c.has_plain_form.ensures ∙ c.if-has_plain_form.false)

pub returns-else-has_plain_form-clause-written : goal.returns-else-has_plain_form-clause-written
returns-else-has_plain_form-clause-written c =
    let plain = sym c.has_plain_form.ensures ∙ c.if-has_plain_form.false in
    written c.args.most c.args.text.now (omega arith) false plain None refl
