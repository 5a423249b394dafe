use Rattle.meter_address.specs.declared.address.Address.{Address}
use Rattle.std.proofs.Common.{ℕ, ◌∙◌, length, Ok, None, Some, ap, sym, arith, rules}
use Rattle.std.proofs.lemmas.Bool.{cond-false, ne_eqb}
use Rattle.meter_address.specs.Address.{address_of}
use Rattle.meter_address.proofs.Texts.{address_of_decoded, fault_is, no_fault, read_is, decoded, refused, spelt-len}
use Rattle.meter_address.proofs.address.Address.read_text.Goals as goal

pub returns-then-text-ne16-clause-only : goal.returns-then-text-ne16-clause-only
returns-then-text-ne16-clause-only c = λ a fits h. absurd (c.if-text-ne16.true (spelt-len c.args.text.now a h))

pub fault_of-requires : goal.fault_of-requires
fault_of-requires c =
    let r = refused c.args.text.now c.in-Err.refusal c.if-text-ne16.false (decoded c.args.text.now _ _ c.if-text-ne16.false
    c.in-Err.ensures.value) in
    (_, r.0, r.1)

pub returns-in-Err : goal.returns-in-Err
returns-in-Err c =
    let read = decoded c.args.text.now _ _ c.if-text-ne16.false c.in-Err.ensures.value in
    let r = refused c.args.text.now c.in-Err.refusal c.if-text-ne16.false read in record {
      found = search rules;
      only = search rules;
      fault = λ f. rw (c.fault_of.ensures _ r.0 r.1) (fault_is c.args.text.now _ f (c.if-text-ne16.false, r.2));
      exact = sym (address_of_decoded c.args.text.now _ c.if-text-ne16.false read);
    }

pub returns-in-Ok : goal.returns-in-Ok
returns-in-Ok c =
    let text = c.args.text.now in
    let a = c.from_bytes.result in
    let read = decoded text _ _ c.if-text-ne16.false c.in-Ok.ensures.value in
    let spelt = read ∙ ap Ok (sym c.from_bytes.ensures.again) in record {
      found = spelt;
      only = λ b fits h. read_is text a b (omega arith) fits spelt h;
      fault = λ f. no_fault text a f spelt;
      exact = ap (λ (n : ℕ). let made : Address = record { 0 = n } in Some made) c.from_bytes.ensures.value
          ∙ sym (address_of_decoded text _ c.if-text-ne16.false read);
    }

pub returns-then-text-ne16-clause-exact : goal.returns-then-text-ne16-clause-exact
unfolding address_of
returns-then-text-ne16-clause-exact c = sym (cond-false _ _ None (ne_eqb (length c.args.text.now) 16 c.if-text-ne16.true))
