use Rattle.std.proofs.Common.{◌≡◌, false, true, List, map, length, option_copied, ap, sym, subst, arith, rules}
use Rattle.lists.specs.Each.{IsFirst}
use Rattle.line_reader.specs.Lines.{is_over}
use Rattle.meter_address.specs.Address.{AreApart}
use Rattle.meter_slots.specs.Journal.{Start}
use Rattle.audit_check_main.proofs.Verdicts.{verdict_by}
use Rattle.audit_check_main.proofs.auditing.verdict_on.Goals as goal

pub audit_readable-requires-clause-apart : goal.audit_readable-requires-clause-apart
audit_readable-requires-clause-apart c =
    subst (λ (starts : List Start). AreApart (map (λ s. s.address) starts)) (sym c.into_starts.ensures.starts) c.into_starts.ensures.room.apart

pub audit_readable-requires-clause-few : goal.audit_readable-requires-clause-few
audit_readable-requires-clause-few c =
    let many = ap length c.into_starts.ensures.starts in let few = c.into_starts.ensures.room.few in omega arith

pub returns-in-Some : goal.returns-in-Some
returns-in-Some c =
    let first : IsFirst (λ input. is_over input ≡ false) (λ input. is_over input ≡ true) c.in-Some.w c.args.inputs.now = search rules in
    record { verdict = (c.in-Ok.state, c.in-Ok.ensures.found, first) }

pub returns-in-None : goal.returns-in-None
returns-in-None c = record {
  verdict = verdict_by c.audit_readable.result c.in-Ok.state c.own-own.result c.into_starts.result.items c.args.state.now
      (option_copied c.args.next) c.args.report.now c.args.inputs.now c.own-own.ensures
      c.into_starts.ensures.starts c.in-Ok.ensures.found c.audit_readable.ensures;
}
