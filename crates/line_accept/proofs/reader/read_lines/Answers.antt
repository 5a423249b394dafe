use Rattle.std.proofs.Common.{◌≡◌, Ok, IfOk, IfErr, ap, sym, subst, ◌∙◌}
use Rattle.line_accept.specs.SendersFile.{senders_from}
use Rattle.line_accept.specs.Reading.{IsFaultOf}
use Rattle.line_accept.proofs.SendersLines.{senders_missing, senders_end, senders_next, senders_fault}
use Rattle.line_accept.proofs.reader.read_lines.Goals as goal

pub returns-in-Err-clause-fault : goal.returns-in-Err-clause-fault
returns-in-Err-clause-fault c =
    c.lines.invariant
    ∙ senders_missing _ _ _ _ c.in-Err.ensures.entry.0 c.in-Err.ensures.entry.1

pub returns-then-is_end-clause-found : goal.returns-then-is_end-clause-found
returns-then-is_end-clause-found c =
    let all = c.lines.invariant
    ∙ senders_end _ _ _ _ _ c.in-Ok.ensures.entry (sym c.is_end.ensures ∙ c.if-is_end.true) in
    subst (λ r. IfOk c.read_end.result (λ senders. r ≡ Ok senders)) (sym all) c.read_end.ensures.found

pub returns-then-is_end-clause-fault : goal.returns-then-is_end-clause-fault
returns-then-is_end-clause-fault c =
    let all = c.lines.invariant
    ∙ senders_end _ _ _ _ _ c.in-Ok.ensures.entry (sym c.is_end.ensures ∙ c.if-is_end.true) in
    subst (λ r. IfErr c.read_end.result (λ fault. IsFaultOf r fault)) (sym all) c.read_end.ensures.fault

pub lines-preserved : goal.lines-preserved
lines-preserved c =
    c.lines.invariant
    ∙ senders_next _ _ _ _ _ _ c.in-Ok.ensures.entry (sym c.is_end.ensures ∙ c.if-is_end.false) c.in-Ok-add_line.ensures.ok
    ∙ ap (senders_from c.add_line.new.senders c.next.new.self.entries) (sym c.in-Ok.ensures.end)

pub returns-in-Err-add_line-clause-fault : goal.returns-in-Err-add_line-clause-fault
returns-in-Err-add_line-clause-fault c =
    subst (λ r. IsFaultOf r c.in-Err-add_line.fault) (sym c.lines.invariant)
    (senders_fault _ _ _ _ _ _ c.in-Ok.ensures.entry (sym c.is_end.ensures ∙ c.if-is_end.false) c.in-Err-add_line.ensures.fault)
