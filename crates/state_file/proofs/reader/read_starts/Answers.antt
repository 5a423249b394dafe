use Rattle.std.proofs.Common.{◌≡◌, Ok, IfOk, IfErr, ap, sym, subst, ◌∙◌}
use Rattle.state_file.specs.Whole.{starts_of}
use Rattle.state_file.specs.Reading.{IsFaultOf}
use Rattle.state_file.proofs.StateLines.{lines_missing, lines_end, lines_by, starts_fault}
use Rattle.state_file.proofs.reader.read_starts.Goals as goal

pub returns-in-Err-clause-fault : goal.returns-in-Err-clause-fault
returns-in-Err-clause-fault c =
    c.lines.invariant
    ∙ lines_missing _ _ _ _ c.in-Err.ensures.entry.0 c.in-Err.ensures.entry.1

pub returns-then-is_end-clause-found : goal.returns-then-is_end-clause-found
returns-then-is_end-clause-found c =
    let all = c.lines.invariant
    ∙ lines_end _ _ _ _ _ c.in-Ok.ensures.entry (sym c.is_end.ensures ∙ c.if-is_end.true) in
    subst (λ r. IfOk c.read_end.result (λ starts. r ≡ Ok starts.items)) (sym all) c.read_end.ensures.found

pub returns-then-is_end-clause-fault : goal.returns-then-is_end-clause-fault
returns-then-is_end-clause-fault c =
    let all = c.lines.invariant
    ∙ lines_end _ _ _ _ _ c.in-Ok.ensures.entry (sym c.is_end.ensures ∙ c.if-is_end.true) in
    subst (λ r. IfErr c.read_end.result (λ fault. IsFaultOf r fault)) (sym all) c.read_end.ensures.fault

pub lines-preserved : goal.lines-preserved
lines-preserved c =
    c.lines.invariant
    ∙ lines_by _ _ _ _ _ _ c.in-Ok.ensures.entry (sym c.is_end.ensures ∙ c.if-is_end.false) c.in-Ok-read.ensures.ok
    ∙ ap (starts_of c.read.new.self c.next.new.self.entries) (sym c.in-Ok.ensures.end)

pub returns-in-Err-read-clause-fault : goal.returns-in-Err-read-clause-fault
returns-in-Err-read-clause-fault c =
    subst (λ r. IsFaultOf r c.in-Err-read.fault) (sym c.lines.invariant)
    (starts_fault _ _ _ _ _ _ c.in-Ok.ensures.entry (sym c.is_end.ensures ∙ c.if-is_end.false) c.in-Err-read.ensures.fault)
