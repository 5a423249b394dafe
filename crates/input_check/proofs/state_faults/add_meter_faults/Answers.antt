use Rattle.std.proofs.Common.{◌∷◌, ◌++◌, [], ap, sym, ◌∙◌, append_assoc}
use Rattle.state_file.specs.Whole.{at_line, read_more}
use Rattle.input_check.specs.StateFaults.{faults_in}
use Rattle.input_check.proofs.StateFaults.{named, left_there}
use Rattle.input_check.proofs.StateLines.{lines_missing, lines_end, lines_by}
use Rattle.input_check.proofs.state_faults.add_meter_faults.Goals as goal

pub returns-in-Err : goal.returns-in-Err
returns-in-Err c =
    c.in_ok-push-in-Err.ensures.items
    ∙ sym (c.lines.invariant ∙ ap (λ fs. c.lines.faults.items ++ fs)
    (lines_missing _ _ _ _ c.in-Err.ensures.entry.0 c.in-Err.ensures.entry.1))

pub returns-then-is_end : goal.returns-then-is_end
returns-then-is_end c =
    c.in_ok-add_behind.ensures
    ∙ sym (c.lines.invariant ∙ ap (λ fs. c.lines.faults.items ++ fs)
    (lines_end _ _ _ _ _ c.in-Ok.ensures.entry (sym c.is_end.ensures ∙ c.if-is_end.true)))

pub lines-preserved-in-Ok-read : goal.lines-preserved-in-Ok-read
lines-preserved-in-Ok-read c =
    c.lines.invariant ∙ ap (λ fs. c.lines.faults.items ++ fs)
    (lines_by _ _ _ _ _ _ c.in-Ok.ensures.entry (sym c.is_end.ensures ∙ c.if-is_end.false) c.in-Ok-read.ensures.ok
    ∙ ap (faults_in c.read.new.self c.next.new.self.entries) (sym c.in-Ok.ensures.end))

pub lines-preserved : goal.lines-preserved
lines-preserved c =
    let fault = c.in-Err-read.fault in
    let read = at_line c.in-Ok.entry.line (read_more c.lines.meters c.in-Ok.entry.text.now) in
    let other = c.in_ok-add_fault-in-Err-read.ensures.named in
    let left = left_there fault c.read.new.self _ other c.in-Err-read.ensures.left in
    let others = faults_in c.read.new.self c.next.new.self.entries c.next.new.self.end in
    c.lines.invariant ∙ ap (λ fs. c.lines.faults.items ++ fs)
    (lines_by _ _ _ _ _ _ c.in-Ok.ensures.entry (sym c.is_end.ensures ∙ c.if-is_end.false) (named read fault other c.in-Err-read.ensures.fault)
    ∙ ap (λ p. fault ∷ faults_in p c.next.new.self.entries c.lines.entries.end) (sym left)
    ∙ ap (λ n. fault ∷ faults_in c.read.new.self c.next.new.self.entries n) (sym c.in-Ok.ensures.end))
    ∙ sym (append_assoc c.lines.faults.items (fault ∷ []) others) ∙ ap (λ fs. fs ++ others) (sym c.in_ok-add_fault-in-Err-read.ensures.added)
