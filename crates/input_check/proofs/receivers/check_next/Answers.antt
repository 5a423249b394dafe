use Rattle.std.proofs.Common.{Ok, Err}
use Rattle.std.proofs.lemmas.Result.{on_ok_weaker}
use Rattle.line_reader.specs.Reader.{given}
use Rattle.input_check.proofs.Kept.{found_more}
use Rattle.input_check.proofs.receivers.check_next.Goals as goal

pub returns-in-Ok-Line-clause-found : goal.returns-in-Ok-Line-clause-found
returns-in-Ok-Line-clause-found g c =
    let before = given g.S.Source.taken c.args.lines.now in
    let after = given g.S.Source.taken c.next.new.self in
    let number = rw c.in-Ok-Line.field-0-is at c.in-Ok-Line.ensures.number in
    on_ok_weaker c.add_line.result (λ holds tells found.
    let gives = rw c.in-Ok-Line.field-0-is at (c.in-Ok-Line.ensures.lines tells) in
    found_more before after gives.text (Ok c.in-Ok-Line.line)
    c.args.lines.now.line c.next.new.self.line c.args.found.now c.add_line.new.found gives.more gives.says number
    (λ faults addresses held. rw (← c.line.ensures.number, ← c.look_at_line.ensures) (holds faults addresses held)) found)
    c.add_line.ensures.holds

pub returns-in-Ok-Bad-clause-found : goal.returns-in-Ok-Bad-clause-found
returns-in-Ok-Bad-clause-found g c =
    let before = given g.S.Source.taken c.args.lines.now in
    let after = given g.S.Source.taken c.next.new.self in
    let number = rw c.in-Ok-Bad.field-0-is at c.in-Ok-Bad.ensures.number in
    on_ok_weaker c.add_line-in-Ok-Bad.result (λ holds tells found.
    let gives = rw c.in-Ok-Bad.field-0-is at (c.in-Ok-Bad.ensures.lines tells) in
    found_more before after gives.text (Err c.in-Ok-Bad.bad)
    c.args.lines.now.line c.next.new.self.line c.args.found.now c.add_line-in-Ok-Bad.new.found gives.more gives.says number
    (λ faults addresses held. rw (← c.line-in-Ok-Bad.ensures.number) (holds faults addresses held)) found)
    c.add_line-in-Ok-Bad.ensures.holds
