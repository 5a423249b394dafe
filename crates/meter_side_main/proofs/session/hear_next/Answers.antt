-- A line is heard as the reader lends it, and one that is too long delivers nothing.
use Rattle.std.proofs.Common.{ℕ, ◌<◌, List, [], ◌∷◌, ◌++◌, length, Option, sym, ap, ◌∙◌, subst}
use Rattle.line_reader.specs.Reader.{given}
use Rattle.meter_side_main.specs.Lines.{answer_of}
use Rattle.meter_side_main.proofs.LinesHeard.{long_line}
use Rattle.meter_side_main.proofs.session.hear_next.Goals as goal

pub returns-in-Ok-Line-clause-heard : goal.returns-in-Ok-Line-clause-heard
returns-in-Ok-Line-clause-heard g c = λ tells.
    let before = given g.S.Source.taken c.args.tx.now.reader in
    record {
      line = c.text.result.now;
      more = rw c.in-Ok-Line.field-0-is at (c.in-Ok-Line.ensures.lines tells)
          ∙ ap (λ (text : List ℕ). before ++ text ∷ []) (sym c.text.ensures);
      answered = c.hear_line.ensures.answer;
    }

pub returns-in-Ok-TooLong-clause-heard : goal.returns-in-Ok-TooLong-clause-heard
returns-in-Ok-TooLong-clause-heard g c = λ tells.
    let l = c.args.listener.now in
    let long = rw c.in-Ok-TooLong.field-0-is at (c.in-Ok-TooLong.ensures.lines tells) in
    let none = long_line long.line (subst (λ (n : ℕ). n < length long.line) c.requires.longest long.long) in
    record {
      line = long.line;
      more = long.more;
      answered = ap (λ (o : Option (List ℕ)). answer_of l.own l.commission l.last o) (sym none);
    }
