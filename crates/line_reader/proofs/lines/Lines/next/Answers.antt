use Rattle.std.proofs.Common.{Result, sym, subst}
use Rattle.line_reader.specs.Reader.{Gives, GivesLongLine, given}
use Rattle.line_reader.specs.declared.next.Next.{Next}
use Rattle.line_reader.specs.declared.next.NextText.TheVariants as texts
use Rattle.line_reader.specs.declared.next.ReadFault.{ReadFault}
use Rattle.line_reader.proofs.Saying.{gives_lent, gives_long, named}
use Rattle.line_reader.proofs.lines.Lines.next.Goals as goal
use Rattle.line_reader.proofs.lines.Lines.next.Goals.{in-Ok-Line, in-Ok-TooLong, in-Ok-End, in-Ok-Cut, in-Err}

pub returns-clause-lines : goal.returns-clause-lines
returns-clause-lines g c = λ told.
    let old = given g.S.Source.taken c.self.inside.reader.reader in
    let new = given g.S.Source.taken c.next.new.self.reader in
    let P : Result Next ReadFault → Type 0 = λ r. Gives r old new in
    let longest = c.self.inside.reader.longest in
    let text = c.next.new.self.text in
    let gives : P c.match-next.result =
    elim c.match-next.branch [
      | in-Ok-Line w ↦
          subst P (sym w.result-is) (gives_lent w.said.result text _ old new w.text.ensures w.said.ensures.says
          (named w.in-Ok-Line.field-0 texts.Line longest text old new w.in-Ok-Line.field-0-is (w.in-Ok-Line.ensures.lines told)))
      | in-Ok-TooLong w ↦
          subst P (sym w.result-is) (gives_long old new (subst (λ n. GivesLongLine n old new) c.self.invariant
          (named w.in-Ok-TooLong.field-0 texts.TooLong longest text old new w.in-Ok-TooLong.field-0-is
          (w.in-Ok-TooLong.ensures.lines told))))
      | in-Ok-End w ↦ subst P (sym w.result-is)
          (named w.in-Ok-End.field-0 texts.End longest text old new w.in-Ok-End.field-0-is (w.in-Ok-End.ensures.lines told))
      | in-Ok-Cut w ↦ subst P (sym w.result-is)
          (named w.in-Ok-Cut.field-0 texts.Cut longest text old new w.in-Ok-Cut.field-0-is (w.in-Ok-Cut.ensures.lines told))
      | in-Err w ↦ subst P (sym w.result-is) (w.in-Err.ensures.lines told)
    ] in
    rw (← c.self.view_is) gives
