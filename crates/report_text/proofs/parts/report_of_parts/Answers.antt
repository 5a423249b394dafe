use Rattle.std.proofs.Common.{◌≡◌, ◌++◌, subst}
use Rattle.std.specs.Prelude.{IsTrue, OnOk, OnErr}
use Rattle.outer_io.specs.Bytes.{AppendsFront}
use Rattle.report_text.proofs.PartedReports.{report_is}
use Rattle.report_text.proofs.parts.report_of_parts.Goals as goal

pub returns-clause-ok : goal.returns-clause-ok
returns-clause-ok g c =
    let session = c.args.session.now in
    let is = report_is session.ends.now c.args.parts.now session.slots.now session.strangers.now c.requires in
    subst (λ text. OnOk c.write.result
    (IsTrue g.K.Sink.tells → g.K.Sink.written c.write.new.sink ≡ g.K.Sink.written c.args.sink.now ++ text)) is c.write.ensures.ok

pub returns-clause-err : goal.returns-clause-err
returns-clause-err g c =
    let session = c.args.session.now in
    let is = report_is session.ends.now c.args.parts.now session.slots.now session.strangers.now c.requires in
    subst (λ text. OnErr c.write.result
    (IsTrue g.K.Sink.tells → AppendsFront text (g.K.Sink.written c.args.sink.now) (g.K.Sink.written c.write.new.sink))) is
    c.write.ensures.err
