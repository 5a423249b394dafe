use Rattle.frame_formats.proofs.Checked.{bytes_same}
use Rattle.message_check.specs.Opening.{opened7_after}
use Rattle.message_check.proofs.AnswerLaws.{opens7, done}
use Rattle.message_check.proofs.mode_seven.open7_with_keys.Goals as goal

pub returns-clause-opens : goal.returns-clause-opens
returns-clause-opens c =
    let m = c.args.message.now in
    let opened = c.open_message-answer in
    let end = c.emptied_if_refused in
    opens7 c.args.last c.args.commission.now c.args.auth.now m _ end.result (bytes_same _ m c.bytes_mut.ensures.bytes opened.ensures.bytes)
    (done (opened7_after c.args.last c.args.commission.now c.args.auth.now) _ m _ _ _ end.result c.bytes_mut.ensures.bytes opened.auto.message end.ensures.same
    end.ensures.kept end.ensures.emptied opened.ensures.opened opened.ensures.refused opened.ensures.within opened.ensures.front)

pub returns-clause-exact : goal.returns-clause-exact
returns-clause-exact c =
    let m = c.args.message.now in
    let opened = c.open_message-answer in
    let end = c.emptied_if_refused in
    (done (opened7_after c.args.last c.args.commission.now c.args.auth.now) _ m _ _ _ end.result c.bytes_mut.ensures.bytes opened.auto.message end.ensures.same
    end.ensures.kept end.ensures.emptied opened.ensures.opened opened.ensures.refused opened.ensures.within opened.ensures.front).says
