-- A line is answered by what it asks for.
use Rattle.usage_totals.specs.Requests.{request_read}
use Rattle.usage_totals.proofs.Told.{told_so, told_bad}
use Rattle.usage_totals.proofs.answer.AnswererTeller.tell.Goals as goal

pub returns-in-Ok : goal.returns-in-Ok
returns-in-Ok c =
    told_so c.args.self.now _ c.args.line.now _ _ _ c.answer_request.result (request_read c.in-Ok.request) c.answer_request.new.totals
    c.in-Ok.ensures c.answer_request.ensures

pub returns-in-Err-Bad : goal.returns-in-Err-Bad
returns-in-Err-Bad c = told_bad c.args.self.now _ c.args.line.now _ _ _ (c.in-Err-Bad.ensures c.in-Err-Bad.field-0-is) c.put_bad.ensures
