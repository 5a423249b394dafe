use Rattle.std.proofs.Common.{arith}
use Rattle.lists.proofs.Puts.{behind_both}
use Rattle.tpl_headers.proofs.writing.put_header.Goals as goal

pub returns-clause-behind : goal.returns-clause-behind
returns-clause-behind c =
    let old = c.args.out.now in
    let two =
    behind_both c.put-end.result c.put_address-end.result old c.put-end.new.out c.put_address-end.new.out (omega arith)
    c.put-end.ensures.behind c.put_address-end.ensures.behind in
    let three =
    behind_both c.put_address-end.result c.put-end-2.result old c.put_address-end.new.out c.put-end-2.new.out (omega arith)
    two c.put-end-2.ensures.behind in
    let four =
    behind_both c.put-end-2.result c.put-end-3.result old c.put-end-2.new.out c.put-end-3.new.out (omega arith)
    three c.put-end-3.ensures.behind in
    behind_both c.put-end-3.result c.put_extension.result old c.put-end-3.new.out c.put_extension.new.out (omega arith)
    four c.put_extension.ensures.behind
