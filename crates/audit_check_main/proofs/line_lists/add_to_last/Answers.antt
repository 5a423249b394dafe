-- A pair that is pushed stands at the end of the last list.
use Rattle.std.proofs.Common.{◌++◌, ◌∷◌, [], ◌∙◌, ap, set, arith}
use Rattle.std.proofs.lemmas.Result.{on_ok_weaker}
use Rattle.audit_check_main.proofs.ReadLists.{set-last}
use Rattle.audit_check_main.proofs.line_lists.add_to_last.Goals as goal

pub returns : goal.returns
returns c =
    let len = c.args.lists.now.ok.0 in
    let some = c.if-count-eq0.false in
    let is = c.len-count.ensures in record {
      ok = on_ok_weaker c.push.result (λ pushed.
          ap (set c.args.lists.now.items _) (pushed ∙ ap (λ l. l ++ c.args.pair ∷ []) c.index_mut-last.ensures.value)
          ∙ set-last c.args.lists.now.items _ c.index_mut-last.result.now (c.args.pair ∷ []) (omega arith)) c.push.ensures.ok;
    }
