use Rattle.std.proofs.Common.{◌++◌, ◌∷◌, [], ◌∙◌, ap, sym, length, arith}
use Rattle.std.proofs.lemmas.List.{length_push}
use Rattle.audit_check_main.specs.Lists.{as_many}
use Rattle.audit_check_main.specs.Reading.{ListsRead}
use Rattle.audit_check_main.proofs.ReadLists.{as_many-push, as_many-all}
use Rattle.audit_check_main.proofs.line_lists.Lists.into_all.Goals as goal

pub lists-preserved : goal.lists-preserved
lists-preserved c =
    let items = c.in_ok-push.ensures.items ∙ ap (λ l. c.lists.all.items ++ l ∷ []) c.new.ensures in
    let len = c.lists.all.ok.0 in
    let more = c.lists-test.true in
    let long = ap length items ∙ length_push c.lists.all.items [] in
    record {
      same = ap (as_many c.args.meters) items ∙ (as_many-push c.args.meters c.lists.all.items (omega arith) ∙ c.lists.invariant.same);
      few = omega arith;
    }

pub returns : goal.returns
returns c =
    let len = c.lists.all.ok.0 in
    let few = c.lists.invariant.few in
    let past = c.lists-test.false in
    c.in_ok-push-2.ensures.items
    ∙ ((λ i. (sym (as_many-all c.args.meters c.lists.all.items (omega arith))
    ∙ c.lists.invariant.same) i ++ ap (λ (l : ListsRead). l.strangers) c.self.view_is i ∷ []))
