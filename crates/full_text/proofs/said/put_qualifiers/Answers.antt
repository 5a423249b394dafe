use Rattle.std.proofs.Common.{ap}
use Rattle.std.proofs.lemmas.List.{drop_all}
use Rattle.paper.proofs.Items.{is_put}
use Rattle.full_text.specs.Said.{qualifiers_behind}
use Rattle.full_text.proofs.QualifiersPut.{qualifier_more}
use Rattle.full_text.proofs.said.put_qualifiers.Goals as goal

pub loop-qualifier-preserved : goal.loop-qualifier-preserved
loop-qualifier-preserved g c = λ q rest. c.loop-qualifier.invariant q
    (qualifier_more c.loop-qualifier.later c.args.unset c.args.qualifiers.now c.loop-qualifier.qualifier-index _ c.loop-qualifier-test.true
    c.put_space_if.ensures c.put_qualifier.ensures rest)

pub returns : goal.returns
returns g c = c.loop-qualifier.invariant _ (is_put _ _
    (ap (λ qs. qualifiers_behind c.loop-qualifier.later qs c.args.unset)
    (drop_all c.loop-qualifier.qualifier-index c.args.qualifiers.now c.loop-qualifier-test.false)) c.put_unset.ensures)
