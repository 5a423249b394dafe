use Rattle.std.proofs.Common.{ap, sym, rules}
use Rattle.std.specs.List.{flat_map}
use Rattle.std.proofs.lemmas.List.{take_all}
use Rattle.paper.proofs.Items.{is_put, one_item}
use Rattle.state_file.specs.Written.{block_text}
use Rattle.state_file.proofs.writing.put_blocks.Goals as goal

pub loop-start-preserved : goal.loop-start-preserved
loop-start-preserved g c = search (rules, one_item)

pub returns : goal.returns
returns g c =
    is_put _ _ (ap (flat_map block_text) (sym (take_all c.loop-start.start-index c.args.starts.now c.loop-start-test.false)))
    c.loop-start.invariant
