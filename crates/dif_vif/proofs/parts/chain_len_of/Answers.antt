use Rattle.std.proofs.Common.{◌≡◌, length, arith}
use Rattle.std.proofs.lemmas.List.{drop_more, drop_all}
use Rattle.dif_vif.proofs.Chains.{turn_done, turn_missing, turn_full, turn_more}
use Rattle.dif_vif.proofs.parts.chain_len_of.Goals as goal

pub returns-then-last-lt128-clause-exact : goal.returns-then-last-lt128-clause-exact
returns-then-last-lt128-clause-exact c = turn_done _ _ _ _ _ _ c.if-last-lt128.true c.loop-count.invariant.1

pub returns-then-count-eq-MOST_EXTENSIONS-clause-exact : goal.returns-then-count-eq-MOST_EXTENSIONS-clause-exact
returns-then-count-eq-MOST_EXTENSIONS-clause-exact c =
    turn_full _ _ _ _ _ _ _ _ c.if-last-lt128.false (drop_more c.args.bytes.now c.loop-count.count 0 c.loop-count-test.true) (omega arith)
    c.loop-count.invariant.1

pub loop-count-preserved : goal.loop-count-preserved
loop-count-preserved c = (
  omega arith,
  turn_more _ _ _ _ _ _ _ _ _ c.if-last-lt128.false
      (drop_more c.args.bytes.now c.loop-count.count 0 c.loop-count-test.true) (omega arith) c.loop-count.invariant.1,
)

pub returns-then-last-lt128-2-clause-exact : goal.returns-then-last-lt128-2-clause-exact
returns-then-last-lt128-2-clause-exact c =
    let all : length c.args.bytes.now ≡ c.loop-count.count = omega arith in
    rw all (turn_done _ _ _ _ _ _ c.if-last-lt128-2.true c.loop-count.invariant.1)

pub returns-else-last-lt128-2-clause-exact : goal.returns-else-last-lt128-2-clause-exact
returns-else-last-lt128-2-clause-exact c =
    turn_missing _ _ _ _ _ _ c.if-last-lt128-2.false (drop_all c.loop-count.count c.args.bytes.now c.loop-count-test.false)
    c.loop-count.invariant.1
