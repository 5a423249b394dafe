use Rattle.std.proofs.Common.{arith}
use Rattle.record_values.proofs.ValueCases.{lvar-positive, lvar-negative}
use Rattle.record_values.proofs.values.lvar_value.Goals as goal

pub returns-in-192-to-207 : goal.returns-in-192-to-207
returns-in-192-to-207 c = lvar-positive c.args.lvar c.args.sent.now _ _ (omega arith) (omega arith) c.decimal_of.ensures c.positive.ensures

pub returns-in-208-to-223 : goal.returns-in-208-to-223
returns-in-208-to-223 c =
    lvar-negative c.args.lvar c.args.sent.now _ _ (omega arith) (omega arith) c.decimal_of-in-208-to-223.ensures c.negative.ensures
