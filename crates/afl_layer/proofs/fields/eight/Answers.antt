use Rattle.std.proofs.Common.{arith}
use Rattle.afl_layer.proofs.FieldLaws.{eight_cells}
use Rattle.afl_layer.proofs.fields.eight.Goals as goal

pub returns-in-len8 : goal.returns-in-len8
returns-in-len8 c = eight_cells c.args.bytes.now (omega arith)
