use Rattle.std.proofs.Common.{arith}
use Rattle.full_spans.proofs.Found.{LiesWithin-from_full}
use Rattle.full_records.proofs.records.full_record_of.Goals as goal

pub part-requires : goal.part-requires
part-requires c = let places = LiesWithin-from_full c.args.bytes.now c.args.span.now c.requires in omega arith
