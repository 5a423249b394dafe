use Rattle.std.proofs.Common.{arith}
use Rattle.full_spans.proofs.Found.{LiesWithin-from_full}
use Rattle.compact_profiles.proofs.profiles.sent_of.Goals as goal

pub split_at-requires : goal.split_at-requires
split_at-requires c = let places = LiesWithin-from_full c.args.bytes.now c.args.span.now c.requires in omega arith

pub split_at-requires-2 : goal.split_at-requires-2
split_at-requires-2 c = let places = LiesWithin-from_full c.args.bytes.now c.args.span.now c.requires in omega arith
