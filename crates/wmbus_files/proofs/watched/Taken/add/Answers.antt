use Rattle.std.proofs.Common.{◌<◌, length, arith}
use Rattle.std.proofs.lemmas.Bool.Decides.{nat_tests}
use Rattle.wmbus_files.proofs.Counts.{begun_within, count_more}
use Rattle.wmbus_files.proofs.watched.Taken.add.Goals as goal

pub overflow_sub-begun : goal.overflow_sub-begun
overflow_sub-begun c =
    let read = c.args.read.now in
    let some : 0 < length read = grind (arith, nat_tests) in
    begun_within read c.args.self.now.unfinished _ _ some c.from.ensures c.line_count.ensures

pub returns-clause-count : goal.returns-clause-count
returns-clause-count c = λ before is.
    let read = c.args.read.now in
    let some : 0 < length read = grind (arith, nat_tests) in
    count_more before read c.args.self.now _ _ _ is some c.line_count.ensures c.from.ensures c.saturating_add-self.ensures
    c.saturating_add-self-2.ensures c.is_unfinished-self.ensures

pub returns-clause-over : goal.returns-clause-over
returns-clause-over c = λ before is. c.is_over-2.ensures _ (returns-clause-count c before is)
