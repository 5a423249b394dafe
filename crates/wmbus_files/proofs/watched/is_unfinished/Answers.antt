use Rattle.std.proofs.Common.{sym}
use Rattle.wmbus_files.proofs.Counts.{unfinished_by, unfinished_none}
use Rattle.wmbus_files.proofs.watched.is_unfinished.Goals as goal

pub returns-in-Some : goal.returns-in-Some
returns-in-Some c = sym (unfinished_by c.args.bytes.now c.in-Some.last.now (sym c.in-Some.ensures.value))

pub returns-in-None : goal.returns-in-None
returns-in-None c = sym (unfinished_none c.args.bytes.now (sym c.in-None.ensures.value))
