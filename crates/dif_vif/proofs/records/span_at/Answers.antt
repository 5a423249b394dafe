use Rattle.std.proofs.Common.{arith}
use Rattle.dif_vif.proofs.Readings.{record_takes, record_fits}
use Rattle.dif_vif.proofs.records.span_at.Goals as goal

pub span_of-requires-clause-is_record : goal.span_of-requires-clause-is_record
span_of-requires-clause-is_record c = (record_takes c.args.start c.split_at.result.1.now _ c.in_ok-found.ensures).1

pub span_of-requires-clause-fits : goal.span_of-requires-clause-fits
span_of-requires-clause-fits c = omega (arith, record_fits c.args.start c.split_at.result.1.now _ c.in_ok-found.ensures)
