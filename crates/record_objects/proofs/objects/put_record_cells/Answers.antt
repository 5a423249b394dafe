use Rattle.paper.proofs.Items.{is_put}
use Rattle.record_objects.proofs.RecordPut.{csv_is}
use Rattle.record_objects.proofs.objects.put_record_cells.Goals as goal

pub returns : goal.returns
returns g c = is_put _ _ (csv_is c.args.number c.args.bytes.now c.args.span.now) c.put_record.ensures
