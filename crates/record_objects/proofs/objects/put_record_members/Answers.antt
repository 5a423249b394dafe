use Rattle.std.proofs.Common.{arith}
use Rattle.paper.proofs.Items.{is_put}
use Rattle.record_objects.proofs.RecordPut.{json_is}
use Rattle.record_objects.proofs.objects.put_record_members.Goals as goal

pub returns : goal.returns
returns g c =
    is_put _ _ (json_is c.args.number c.args.bytes.now c.args.span.now (record { each = λ i. omega (arith, c.type_inv.bytes i) })
    c.show_dif.ensures) c.put_record.ensures
