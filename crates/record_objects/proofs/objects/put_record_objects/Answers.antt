use Rattle.paper.proofs.Calls.{then}
use Rattle.paper.proofs.Items.{is_put}
use Rattle.record_objects.proofs.ItemsPut.{objects_are}
use Rattle.record_objects.proofs.objects.put_record_objects.Goals as goal

pub returns : goal.returns
returns g c = record {
  text = is_put _ _ (objects_are c.args.payload.now)
      (then c.put_text.ensures (then c.put_items-fault.ensures.text c.put_text-2.ensures));
  fault = c.put_items-fault.ensures.fault;
}
