use Rattle.roster_file.specs.Text.{meter_text}
use Rattle.paper.proofs.Items.{one_item}
use Rattle.roster_file.proofs.writing.put_meters.Goals as goal

pub loop-meter-preserved : goal.loop-meter-preserved
loop-meter-preserved g c =
    one_item meter_text c.args.meters.now _ c.meter-item.result c.loop-meter-test.true c.meter-item.is c.loop-meter.invariant
    c.put_meter.ensures
