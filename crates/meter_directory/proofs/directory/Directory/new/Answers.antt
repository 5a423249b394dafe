use Rattle.meter_directory.proofs.Places.{next_key}
use Rattle.meter_directory.proofs.directory.Directory.new.Goals as goal

pub loop-address-preserved : goal.loop-address-preserved
loop-address-preserved c =
    next_key c.args.addresses.now c.loop-address.places.keys c.insert.new.self.keys c.loop-address.address-index (record { 0 = 0 })
    c.requires.apart c.loop-address-test.true c.loop-address.invariant c.in_ok-insert.ensures.keys
