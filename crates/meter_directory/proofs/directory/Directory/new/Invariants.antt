use Rattle.std.proofs.Common.{◌≡◌, take}
use Rattle.meter_directory.proofs.directory.Directory.new.Given as goal

abbrev pub invariant-loop-address : goal.invariant-loop-address
invariant-loop-address l = l.places.keys ≡ take l.address-index l.addresses
