use Rattle.std.proofs.Common.{option_copied}
use Rattle.state_changes.proofs.Merges.{found_at}
use Rattle.state_changes.proofs.merging.known_among.Goals as goal

pub returns : goal.returns
returns c =
    found_at c.args.address c.args.starts.now c.args.places.now c.find.result (option_copied c.at_place.result) c.requires c.find.ensures
    c.at_place.ensures
