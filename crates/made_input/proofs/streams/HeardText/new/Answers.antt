use Rattle.std.proofs.Common.{[], ap}
use Rattle.made_input.specs.Streams.{place_in_all}
use Rattle.made_input.proofs.streams.HeardText.new.Goals as goal

pub returns : goal.returns
unfolding place_in_all
returns c = ap (λ bytes. record { taken = []; left = bytes }) c.into_pieces.ensures
