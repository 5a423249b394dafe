use Rattle.compact_profiles.proofs.Summing.{turned}
use Rattle.compact_profiles.proofs.laws.inverse_takes_away.Goals as goal

pub returns : goal.returns
returns c p storage base count values place v w forward backward mode kind e known f known_back =
    turned p storage base count values place v w forward backward mode kind e known f known_back
