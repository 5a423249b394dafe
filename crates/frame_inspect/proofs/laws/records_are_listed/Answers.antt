use Rattle.std.proofs.Common.{length, arith}
use Rattle.frame_inspect.proofs.Listings.{listed_from}
use Rattle.frame_inspect.proofs.laws.records_are_listed.Goals as goal

pub returns : goal.returns
returns c = λ payload spans ending listed. listed_from (length payload) payload 1 0 spans ending (omega arith) (omega arith) listed
