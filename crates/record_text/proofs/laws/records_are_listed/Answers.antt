use Rattle.record_text.proofs.ListingLines.{listing_lines}
use Rattle.record_text.proofs.laws.records_are_listed.Goals as goal

pub returns : goal.returns
returns c = λ payload spans ending listed. listing_lines 256 payload 0 spans ending listed
