use Rattle.dif_vif.proofs.Listings.{some_listing, same_listing}
use Rattle.dif_vif.proofs.laws.one_listing.Goals as goal

pub returns-clause-some : goal.returns-clause-some
returns-clause-some c = some_listing

pub returns-clause-only : goal.returns-clause-only
returns-clause-only c = λ bytes ss ts e f l m. same_listing bytes 0 ss ts e f l m
