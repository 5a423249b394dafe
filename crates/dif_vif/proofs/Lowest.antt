-- The set of lemmas on a number whose digits need no division.
use Rattle.dif_vif.proofs.Digits.{low_first-by_one}

pub ruleset lowest = (low_first-by_one)
