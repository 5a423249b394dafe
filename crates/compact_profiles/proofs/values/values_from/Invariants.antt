use Rattle.std.proofs.Common.{◌≡◌, ◌+◌, ◌*◌, ◌++◌, length, take}
use Rattle.compact_profiles.specs.Values.{values_from}
use Rattle.compact_profiles.proofs.values.values_from.Given as goal

abbrev pub invariant-values : goal.invariant-values
invariant-values l = record {
  room : length l.found ≡ 189;
  places : l.place + l.left ≡ l.profile.count;
  bytes : length l.rest ≡ l.left * l.profile.width;
  numbers : l.number ≡ l.fn.storage + l.place;
  same : take l.place l.found ++ values_from l.profile l.number l.last l.left l.rest
      ≡ values_from l.profile l.fn.storage l.fn.base l.profile.count l.fn.values;
}

abbrev pub decreases-values : goal.decreases-values
decreases-values l = l.left
