use Rattle.std.proofs.Common.{length, ap, ℕ, sym, arith}
use Rattle.compact_profiles.proofs.Bounds.{profile_fits, count_few, storage_below}
use Rattle.compact_profiles.proofs.values.profile_values.Goals as goal

pub split_at-requires : goal.split_at-requires
split_at-requires c =
    let fits = profile_fits _ _ c.in-Some.profile (sym c.in-Some.ensures) in
    rw c.sent_of.ensures (omega (arith, fits.whole))

pub values_from-requires-clause-field : goal.values_from-requires-clause-field
values_from-requires-clause-field c = (profile_fits _ _ c.in-Some.profile (sym c.in-Some.ensures)).field

pub values_from-requires-clause-width : goal.values_from-requires-clause-width
values_from-requires-clause-width c = (profile_fits _ _ c.in-Some.profile (sym c.in-Some.ensures)).width

pub values_from-requires-clause-small : goal.values_from-requires-clause-small
values_from-requires-clause-small c = (profile_fits _ _ c.in-Some.profile (sym c.in-Some.ensures)).small

pub values_from-requires-clause-whole : goal.values_from-requires-clause-whole
values_from-requires-clause-whole c =
    let fits = profile_fits _ _ c.in-Some.profile (sym c.in-Some.ensures) in
    omega (arith, fits.whole, c.split_at.ensures.back_len, ap (length {A = ℕ}) c.sent_of.ensures)

pub values_from-requires-clause-few : goal.values_from-requires-clause-few
values_from-requires-clause-few c = count_few _ _ c.in-Some.profile c.requires (sym c.in-Some.ensures)

pub values_from-requires-clause-storage : goal.values_from-requires-clause-storage
values_from-requires-clause-storage c = omega (arith, storage_below _ _ c.requires)
