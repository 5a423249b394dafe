use Rattle.std.proofs.Common.{◌≡◌, ℕ, ◌≤◌, Option, sym, ap, ◌∙◌, subst}
use Rattle.std.specs.Option.{ForSome}
use Rattle.meter_address.specs.declared.commission.Mode.{Mode}
use Rattle.meter_address.specs.Commission.{Commissioned, most_last}
use Rattle.afl_fragments.proofs.Shortening.{short_stands}
use Rattle.meter_slots.specs.Keeping.{Kept, held_by}
use Rattle.meter_slots.proofs.standing.Standing.known.Goals as goal

pub invariant_of-commission : goal.invariant_of-commission
invariant_of-commission c =
    let b = c.self.inside in
    let kept : ForSome b.judge.last (λ n. n ≤ most_last b.judge.commission.mode) =
    subst (λ (k : Kept). ForSome k.last (λ n. n ≤ most_last k.commission.mode)) (sym c.self.view_is) c.requires.fits in
    let last : ForSome c.last-commission-inside.result (λ n. n ≤ most_last b.judge.commission.mode) =
    subst (λ (o : Option ℕ). ForSome o (λ n. n ≤ most_last b.judge.commission.mode)) (sym c.last-commission-inside.ensures) kept in
    let mode : c.commission.inside.mode ≡ b.judge.commission.mode =
    ap (λ (k : Commissioned). k.mode) (c.commission.view_is ∙ c.commission-commission.ensures) in
    record {
      one_key = c.commission.invariant.one_key;
      in_range = subst (λ (m : Mode). ForSome c.last-commission-inside.result (λ n. n ≤ most_last m)) (sym mode) last;
    }

pub invariant_of-result : goal.invariant_of-result
invariant_of-result c =
    let held = c.requires.held in
    short_stands (held_by c.self.inside.parts) held.0 (ap (λ (k : Kept). k.parts) c.self.view_is ∙ held.1)
