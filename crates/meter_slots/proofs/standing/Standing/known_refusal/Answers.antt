use Rattle.std.proofs.Common.{◌≡◌, ℕ, Option, Some, sym, ◌∙◌, subst}
use Rattle.message_check.specs.declared.refusal.Reason.TheVariants.{Stale}
use Rattle.meter_slots.specs.Keeping.{Kept, Known, Brings, IsRefusedAlone}
use Rattle.meter_slots.proofs.Repeats.{refused_alone}
use Rattle.meter_slots.proofs.standing.Standing.known_refusal.Goals as goal

pub returns-then-got-last : goal.returns-then-got-last
returns-then-got-last c =
    let b = c.self.inside in
    let got = c.in_ok-got.got in
    let last = c.in_ok-last.last in
    let t = c.args.telegram.now in
    let k : Known = record { bytes = t; counter = got } in
    let brings : Brings b.judge.commission k = c.self.invariant k c.in_ok-got.ensures in
    let is_last : Some last ≡ b.judge.last = sym c.in_ok-last.was ∙ c.last.ensures in
    let refused = subst (λ (l : Option ℕ). IsRefusedAlone b.judge.commission l t (Stale got last)) is_last
    (refused_alone b.judge.commission k last brings c.if-got-last.true) in
    subst (λ (k : Kept). IsRefusedAlone k.commission k.last t (Stale got last)) c.self.view_is refused
