use Rattle.std.proofs.Common.{rules, ◌≡◌, ◌<◌, ◌^◌, Ok, length, refl, ap, sym, ◌∙◌, arith}
use Rattle.lists.proofs.Members.{with_length}
use Rattle.roster_file.proofs.Enrolling.{read_is_enrolled}
use Rattle.state_file.specs.Whole.{Known, of_roster}
use Rattle.collector_main.specs.Ready.{HearsText}
use Rattle.collector_main.proofs.MadeSessions.{four_fresh, made_heard}
use Rattle.collector_main.proofs.making.hear_made.Goals as goal

pub of_roster-requires : goal.of_roster-requires
of_roster-requires g c = read_is_enrolled c.as_slice.result.now c.in-Ok.roster c.in-Ok.ensures.found

pub hear_together-requires-clause-few : goal.hear_together-requires-clause-few
hear_together-requires-clause-few g c κs within =
    let many = with_length HearsText c.in_ok-receivers.receivers.items _ c.in_ok-receivers.ensures in
    let few : length c.in_ok-receivers.receivers.items < 2 ^ 32 = omega (arith, many) in
    search rules

pub hear_together-requires-clause-fresh : goal.hear_together-requires-clause-fresh
hear_together-requires-clause-fresh g c κs within = four_fresh c.in_ok-receivers.receivers.items _ c.in_ok-receivers.ensures

pub returns : goal.returns
returns g c =
    let known : Known = record { own = c.own-own.result; starts = c.into_starts.result.items } in
    let same : known ≡ c.in_ok-state.state =
    (λ i. record { own = c.own-own.ensures i; starts = c.into_starts.ensures.starts i }) in
    made_heard _ _ refl (λ x. refl) (λ x. refl) (λ x. refl) (λ x. refl)
    c.args.meters c.args.telegrams c.args.number c.requires.meters.1 c.requires.telegrams.1
    c.in_ok-roster.field-0 c.roster.inside.roster.items c.roster.inside.first c.roster.inside.second c.roster.inside.third
    c.roster.inside.fourth c.as_slice.result.now c.roster.view_is c.in_ok-roster.ensures c.as_slice.ensures.value known
    (ap of_roster c.in-Ok.ensures.found ∙ ap (λ (k : Known). Ok k) (sym (same ∙ c.in_ok-state.ensures)))
    c.in_ok-receivers.receivers.items c.hear_together.new.receivers.items c.in_ok-receivers.ensures c.hear_together.result
    c.hear_together.ensures
