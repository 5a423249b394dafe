use Rattle.std.proofs.Common.{◌≡◌, Option, Some, Result, Ok, sym, ap, ◌∙◌, subst}
use Rattle.meter_address.specs.declared.commission.Mode.{Mode}
use Rattle.message_check.specs.declared.headers.Layers.{Layers}
use Rattle.message_check.specs.declared.opening.Opened.{Opened}
use Rattle.message_check.specs.declared.refusal.Reason.{Reason}
use Rattle.meter_slots.specs.Hearing.{received}
use Rattle.meter_slots.specs.Keeping.{Brings, IsOfWhole, verdict_as}
use Rattle.meter_slots.proofs.Repeats.{learned}
use Rattle.meter_slots.proofs.repeated.LastWhole.learn.Goals as goal

pub returns-then-not-is_fragment : goal.returns-then-not-is_fragment
returns-then-not-is_fragment c b bytes mode layers whole known x is =
    let t = c.args.telegram.now in
    let l = c.in-Seven-Ok.layers in
    let o = c.in-Some.opened in
    let verdict : c.args.verdict.now ≡ Ok (Some o) = c.in-Ok.is ∙ ap (λ (s : Option Opened). Ok s) c.in-Some.is in
    let received_as : Ok l ≡ received c.args.mode t = sym c.in-Seven-Ok.is-1 ∙ layers in
    let brings : Brings b.commission (record { bytes = t; counter = o.counter }) =
    learned b t bytes l o (mode ∙ c.in-Seven-Ok.is-0) (received_as ∙ ap (λ (m : Mode). received m t) c.in-Seven-Ok.is-0)
    (sym c.is_fragment.ensures ∙ c.if-not-is_fragment.true)
    (subst (λ (v : Result (Option Opened) Reason). IsOfWhole b t (Ok l) (verdict_as bytes v)) verdict
    (subst (λ (r : Result Layers Reason). IsOfWhole b t r (verdict_as bytes c.args.verdict.now)) c.in-Seven-Ok.is-1 whole)) in
    let known_as : Some (record { bytes = t; counter = o.counter }) ≡ Some x = sym c.keep.ensures ∙ is in
    let same : record { bytes = t; counter = o.counter } ≡ x = cc known_as in
    subst (Brings b.commission) same brings
