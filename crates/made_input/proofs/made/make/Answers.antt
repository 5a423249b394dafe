use Rattle.std.proofs.Common.{List, ℕ, length, ap, ap₂, ◌∙◌, arith}
use Rattle.std.proofs.lemmas.List.FromFn.{length-map-range_with_len}
use Rattle.roster_file.specs.Text.{roster_text}
use Rattle.roster_file.specs.Roster.{Enrolled}
use Rattle.made_input.specs.Meters.{meter_at, own_address}
use Rattle.made_input.specs.Lines.{lines_of}
use Rattle.made_input.specs.Made.{Session, made}
use Rattle.made_input.specs.Runs.{Texts, texts_heard}
use Rattle.made_input.proofs.made.make.Goals as goal

pub four_texts-requires-clause-few : goal.four_texts-requires-clause-few
four_texts-requires-clause-few g c =
    let is_meters = c.deref.ensures.value ∙ c.in_ok-senders.ensures ∙ c.meters.ensures
    ∙ ap (λ (e : Enrolled). e.meters) c.new-roster.ensures ∙ c.in_ok-drawn_meters.ensures in
    omega (arith, ap length is_meters, length-map-range_with_len (meter_at c.args.number) 0 c.args.meters, c.requires.meters.1)

abbrev session : List ℕ → Texts → Session
session roster texts = record { roster = roster; first = texts.first; second = texts.second; third = texts.third; fourth = texts.fourth }

pub returns : goal.returns
unfolding made texts_heard
returns g c =
    let is_meters = c.deref.ensures.value ∙ c.in_ok-senders.ensures ∙ c.meters.ensures
    ∙ ap (λ (e : Enrolled). e.meters) c.new-roster.ensures ∙ c.in_ok-drawn_meters.ensures in
    let texts = c.first.view_is ∙ c.in_ok-first.ensures ∙ ap (λ meters. texts_heard (lines_of meters c.args.telegrams)) is_meters in
    let roster = c.in_ok-roster.ensures ∙ ap roster_text (c.new-roster.ensures
    ∙ ap (λ meters. record { own = own_address; meters = meters }) c.in_ok-drawn_meters.ensures) in
    ap₂ session roster texts
