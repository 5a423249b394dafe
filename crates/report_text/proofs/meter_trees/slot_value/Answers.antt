use Rattle.std.proofs.Common.{◌≡◌, ℕ, List, Option, ap, ◌∙◌, option_copied}
use Rattle.std.proofs.lemmas.Result.{IfOk-weaker}
use Rattle.serde_json.specs.Data.{Data, object}
use Rattle.meter_address.specs.declared.address.Address.{Address}
use Rattle.meter_address.specs.declared.commission.Mode.{Mode}
use Rattle.meter_slots.specs.declared.reading.Reading.{Reading}
use Rattle.report_text.specs.Readings.{payload_of, members, meter_members}
use Rattle.report_text.proofs.meter_trees.slot_value.Goals as goal

pub returns : goal.returns
returns c =
    let start = c.args.slot.now.start in
    let now = c.now.inside in
    let payload = c.payload_of.result.now in
    let last = option_copied c.last_reading-last.result in
    let tree : Address → Mode → Option Reading → List ℕ → Data = λ a mode r text. object (members (meter_members a mode r text)) in
    let of_address : now.address ≡ start.address = ap (λ k. k.address) (c.now.view_is ∙ c.commission-now.ensures.now) in
    let of_mode : now.mode ≡ start.mode = ap (λ k. k.mode) (c.now.view_is ∙ c.commission-now.ensures.now) in
    let are = ap (λ a. tree a now.mode last payload) of_address ∙ ap (λ mode. tree start.address mode last payload) of_mode
    ∙ ap (tree start.address start.mode last) c.payload_of.ensures
    ∙ ap (λ r. tree start.address start.mode r (payload_of r)) c.last_reading-last.ensures in
    IfOk-weaker c.meter_value.result _ _ (λ v h. h ∙ are) c.meter_value.ensures
