use Rattle.std.proofs.Common.{rules, ◌≡◌, ◌<◌, ◌++◌, List, [], ◌∷◌, length, take, get_or, sym, ap, ◌∙◌, flat_map}
use Rattle.std.proofs.lemmas.List.{take_more, flat_map_more}
use Rattle.meter_address.specs.Commission.{Commissioned}
use Rattle.input_check.specs.declared.hints.Note.{Note}
use Rattle.input_check.specs.Counting.{was_counted}
use Rattle.input_check.specs.Noticing.{note_if, unheard_if}
use Rattle.input_check.proofs.noticing.unheard_notes.Goals as goal

pub loop-meter-preserved : goal.loop-meter-preserved
loop-meter-preserved c =
    let f : Commissioned → List Note =
    λ m. note_if m.address (unheard_if (was_counted c.args.heard.now.entries) (was_counted c.args.known.now.entries) m.address) in
    let meter : Commissioned = c.meter-item.result in
    let within : c.loop-meter.meter-index < length c.args.meters.now = search rules in
    let item : meter ≡ get_or c.args.meters.now c.loop-meter.meter-index meter = search rules in
    let added : c.add_note.new.notes.items ≡ c.loop-meter.notes.items ++ f meter = search rules in
    added ∙ ap (λ ns. ns ++ f meter) c.loop-meter.invariant
    ∙ flat_map_more f [] (take c.loop-meter.meter-index c.args.meters.now) meter
    ∙ ap (λ m. flat_map f (take c.loop-meter.meter-index c.args.meters.now ++ m ∷ [])) item
    ∙ ap (flat_map f) (sym (take_more c.args.meters.now c.loop-meter.meter-index meter within))
