use Rattle.std.proofs.Common.{◌≡◌, true, Option, is_some, map, sym, ap, ◌∙◌}
use Rattle.std.specs.String.{string_bytes}
use Rattle.std.proofs.lemmas.List.{length-map}
use Rattle.meter_address.specs.declared.address.Address.{Address}
use Rattle.meter_side_main.specs.Run.{address_in}
use Rattle.meter_side_main.proofs.Runs.{three_words}
use Rattle.meter_side_main.proofs.top.names_meter.Goals as goal

pub returns-clause-three : goal.returns-clause-three
returns-clause-three c = λ named.
    let words = map string_bytes c.args.words.now in
    let some : is_some (address_in words) ≡ true =
    sym (c.is_some.ensures ∙ ap (λ (o : Option Address). is_some o) c.named_address.ensures) ∙ named in
    sym (length-map c.args.words.now string_bytes) ∙ three_words words some
