use Rattle.std.proofs.Common.{◌++◌, codes, sym, ap}
use Rattle.hex.specs.Hex.{encode_lower}
use Rattle.paper.proofs.Calls.{three_make}
use Rattle.input_check.specs.Hints.{shared_text}
use Rattle.input_check.proofs.hints.put_shared.Goals as goal

pub returns : goal.returns
unfolding shared_text
returns g c =
    three_make (shared_text c.args.other) c.put_text.ensures c.put_hex.ensures c.put_text-2.ensures
    (ap (λ bytes. codes "it has the same key as meter " ++ encode_lower bytes ++ codes ": one of the two may have been copied wrongly") (sym c.to_bytes.ensures.bytes))
