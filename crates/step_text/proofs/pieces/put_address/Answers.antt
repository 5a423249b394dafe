use Rattle.std.proofs.Common.{sym, ap}
use Rattle.hex.specs.Hex.{encode_lower}
use Rattle.json.specs.Print.{escape}
use Rattle.paper.proofs.Items.{is_put}
use Rattle.step_text.proofs.pieces.put_address.Goals as goal

pub returns : goal.returns
returns g c = is_put _ _ (ap (λ b. escape (encode_lower b)) (sym c.to_bytes.ensures.bytes)) c.put_digits.ensures
