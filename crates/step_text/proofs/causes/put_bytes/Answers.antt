use Rattle.std.specs.Prelude.{codes}
use Rattle.hex.specs.Hex.{encode_lower}
use Rattle.json.specs.Print.{escape}
use Rattle.paper.proofs.Calls.{then}
use Rattle.paper.proofs.Items.{is_put}
use Rattle.step_text.proofs.Words.{closed}
use Rattle.step_text.proofs.causes.put_bytes.Goals as goal

pub returns : goal.returns
returns g c =
    is_put _ _ (closed (codes "[\"") (escape (encode_lower c.args.bytes.now)))
    (then c.put_text.ensures (then c.put_digits.ensures c.put_text-2.ensures))
