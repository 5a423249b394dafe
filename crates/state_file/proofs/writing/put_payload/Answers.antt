use Rattle.std.proofs.Common.{rules}
use Rattle.paper.proofs.Calls.{two_make}
use Rattle.state_file.specs.Printing.{payload_text}
use Rattle.state_file.proofs.writing.put_payload.Goals as goal

pub returns : goal.returns
unfolding payload_text
returns g c = search (rules, two_make)
