use Rattle.address_list.proofs.Runs.{listed_run, ran}
use Rattle.address_list.proofs.running.list_addresses.Goals as goal

pub returns : goal.returns
returns g c =
    ran _ (λ tells. listed_run _ _ _ _ _ (c.tell_lines.ensures.ended tells)) c.tell_lines.ensures.read c.tell_lines.ensures.write
    c.tell_lines.ensures.bytes
