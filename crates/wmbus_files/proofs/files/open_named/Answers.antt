use Rattle.std.proofs.Common.{◌≡◌, ◌-◌, ◌/◌, ◌∙◌, length, drop, take, vec_len, ap}
use Rattle.std.proofs.lemmas.List.{length-drop, take_rest}
use Rattle.wmbus_files.proofs.Plans.{counted_so}
use Rattle.wmbus_files.proofs.files.open_named.Goals as goal

pub returns-clause-count : goal.returns-clause-count
returns-clause-count g c =
    let command = c.args.command.now in
    let whole : length (take (length command - 4) (drop 4 command)) ≡ length (drop 4 command) = ap length (take_rest command 4) in
    counted_so c.open_receivers.result (λ files. vec_len files.receivers) _ _ (ap (λ n. n / 2) (whole ∙ length-drop 4 command))
    c.open_receivers.ensures.count
