-- The lines are told by one who answers them, over no rows at first.
use Rattle.std.proofs.Common.{[], refl}
use Rattle.usage_totals.proofs.Runs.{ran}
use Rattle.usage_totals.proofs.WordsAsked.{asked_some, asked_addressed}
use Rattle.usage_totals.proofs.running.totals_run.Goals as goal

pub returns : goal.returns
returns g c =
    let told = c.tell_one_by_one.ensures in
    ran _ c.tell_one_by_one.result c.of_lines.ensures (asked_some c.totals_asked.result _ _ c.in-Some.is c.totals_asked.ensures)
    _ _ _ _ (asked_addressed c.totals_asked.result _ _ c.in-Some.is c.totals_asked.ensures)
    (record { edits = []; stands = c.new.ensures; rows = refl }) c.requires.empty told.ended told.memory told.read told.write told.bytes
    c.requires.untaken
