use Rattle.paper.proofs.Calls.{five_make}
use Rattle.made_input.specs.Summary.{counts_text}
use Rattle.made_input.proofs.summary.put_counts.Goals as goal

pub returns : goal.returns
unfolding counts_text
returns g c =
    five_make _ c.put_labelled.ensures c.put_text.ensures c.put_labelled-2.ensures c.put_labelled-3.ensures c.put_labelled-4.ensures
    (cc (c.of_meters.ensures.count, c.of_stranger.ensures.count))
