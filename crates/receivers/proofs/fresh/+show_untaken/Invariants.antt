use Rattle.std.proofs.Common.{length}
use Rattle.receivers.proofs.fresh.+show_untaken.Given as goal

abbrev pub decreases-show_untaken : goal.decreases-show_untaken
decreases-show_untaken g l = length l.receivers.now
