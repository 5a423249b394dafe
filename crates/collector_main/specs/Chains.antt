-- Sessions of which each goes on where the one before it ended.
use Rattle.std.specs.Prelude.{◌≡◌, List, map, IsTrue}
use Rattle.receivers.specs.Cuts.{AreHeardOn, world_on}
use Rattle.receivers.specs.HeardLines.{tellings}
use Rattle.receivers.specs.Session.{IsSession}
use Rattle.receivers.specs.declared.told.Told.{Told}
use Rattle.collector_main.specs.declared.form.Form.TheVariants.{State}
use Rattle.collector_main.specs.Heard.{next_of}
use Rattle.collector_main.specs.Run.{Run, Headline}

-- a run of `continue`, and one that begins from what it left
pub record GoesOn (first later : Run) (one : Headline first) : Type 0 where
  pub leaves : IsTrue first.sends
  pub first_form : first.form ≡ State
  pub later_form : later.form ≡ State
  pub beginning : later.beginning.before.left ≡ next_of State one.heard

-- Both are one session of all lines, wherever each receiver's lines were cut: each meter's journal is the first run's and then the later
-- one's, its lines numbered on.
abbrev pub ContinuedRunsAreOne : Type 0
ContinuedRunsAreOne = (first later : Run) (one : Headline first) (two : Headline later) (all : List (List Told)) → GoesOn first later one
    → AreHeardOn (map tellings one.heard.receivers) (map tellings two.heard.receivers) all
    → IsSession one.heard.known.own one.heard.known.starts all
    (world_on (map tellings one.heard.receivers) one.heard.world two.heard.world)
