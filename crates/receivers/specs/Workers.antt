-- Many receivers at work.
use Rattle.std.specs.Prelude.{◌≡◌, List, Option, None}
use Rattle.meter_address.specs.declared.address.Address.{Address}
use Rattle.meter_slots.specs.declared.counts.Ended.{Ended}
use Rattle.book_cells.specs.Acts.{CellShown, IsPassOf}
use Rattle.receivers.specs.Passes.{Crew, ArePassesOf}
use Rattle.receivers.specs.Run.{ReceiverRun}
use Rattle.receivers.specs.Works.{HasWorked}

module _ {O P : Type 0} (cells : List (CellShown O)) (strangers : CellShown P) where
  -- the passes of a receiver: one of each cell
  pub record IsCrewOf (c : Crew O P) : Type 0 where
    pub passes : ArePassesOf cells c.passes
    pub stranger_pass : IsPassOf strangers c.stranger_pass

  -- a receiver is fresh, and has a pass of each cell
  pub record CanWork (ended : Option Ended) (c : Crew O P) : Type 0 where
    pub fresh : ended ≡ None
    pub crew_of : IsCrewOf c

  -- a receiver's one run of work is done, and its passes are still of these cells
  pub record IsDone (directory : List Address) (run : ReceiverRun) (before after : Crew O P) : Type 0 where
    pub crew_of : IsCrewOf after
    pub worked : HasWorked directory run before after
