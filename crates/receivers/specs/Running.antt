-- All receivers at work on the cells, from the first split to the last join.
use Rattle.std.specs.Prelude.{List, [], ◌∷◌, length}
use Rattle.meter_address.specs.declared.address.Address.{Address}
use Rattle.meter_slots.specs.declared.entry.Event.{Event}
use Rattle.meter_slots.specs.declared.entry.Outcome.{Outcome}
use Rattle.book_cells.specs.Acts.{Shown, CellShown}
use Rattle.receivers.specs.Passes.{Crew}
use Rattle.receivers.specs.Run.{ReceiverRun}
use Rattle.receivers.specs.Workers.{IsDone}
use Rattle.receivers.specs.Crews.{AreCrews, AreRoots, HaveAllJoined}

module _ {O P : Type 0} (directory : List Address) (cells : List (CellShown O)) (strangers : CellShown P) where
  -- each receiver's run is done, with its own passes
  abbrev pub AreDone : List ReceiverRun → List (Crew O P) → List (Crew O P) → Type 0
  AreDone [] [] [] = Unit {0}
  AreDone (r ∷ rs) (c ∷ cs) (c' ∷ cs') = IsDone cells strangers directory r c c' × AreDone rs cs cs'
  AreDone _ _ _ = ⊥

  -- passes were split off for all, all worked, and all were joined
  pub record HaveRun (runs : List ReceiverRun) (roots' : List (Shown O Event Outcome)) (s' : Shown P Address Unit) : Type 0 where
    pub fresh : List (Crew O P)
    pub worked : List (Crew O P)
    pub hired : List (Shown O Event Outcome)
    pub hired_stranger : Shown P Address Unit
    pub are_roots : AreRoots cells strangers 0 (length runs) hired hired_stranger
    pub are_crews : AreCrews cells strangers 1 fresh
    pub done : AreDone runs fresh worked
    pub joined : HaveAllJoined worked hired roots' hired_stranger s'
