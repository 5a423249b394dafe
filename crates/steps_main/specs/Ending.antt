-- Words of private contracts: what is written behind all lines.
use Rattle.std.specs.Prelude.{ℕ, ◌≡◌, ◌⊎◌, ◌++◌, Bool, false, List, [], IsTrue, if◌then◌else◌, map, Result, Ok, Err}
use Rattle.std.specs.List.{flat_map}
use Rattle.line_teller.specs.declared.ending.LinesEnd.{LinesEnd}
use Rattle.line_teller.specs.Ending.{is_whole}
use Rattle.meter_address.specs.declared.address.Address.{Address}
use Rattle.meter_worlds.specs.declared.passing_world.PassingMeter.{PassingMeter}
use Rattle.meter_worlds.specs.PassingWorld.{known_by}
use Rattle.outer_io.specs.declared.failures.Failed.{Failed}
use Rattle.outer_io.specs.Shown.{Change, SinkShown, WriteFailed}
use Rattle.state_file.specs.Whole.{Known}
use Rattle.state_file.specs.Written.{block_text, IsStart}
use Rattle.step_text.specs.Lines.{block_line, counts_line}
use Rattle.steps_main.specs.declared.status.StepsStatus.{StepsStatus}
use Rattle.steps_main.specs.declared.status.StepsStatus.TheVariants as statuses
use Rattle.steps_main.specs.declared.telling.Stepper.{Stepper}
use Rattle.steps_main.specs.Run.{HasWhole, HasFront}
use Rattle.steps_main.specs.Statuses.{status_of, ended_at}

-- what is known of the meters now
abbrev pub known_of : Address → List PassingMeter → Known
known_of own meters = record { own = own; starts = map known_by meters }

-- what is known of a meter can be told
abbrev pub IsTellable : PassingMeter → Type 0
IsTellable m = IsStart (known_by m)

-- the block of a meter in the state that is left
abbrev pub meter_block : PassingMeter → List ℕ
meter_block m = block_text (known_by m)

-- the line of what is known of a meter
abbrev pub known_block : PassingMeter → List ℕ
known_block m = block_line (known_by m)

-- the same, if the meter had a step
abbrev pub stepped_block : PassingMeter → List ℕ
stepped_block m = if m.stepped then known_block m else []

-- what is told behind lines that ended so
unfoldable pub end_text : Stepper → LinesEnd → List ℕ
end_text stepper end = flat_map stepped_block stepper.world ++ counts_line stepper.counts (ended_at end)

-- what became of a text that was to be written
abbrev pub Wrote : Bool → List ℕ → Change SinkShown → Result Unit Failed → Type 0
Wrote tells text sink (Ok done) = IsTrue tells → HasWhole text sink
Wrote tells text sink (Err failed) = WriteFailed sink × (IsTrue tells → HasFront text sink)

-- ---- the end of a run

-- how the lines ended, what is to be left and to be told then, what the two sinks show of it, and the status
pub record Finish : Type 0 where
  pub end : LinesEnd
  pub left : List ℕ
  pub ending : List ℕ
  pub next_tells : Bool
  pub next : Change SinkShown
  pub out_tells : Bool
  pub out : Change SinkShown
  pub status : StepsStatus

-- both texts were written
pub record FinishesWhole (f : Finish) : Type 0 where
  pub whole : IsTrue (is_whole f.end)
  pub status_is : f.status ≡ status_of f.end
  pub next : IsTrue f.next_tells → HasWhole f.left f.next
  pub out : IsTrue f.out_tells → HasWhole f.ending f.out

-- the first one couldn't be written
pub record FinishesUnleft (f : Finish) : Type 0 where
  pub whole : IsTrue (is_whole f.end)
  pub status_is : f.status ≡ statuses.WriteNext
  pub failed : WriteFailed f.next
  pub next : IsTrue f.next_tells → HasFront f.left f.next
  pub out : f.out.now ≡ f.out.before

-- the second one couldn't be
pub record FinishesUntold (f : Finish) : Type 0 where
  pub whole : IsTrue (is_whole f.end)
  pub status_is : f.status ≡ statuses.WriteSteps
  pub next : IsTrue f.next_tells → HasWhole f.left f.next
  pub failed : WriteFailed f.out
  pub out : IsTrue f.out_tells → HasFront f.ending f.out

-- not all lines were told, and nothing was written behind them
pub record FinishesShort (f : Finish) : Type 0 where
  pub short : is_whole f.end ≡ false
  pub status_is : f.status ≡ status_of f.end
  pub next : f.next.now ≡ f.next.before
  pub out : f.out.now ≡ f.out.before

abbrev pub Finishes : Finish → Type 0
Finishes f = FinishesWhole f ⊎ FinishesUnleft f ⊎ FinishesUntold f ⊎ FinishesShort f
