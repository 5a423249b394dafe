-- Words of private contracts: what types say of what is told.
use Rattle.std.specs.Prelude.{◌≤◌, ◌<◌, ◌^◌, length}
use Rattle.hex.specs.Hex.{IsBytes}
use Rattle.afl_fragments.specs.declared.places.HeldPart.{HeldPart}
use Rattle.command_queue.specs.declared.command.Command.{Command}
use Rattle.state_file.specs.Text.{IsSpeltPart}

abbrev pub HasSpelt : HeldPart → Type 0
HasSpelt h = IsSpeltPart h.part

-- a command but for its tries
pub record IsSayable (c : Command) : Type 0 where
  pub id : c.id < 2 ^ 32
  pub least : 1 ≤ length c.payload
  pub most : length c.payload ≤ 94
  pub bytes : IsBytes c.payload
