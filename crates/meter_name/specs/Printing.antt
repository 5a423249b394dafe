-- What is there after a name was to be printed.
use Rattle.std.specs.Prelude.{ℕ, ◌≡◌, Bool, List, ◌++◌, IsTrue}
use Rattle.outer_io.specs.Shown.{Change, SinkShown, WriteFailed}
use Rattle.outer_io.specs.Bytes.{AppendsFront}
use Rattle.meter_name.specs.declared.status.NameStatus.{NameStatus}
use Rattle.meter_name.specs.declared.status.NameStatus.TheVariants as statuses

-- the text is there, or a write failed and a front of it is
abbrev pub IsPrinted : Bool → List ℕ → Change SinkShown → NameStatus → Type 0
IsPrinted tells text sink statuses.Done = IsTrue tells → sink.now.written ≡ sink.before.written ++ text
IsPrinted tells text sink statuses.Write = WriteFailed sink × (IsTrue tells → AppendsFront text sink.before.written sink.now.written)
IsPrinted tells text sink _ = ⊥
