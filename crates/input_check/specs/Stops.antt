-- Why a check stops, and what it leaves.
use Rattle.std.specs.Prelude.{ℕ, ◌≡◌, zero, suc, Bool, true, false, List, [], ◌∷◌, ◌++◌, take, IsTrue}
use Rattle.lists.specs.Each.{Each}
use Rattle.outer_io.specs.Shown.{Change, SourceShown, SinkShown, ReadFailed, WriteFailed, IsReadOut, IsSilent}
use Rattle.line_reader.specs.Lines.{is_over}
use Rattle.input_check.specs.declared.states.Stop.{Stop}
use Rattle.input_check.specs.declared.states.Stop.TheVariants as stops
use Rattle.input_check.specs.Receivers.{receivers_text}

-- the cause of each stop: of a read, of a file past its limit and of a write; want of memory is free
abbrev pub StopsBy : (read cut write : Type 0) → Stop → Type 0
StopsBy read cut write stops.Read = read
StopsBy read cut write stops.Cut = cut
StopsBy read cut write stops.Write = write
StopsBy read cut write stops.Memory = Unit {0}

-- why the check of one file stops, and what it leaves: nothing is printed, unless a write failed, which is once the file was read
abbrev pub FileStops : (long read : Type 0) → Change SourceShown → Change SinkShown → Stop → Type 0
FileStops long read file out stop = StopsBy (ReadFailed file × IsSilent out) (long × IsSilent out) (WriteFailed out × read) stop

-- a receiver was read to its end, which is within its limits
pub record IsHeardOut (source : Change SourceShown) : Type 0 where
  pub read : IsReadOut source
  pub within : is_over source.before.left ≡ false

-- a receiver has a byte behind a limit
abbrev pub IsLong : Bool → Change SourceShown → Type 0
IsLong tells source = IsTrue tells → is_over source.before.left ≡ true

-- nothing of a source was read
abbrev pub IsUnread : Change SourceShown → Type 0
IsUnread source = source.now ≡ source.before

-- of these receivers one stops, behind so many that were heard out, and those behind it are unread
abbrev pub StopsBehind : Bool → (why : Change SourceShown → Type 0) → ℕ → List (Change SourceShown) → Type 0
StopsBehind tells why n [] = ⊥
StopsBehind tells why zero (r ∷ later) = why r × Each IsUnread later
StopsBehind tells why (suc n) (r ∷ later) = (IsTrue tells → IsHeardOut r) × StopsBehind tells why n later

-- Of receivers, before which stand so many others, one stops for this reason, and just the faulty lines of those before it are printed.
pub record StopsAt (sources_tell sinks_tell : Bool) (why : Change SourceShown → Type 0) (before : ℕ) (receivers : List (Change SourceShown))
    (bytes : List (List ℕ)) (old new : List ℕ) : Type 0 where
  pub place : ℕ
  pub stopped : StopsBehind sources_tell why place receivers
  pub printed : IsTrue sources_tell → IsTrue sinks_tell → new ≡ old ++ receivers_text before (take place bytes)

-- why a check of receivers stops
abbrev pub ReceiversStop : (sources_tell sinks_tell : Bool) → ℕ → List (Change SourceShown) → List (List ℕ) → Change SinkShown → Stop → Type 0
ReceiversStop s k before receivers bytes out stop =
    StopsBy (StopsAt s k ReadFailed before receivers bytes out.before.written out.now.written)
    (StopsAt s k (IsLong s) before receivers bytes out.before.written out.now.written) (WriteFailed out) stop
