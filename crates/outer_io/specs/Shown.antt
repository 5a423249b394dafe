-- What a source and a sink show to contracts, and what a call does to it.
use Rattle.std.specs.Prelude.{ℕ, ◌≡◌, ◌++◌, ◌⊎◌, List, []}
use Rattle.outer_io.specs.Faults.{Rose}
use Rattle.outer_io.specs.Bytes.{AppendsFront}
use Rattle.outer_io.specs.declared.sources.Source as sources
use Rattle.outer_io.specs.declared.sinks.Sink as sinks

-- a value before a call, and after it
pub record Change (A : Type 0) : Type 0 where
  pub before : A
  pub now : A

-- ---- sources

-- the bytes taken so far and those that are left, where the source tells them, and how often a read failed
pub record SourceShown : Type 0 where
  pub taken : List ℕ
  pub left : List ℕ
  pub faults : ℕ

abbrev pub source_shown : {S : Type 0} → sources.Ghosts S → S → SourceShown
source_shown s x = record { taken = s.taken x; left = s.left x; faults = s.faults x }

abbrev pub source_change : {S : Type 0} → sources.Ghosts S → (old new : S) → Change SourceShown
source_change s old new = record { before = source_shown s old; now = source_shown s new }

-- a read failed in the call
abbrev pub ReadFailed : Change SourceShown → Type 0
ReadFailed source = Rose source.before.faults source.now.faults

-- the bytes taken and those left are the bytes that were taken and left
abbrev pub LosesNothing : Change SourceShown → Type 0
LosesNothing source = source.now.taken ++ source.now.left ≡ source.before.taken ++ source.before.left

-- all bytes that were left were taken
pub record IsReadOut (source : Change SourceShown) : Type 0 where
  pub took_all : source.now.taken ≡ source.before.taken ++ source.before.left
  pub nothing_left : source.now.left ≡ []

-- ---- sinks

-- the bytes written so far, where the sink tells them, and how often a write failed
pub record SinkShown : Type 0 where
  pub written : List ℕ
  pub faults : ℕ

abbrev pub sink_shown : {K : Type 0} → sinks.Ghosts K → K → SinkShown
sink_shown k x = record { written = k.written x; faults = k.faults x }

abbrev pub sink_change : {K : Type 0} → sinks.Ghosts K → (old new : K) → Change SinkShown
sink_change k old new = record { before = sink_shown k old; now = sink_shown k new }

-- a write failed in the call
abbrev pub WriteFailed : Change SinkShown → Type 0
WriteFailed sink = Rose sink.before.faults sink.now.faults

-- nothing was written
abbrev pub IsSilent : Change SinkShown → Type 0
IsSilent sink = sink.now.written ≡ sink.before.written

-- a sink that was empty has the whole text, or a write failed and it has a front of the text
abbrev pub HasText : List ℕ → Change SinkShown → Type 0
HasText text sink = (sink.now.written ≡ text) ⊎ (WriteFailed sink × AppendsFront text [] sink.now.written)
