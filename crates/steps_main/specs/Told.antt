-- What a line says and what it tells a collector.
use Rattle.std.specs.Prelude.{ℕ, ◌≡◌, List}
use Rattle.receivers.specs.declared.told.Told.{Told}
use Rattle.receivers.specs.declared.told.Told.TheVariants as told
use Rattle.receivers.specs.Told.{told_of}
use Rattle.step_text.specs.Said.{said_of}
use Rattle.step_text.specs.declared.said.Said.{Said}
use Rattle.step_text.specs.declared.said.Said.TheVariants as said

-- what it tells a collector, which takes no causes
abbrev pub told_in : Said → Told
told_in (said.Event address event) = told.Event address event
told_in (said.Unframed fault) = told.Unframed
told_in (said.Bad bad) = told.Bad

-- a line tells what it says
abbrev pub SaidIsTold : Type 0
SaidIsTold = (text : List ℕ) → told_in (said_of text) ≡ told_of text
