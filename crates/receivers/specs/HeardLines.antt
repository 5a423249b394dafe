-- A session of several receivers by the lines that were taken from each, where contracts know the bytes of all sources.
use Rattle.std.specs.Prelude.{ℕ, ◌≡◌, List, map, Some, IsTrue}
use Rattle.lists.specs.Each.{EachWith}
use Rattle.outer_io.specs.Shown.{ReadFailed, WriteFailed, LosesNothing}
use Rattle.meter_address.specs.declared.address.Address.{Address}
use Rattle.meter_slots.specs.Journal.{Start}
use Rattle.meter_slots.specs.declared.counts.Ended.{Ended}
use Rattle.meter_slots.specs.declared.counts.Ended.TheVariants as ends
use Rattle.meter_slots.specs.World.{WorldView}
use Rattle.receivers.specs.declared.told.Told.{Told}
use Rattle.receivers.specs.Told.{told_of}
use Rattle.receivers.specs.Classes.{counts_of}
use Rattle.receivers.specs.Collected.{IsAnswered, address_of, heard_in, part_by}
use Rattle.receivers.specs.Ending.{IsEnding}
use Rattle.receivers.specs.Run.{ReceiverRun}
use Rattle.receivers.specs.Session.{IsSession}
use Rattle.receivers.specs.Works.{Part, HasSent}

-- the lines taken from one receiver, and how it ended
pub record HeardLines : Type 0 where
  pub lines : List (List ℕ)
  pub ended : Ended

-- what they tell
abbrev pub tellings : HeardLines → List Told
tellings r = map told_of r.lines

-- the bytes of a run's source are known
abbrev pub IsKnown : ReceiverRun → Type 0
IsKnown run = IsTrue run.source_tells

-- A run took these lines and ended so: the end says which lines of the bytes taken they are, and has its cause; the counts are
-- those of the lines, for the meters of a directory, and no byte is lost.
pub record HasTaken (directory : List Address) (run : ReceiverRun) (r : HeardLines) : Type 0 where
  pub ended : run.ended ≡ Some r.ended
  pub lines : IsEnding r.ended run.source.now.taken run.source.now.left r.lines
  pub counts : run.counts ≡ counts_of directory (tellings r)
  pub read_fault : r.ended ≡ ends.ReadFault → ReadFailed run.source
  pub tx_fault : r.ended ≡ ends.TxFault → WriteFailed run.tx
  pub no_loss : LosesNothing run.source

-- a run sent the downlinks of what a part's own lines were answered
pub record SendsAnswers (run : ReceiverRun) (p : Part) : Type 0 where
  pub how : Ended
  pub ended : run.ended ≡ Some how
  pub sent : HasSent how run p

-- the session of the lines taken
pub record IsHeardSession (own : Address) (commissions : List Start) (runs : List ReceiverRun) (world : WorldView) : Type 0 where
  pub receivers : List HeardLines
  pub taken : EachWith (HasTaken (map address_of commissions)) runs receivers
  pub session : IsSession own commissions (map tellings receivers) world
  -- what each receiver's own lines were answered, in their order, is what the journals say, and its sink has the downlinks of these answers
  pub parts : List Part
  pub heard : map heard_in parts ≡ map tellings receivers
  pub answers : (w : ℕ) → IsAnswered (map address_of commissions) world.slots w (part_by w parts)
  pub sent : EachWith SendsAnswers runs parts
