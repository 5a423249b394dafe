-- The law of mode 7 over a run.
use Rattle.lists.specs.Each.{EachWith}
use Rattle.receivers.specs.MacLaw.{StoresByMacs}
use Rattle.collector_main.specs.Run.{Run, Headline}

-- in a run that was heard each meter of mode 7 stores by the MACs
abbrev pub MacsDecideInRuns : Type 0
MacsDecideInRuns = (run : Run) (h : Headline run) → EachWith StoresByMacs h.heard.known.starts h.heard.world.slots
