-- From the runs of a session to the lines that were taken.
use Rattle.std.proofs.Common.{◌≡◌, List, [], ◌∷◌, map, refl, subst}
use Rattle.lists.specs.Each.{Each, EachWith}
use Rattle.meter_slots.specs.Journal.{Start}
use Rattle.meter_address.specs.declared.address.Address.{Address}
use Rattle.meter_slots.specs.World.{WorldView}
use Rattle.receivers.specs.Classes.{counts_of}
use Rattle.receivers.specs.Collected.{address_of, heard_in, IsCollected}
use Rattle.receivers.specs.HeardLines.{HeardLines, tellings, IsKnown, HasTaken, SendsAnswers, IsHeardSession}
use Rattle.receivers.specs.Run.{ReceiverRun, hearing_of, lines_of}
use Rattle.receivers.specs.Session.{IsSession}
use Rattle.receivers.specs.Works.{Part, HasRun}

module _ (directory : List Address) where
  abbrev heard_lines : (runs : List ReceiverRun) (parts : List Part) → EachWith (HasRun directory) runs parts → List HeardLines
  heard_lines [] [] h = []
  heard_lines (run ∷ runs) (p ∷ parts) h =
      record { lines = lines_of (hearing_of run h.0.how); ended = h.0.how } ∷ heard_lines runs parts h.1
  heard_lines _ _ h = absurd h

  has_taken : (run : ReceiverRun) (p : Part) (h : HasRun directory run p) → IsKnown run
      → HasTaken directory run (record { lines = lines_of (hearing_of run h.how); ended = h.how })
  has_taken run p h known = record {
    ended = h.ended;
    lines = h.has_heard.ending known;
    counts = subst (λ heard. run.counts ≡ counts_of directory heard) (h.has_heard.lines known) h.has_heard.counts;
    read_fault = h.has_heard.read_fault;
    tx_fault = h.tx_fault;
    no_loss = h.has_heard.no_loss known;
  }

  all_taken : (runs : List ReceiverRun) (parts : List Part) (h : EachWith (HasRun directory) runs parts) → Each IsKnown runs
      → EachWith (HasTaken directory) runs (heard_lines runs parts h)
  all_taken [] [] h known = tt
  all_taken (run ∷ runs) (p ∷ parts) h known = (has_taken run p h.0 known.0, all_taken runs parts h.1 known.1)
  all_taken _ _ h known = absurd h

  all_told : (runs : List ReceiverRun) (parts : List Part) (h : EachWith (HasRun directory) runs parts) → Each IsKnown runs
      → map heard_in parts ≡ map tellings (heard_lines runs parts h)
  all_told [] [] h known = refl
  all_told (run ∷ runs) (p ∷ parts) h known = λ i. h.0.has_heard.lines known.0 i ∷ all_told runs parts h.1 known.1 i
  all_told _ _ h known = absurd h

  all_sent : (runs : List ReceiverRun) (parts : List Part) → EachWith (HasRun directory) runs parts → EachWith SendsAnswers runs parts
  all_sent [] [] h = tt
  all_sent (run ∷ runs) (p ∷ parts) h = (record { how = h.0.how; ended = h.0.ended; sent = h.0.has_sent }, all_sent runs parts h.1)
  all_sent _ _ h = absurd h

-- a session that was collected, where all sources are known, is one of the lines taken
pub heard_session : (own : Address) (commissions : List Start) (runs : List ReceiverRun) (world : WorldView) → Each IsKnown runs
    → IsCollected own commissions runs world → IsHeardSession own commissions runs world
heard_session own commissions runs world known c =
    let directory = map address_of commissions in
    let told = all_told directory runs c.parts c.each_run known in record {
      receivers = heard_lines directory runs c.parts c.each_run;
      taken = all_taken directory runs c.parts c.each_run known;
      session = subst (λ all. IsSession own commissions all world) told c.session;
      parts = c.parts;
      heard = told;
      answers = c.answers;
      sent = all_sent directory runs c.parts c.each_run;
    }
