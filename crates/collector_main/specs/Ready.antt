-- Words of private contracts: what a session of several receivers came to, before it is written.
use Rattle.std.specs.Prelude.{ℕ, ◌≡◌, ◌≢◌, ◌<◌, ◌^◌, List, [], Some, None, Ok, IsTrue, length}
use Rattle.lists.specs.Each.{Each, EachWith}
use Rattle.outer_io.specs.declared.sources.Source as sources
use Rattle.outer_io.specs.declared.sinks.Sink as sinks
use Rattle.made_input.specs.Made.{Session}
use Rattle.made_input.specs.Streams.{Text}
use Rattle.meter_slots.specs.declared.counts.Ended.TheVariants as ends
use Rattle.receivers.specs.Collected.{IsCollected}
use Rattle.receivers.specs.Receiver.{Receiving}
use Rattle.receivers.specs.Run.{receiver_runs}
use Rattle.report_text.specs.declared.lent.ReceiverEnd.{ReceiverEnd}
use Rattle.report_text.specs.Report.{report_text}
use Rattle.state_file.specs.Whole.{Known}
use Rattle.collector_main.specs.declared.form.Form.{Form}
use Rattle.collector_main.specs.Begin.{known_of}
use Rattle.collector_main.specs.Heard.{Heard, left_known, next_text, report_of}
use Rattle.collector_main.specs.MadeRun.{IsMadeHeard}
use Rattle.collector_main.specs.declared.together.HeardTogether.{HeardTogether}

-- a receiver that worked, and found memory for all its lines, ended so
pub record IsEndOf {S K : Type 0} (r : Receiving S K) (e : ReceiverEnd) : Type 0 where
  pub ended : r.ended ≡ Some e.ended
  pub counts : e.counts ≡ r.counts
  pub few : e.counts.lines < 2 ^ 32
  pub found_memory : e.ended ≢ ends.Memory

-- some receivers worked at once for these meters, and each found memory for all its lines
pub record HaveHeard {S K : Type 0} (s : sources.Ghosts S) (k : sinks.Ghosts K) (e : Known) (olds news : List (Receiving S K))
    (heard : HeardTogether) : Type 0 where
  pub untaken : Each (λ r. IsTrue s.tells → s.taken r.source ≡ []) olds
  pub collected : IsCollected e.own e.starts (receiver_runs s k olds news)
      (record { slots = heard.collected.slots.items; strangers = heard.collected.strangers })
  pub left : (form : Form) → known_of form (next_text form e.own heard.collected.slots.items) ≡
      Ok (left_known form e.own heard.collected.slots.items)
  pub as_many : length news ≡ length olds
  pub receiver_ends : EachWith IsEndOf news heard.ends.items

-- a fresh receiver that hears a text
pub record HearsText {K : Type 0} (r : Receiving Text K) (text : List ℕ) : Type 0 where
  pub source : r.source ≡ record { taken = []; left = text }
  pub fresh : r.ended ≡ None

-- what some receivers heard together is all that was made
pub record IsMadeTogether (made : Session) (h : HeardTogether) : Type 0 where
  pub heard : Heard
  pub is_heard : IsMadeHeard made heard
  pub report : report_text h.ends.items h.collected.slots.items h.collected.strangers ≡ report_of heard
