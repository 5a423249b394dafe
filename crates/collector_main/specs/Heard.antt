-- What a run heard: a session of its receivers, and the texts of it.
use Rattle.std.specs.Prelude.{ℕ, List, map}
use Rattle.meter_address.specs.declared.address.Address.{Address}
use Rattle.meter_slots.specs.Journal.{SlotView}
use Rattle.meter_slots.specs.World.{WorldView}
use Rattle.receivers.specs.Classes.{counts_of}
use Rattle.receivers.specs.HeardLines.{HeardLines, tellings}
use Rattle.report_text.specs.declared.lent.ReceiverEnd.{ReceiverEnd}
use Rattle.report_text.specs.Orders.{Orders}
use Rattle.report_text.specs.OrdersLaw.{orders_of}
use Rattle.report_text.specs.Readings.{readings_text}
use Rattle.report_text.specs.Report.{report_text}
use Rattle.roster_file.specs.Text.{roster_text}
use Rattle.state_file.specs.Left.{left_roster, left_state}
use Rattle.state_file.specs.Whole.{Known, fresh_known}
use Rattle.state_file.specs.Written.{state_text}
use Rattle.collector_main.specs.declared.form.Form.{Form}
use Rattle.collector_main.specs.declared.form.Form.TheVariants as forms

-- what was known when the session began, the lines taken from each receiver, and the slots and the strangers' list after them
pub record Heard : Type 0 where
  pub known : Known
  pub receivers : List HeardLines
  pub world : WorldView

abbrev pub addresses : Known → List Address
addresses k = map (λ c. c.address) k.starts

-- a receiver's line of the report: how many of its lines are in each class, and how it ended
abbrev pub receiver_end : Heard → HeardLines → ReceiverEnd
receiver_end heard r = record { counts = counts_of (addresses heard.known) (tellings r); ended = r.ended }

-- the report: each receiver's counts and end, the slots, the strangers
abbrev pub report_of : Heard → List ℕ
report_of heard = report_text (map (receiver_end heard) heard.receivers) heard.world.slots heard.world.strangers

-- the last readings, as JSON
abbrev pub readings_of : Heard → List ℕ
readings_of heard = readings_text heard.world.slots

-- what the session leaves for the next one, in the form in which it began
abbrev pub next_text : Form → Address → List SlotView → List ℕ
next_text forms.Roster own slots = roster_text (left_roster own slots)
next_text forms.State own slots = state_text (left_state own slots)

-- what the next session knows of the meters where it begins from that: a roster forgets what isn't commissioned
abbrev pub left_known : Form → Address → List SlotView → Known
left_known forms.Roster own slots = fresh_known (left_roster own slots)
left_known forms.State own slots = left_state own slots

abbrev pub next_of : Form → Heard → List ℕ
next_of form heard = next_text form heard.known.own heard.world.slots

-- the order of each meter's steps, and that of the strangers' lines
abbrev pub order_of : Heard → Orders
order_of heard = orders_of heard.world.slots heard.world.strangers
