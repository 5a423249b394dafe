-- What the values of a call show of a run.
use Rattle.std.specs.Prelude.{ℕ, Bool, true, false, List, [], ◌∷◌, Result, Ok, Err}
use Rattle.outer_io.specs.Shown.{Change, SinkShown}
use Rattle.collector_main.specs.declared.form.Form.{Form}
use Rattle.collector_main.specs.declared.form.Form.TheVariants as forms
use Rattle.wmbus_words.specs.declared.asked.Plan.{Plan}
use Rattle.wmbus_words.specs.declared.asked.Plan.TheVariants as plans
use Rattle.wmbus_words.specs.declared.asked.WordsFault.{WordsFault}
use Rattle.collector_main.specs.Heard.{report_of, next_of, readings_of}
use Rattle.collector_main.specs.MadeRun.{made_outputs}
use Rattle.collector_main.specs.Run.{Output}

-- the report, which is sink 3
abbrev pub report_output : Change SinkShown → Output
report_output report = record { number = 3; text = report_of; sink = report }

-- all outputs: what is left for the next session, the readings, the report
abbrev pub all_outputs : Form → (next readings report : Change SinkShown) → List Output
all_outputs form next readings report =
    record { number = 1; text = next_of form; sink = next } ∷ record {
      number = 2;
      text = readings_of;
      sink = readings;
    } ∷ report_output report ∷ []

-- the text that a plan's session begins from, and leaves
abbrev pub form_of : Plan → Form
form_of plans.Hear = forms.State
form_of (plans.Collect count) = forms.Roster
form_of (plans.Continue count) = forms.State
form_of (plans.Made meters telegrams number) = forms.Roster

-- whether a plan begins from a text and has receivers hear, and doesn't make all that itself
abbrev pub hears : Plan → Bool
hears plans.Hear = true
hears (plans.Collect count) = true
hears (plans.Continue count) = true
hears (plans.Made meters telegrams number) = false

-- of a made session, with its meters, its telegrams and its number, this holds
abbrev pub IfMade : (ℕ → ℕ → ℕ → Type 0) → Plan → Type 0
IfMade P (plans.Made meters telegrams number) = P meters telegrams number
IfMade P plan = Unit {0}

-- whether a plan's receivers work at once and send downlinks
abbrev pub sends_downlinks : Plan → Bool
sends_downlinks plans.Hear = false
sends_downlinks (plans.Collect count) = true
sends_downlinks (plans.Continue count) = true
sends_downlinks (plans.Made meters telegrams number) = false

-- whether words ask for that
abbrev pub collects : Result Plan WordsFault → Bool
collects (Ok plan) = sends_downlinks plan
collects (Err fault) = false

-- whether a plan writes readings
abbrev pub writes_readings : Plan → Bool
writes_readings plans.Hear = false
writes_readings (plans.Collect count) = true
writes_readings (plans.Continue count) = true
writes_readings (plans.Made meters telegrams number) = true

-- whether words ask for that
abbrev pub asks_for_readings : Result Plan WordsFault → Bool
asks_for_readings (Ok plan) = writes_readings plan
asks_for_readings (Err fault) = false

-- the outputs of a plan, in the order in which they are written
abbrev pub outputs_of : Plan → (next readings report : Change SinkShown) → List Output
outputs_of plans.Hear next readings report = report_output report ∷ []
outputs_of (plans.Collect count) next readings report = all_outputs forms.Roster next readings report
outputs_of (plans.Continue count) next readings report = all_outputs forms.State next readings report
outputs_of (plans.Made meters telegrams number) next readings report = made_outputs meters telegrams readings report
