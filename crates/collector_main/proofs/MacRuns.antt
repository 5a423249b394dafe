-- Closes `macs_decide_in_runs`: what a roster or a state tells of held fragments is bytes, and so is what lines tell.
use Rattle.std.proofs.Common.{◌≡◌, ℕ, List, [], ◌∷◌, map, Result, Ok, Err, refl, ap, ◌∙◌}
use Rattle.std.specs.List.{All}
use Rattle.std.proofs.lemmas.List.Elements.{All-nil, All-cons}
use Rattle.lists.specs.Each.{Each, EachWith}
use Rattle.lists.proofs.Members.{each_map, with_fold}
use Rattle.meter_address.specs.declared.address.Address.{Address}
use Rattle.frame_formats.specs.Crc.{IsBytes}
use Rattle.frame_formats.proofs.Checked.{bytes-append}
use Rattle.frame_formats.proofs.Division.{each_byte}
use Rattle.afl_layer.specs.Fields.{fcl_of}
use Rattle.afl_layer.specs.Header.{afl_bytes}
use Rattle.afl_fragments.specs.Fragment.{Fragment}
use Rattle.afl_fragments.specs.Held.{Told, Piece}
use Rattle.meter_slots.specs.Journal.{Start, SlotView}
use Rattle.meter_slots.specs.MacLaw.{TellsBytes}
use Rattle.receivers.specs.declared.told.Told.{Told as Telling}
use Rattle.receivers.specs.Told.{told_of}
use Rattle.receivers.specs.HeardLines.{HeardLines, tellings}
use Rattle.receivers.specs.Session.{IsMetersSlot}
use Rattle.receivers.specs.MacLaw.{SaysBytes, AllSayBytes, StoresByMacs}
use Rattle.receivers.proofs.MacSessions.{macs_decide_over_all_receivers}
use Rattle.receivers.proofs.SaidBytes.{lines_say_bytes}
use Rattle.roster_file.specs.declared.roster.RosterFault.{RosterFault}
use Rattle.roster_file.specs.Roster.{Enrolled, roster_of}
use Rattle.state_file.specs.Text.{spelt, IsSpeltPart, IsSpeltMark}
use Rattle.state_file.specs.Whole.{Known, fresh_known, of_roster, state_of}
use Rattle.state_file.specs.Written.{IsStart}
use Rattle.state_file.proofs.ReadStates.{read_is_state}
use Rattle.state_file.proofs.RosterStates.{rosters_are_states}
use Rattle.collector_main.specs.declared.form.Form.{Form}
use Rattle.collector_main.specs.declared.form.Form.TheVariants as forms
use Rattle.collector_main.specs.Begin.{known_of}
use Rattle.collector_main.specs.MacLaw.{MacsDecideInRuns}

-- ---- what is known of the meters

part_tells : (part : Fragment) → IsSpeltPart part → IsBytes part.bytes
part_tells part s = (bytes-append (afl_bytes (fcl_of part.afl) part.afl) part.bytes (each_byte (spelt part) s.bytes)).1

marks_tell : (told : List Told) → Each IsSpeltMark told → All TellsBytes told
marks_tell [] each = All-nil TellsBytes
marks_tell (Piece part ∷ told) each = All-cons TellsBytes (Piece part) told (part_tells part each.0) (marks_tell told each.1)
marks_tell (mark ∷ told) each = All-cons TellsBytes mark told tt (marks_tell told each.1)

abbrev StartTells : Start → Type 0
StartTells c = All TellsBytes c.told

starts_tell : (starts : List Start) → Each IsStart starts → Each StartTells starts
starts_tell = each_map IsStart StartTells (λ c start. marks_tell c.told start.told.marks)

-- what a session begins from is a state
roster_known : (bytes : List ℕ) (r : Result Enrolled RosterFault) (known : Known) → roster_of bytes ≡ r → of_roster r ≡ Ok known
    → state_of bytes ≡ Ok known
roster_known bytes (Ok r) known read is = let same : fresh_known r ≡ known = cc in rosters_are_states bytes r read ∙ ap Ok same
roster_known bytes (Err fault) known read is = absurd cc

pub form_known : (form : Form) (bytes : List ℕ) (known : Known) → known_of form bytes ≡ Ok known → state_of bytes ≡ Ok known
form_known forms.Roster bytes known is = roster_known bytes (roster_of bytes) known refl is
form_known forms.State bytes known is = is

known_tells : (form : Form) (bytes : List ℕ) (known : Known) → known_of form bytes ≡ Ok known → Each StartTells known.starts
known_tells form bytes known is = starts_tell known.starts (read_is_state bytes known (form_known form bytes known is)).each

-- ---- what lines tell

all_mapped : {X Y : Type 0} (P : Y → Type 0) (f : X → Y) → ((x : X) → P (f x)) → (xs : List X) → All P (map f xs)
all_mapped P f each [] = All-nil P
all_mapped P f each (x ∷ xs) = All-cons P (f x) (map f xs) (each x) (all_mapped P f each xs)

receivers_say : (receivers : List HeardLines) → All AllSayBytes (map tellings receivers)
receivers_say = all_mapped AllSayBytes tellings (λ r. all_mapped SaysBytes told_of lines_say_bytes r.lines)

-- ---- the law

each_decides : (own : Address) (all : List (List Telling)) → All AllSayBytes all → (starts : List Start) (slots : List SlotView)
    → EachWith (IsMetersSlot own all) starts slots → Each StartTells starts → EachWith StoresByMacs starts slots
each_decides own all says =
    with_fold (IsMetersSlot own all) (λ starts slots. Each StartTells starts → EachWith StoresByMacs starts slots) (λ tells. tt)
    (λ c slot starts slots meters each later tells. (macs_decide_over_all_receivers own c all slot meters tells.0 says, later tells.1))

pub macs_decide_in_runs : MacsDecideInRuns
macs_decide_in_runs run h =
    each_decides h.heard.known.own (map tellings h.heard.receivers) (receivers_say h.heard.receivers) h.heard.known.starts
    h.heard.world.slots h.session.meters (known_tells run.form run.beginning.before.left h.heard.known h.known_is)
