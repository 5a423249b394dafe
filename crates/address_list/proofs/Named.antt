-- Of which lines an address is printed, and of which a dash.
use Rattle.std.proofs.Common.{◌≡◌, length, refl, sym, ap, ◌∙◌, arith}
use Rattle.std.specs.Prelude.{codes}
use Rattle.hex.specs.Hex.{lower_digits}
use Rattle.hex.proofs.HexLemmas.{length-encode_with}
use Rattle.meter_address.specs.declared.address.Address.{Address}
use Rattle.meter_address.specs.Address.{text_of, bytes_of}
use Rattle.meter_address.proofs.Texts.{length-bytes_of}
use Rattle.meter_slots.specs.declared.entry.Event.{Event}
use Rattle.receivers.specs.declared.told.Told.{Told}
use Rattle.receivers.specs.declared.told.Told.TheVariants as told
use Rattle.receivers.specs.Told.{told_of}
use Rattle.address_list.specs.Addresses.{told_text}
use Rattle.address_list.specs.Laws.{EventsAreNamed, DashesAreNoEvents}

pub named : EventsAreNamed
named line a e is = ap told_text is

no_dash : (a : Address) → text_of a ≡ codes "-" → ⊥
no_dash a e = omega (arith, length-encode_with lower_digits (bytes_of a), length-bytes_of a, ap length e)

dash_by : (t : Told) → ((a : Address) (e : Event) → t ≡ told.Event a e → ⊥) → told_text t ≡ codes "-"
dash_by (told.Event a e) none = absurd (none a e refl)
dash_by told.Unframed none = refl
dash_by told.Bad none = refl

pub dashes : DashesAreNoEvents
dashes line = (
  λ dash a e is. no_dash a (sym (ap told_text is) ∙ dash),
  λ none. dash_by (told_of line) none,
)
