-- Proof that a second key makes no difference where there is none.
use Rattle.std.proofs.Common.{◌≡◌, ℕ, List, [], ◌∷◌, Option, None, refl, ap, ◌∙◌, arith}
use Rattle.std.specs.List.{All}
use Rattle.std.proofs.lemmas.List.Elements.{All-head, All-tail}
use Rattle.meter_address.specs.declared.commission.Mode.{Mode}
use Rattle.meter_address.specs.Commission.{Commissioned}
use Rattle.tpl_headers.specs.declared.header.Tpl.{Tpl}
use Rattle.message_check.specs.Keys.{key_of}
use Rattle.meter_slots.specs.declared.entry.Entry.{Entry}
use Rattle.meter_slots.specs.declared.entry.Event.{Event}
use Rattle.meter_slots.specs.Journal.{Start, commission_of, other_after, other_key, rekeyed}
use Rattle.meter_slots.specs.Laws.{LeavesKeys}
use Rattle.message_check.proofs.OpeningLaws.{one_key_alone}

kept_by : (mode : Mode) (event : Event) (other : Option (List ℕ)) → LeavesKeys event → other_after mode event other ≡ other
kept_by mode event other h = grind arith

abbrev LeavesKeysAt : Entry → Type 0
LeavesKeysAt x = LeavesKeys x.event

pub key_stays : (c : Start) (earlier : List Entry) → All LeavesKeysAt earlier → other_key c earlier ≡ c.other
key_stays c [] h = refl
key_stays c (x ∷ earlier) h =
    kept_by c.mode x.event (other_key c earlier) (All-head LeavesKeysAt x earlier h)
    ∙ key_stays c earlier (All-tail LeavesKeysAt x earlier h)

-- messages are opened with the commission as it was made
pub commission_stays : (c : Start) (earlier : List Entry) → All LeavesKeysAt earlier
    → rekeyed (commission_of c) (other_key c earlier) ≡ commission_of c
commission_stays c earlier h = ap (rekeyed (commission_of c)) (key_stays c earlier h)

-- and without a second key they are under the first
pub first_key_of_message : (c : Start) (earlier : List Entry) (h : Tpl) → All LeavesKeysAt earlier → c.other ≡ None
    → key_of (rekeyed (commission_of c) (other_key c earlier)) h ≡ c.key
first_key_of_message c earlier h stays none =
    ap (λ (m : Commissioned). key_of m h) (commission_stays c earlier stays) ∙ one_key_alone (commission_of c) h none
