-- The trees of meters have no float, so that their text is the one that JSON has for them.
use Rattle.std.proofs.Common.{◌≡◌, ℕ, ℤ, pos, negsuc, Bool, true, false, cond, ◌||◌, List, [], ◌∷◌, map, Option, Some, None, option_map, refl}
use Rattle.serde_json.specs.Data.{Data, number, string, object, unsigned}
use Rattle.serde_json.specs.Find.{is_float, of_integer}
use Rattle.serde_json.specs.Written.{has_float}
use Rattle.meter_address.specs.declared.address.Address.{Address}
use Rattle.meter_address.specs.declared.commission.Mode.{Mode}
use Rattle.dif_vif.specs.declared.span.RecordSpan.{RecordSpan}
use Rattle.record_values.specs.declared.units.Unit.{Unit}
use Rattle.record_values.specs.declared.values.Value.{Value}
use Rattle.record_values.specs.Units.{unit}
use Rattle.record_values.specs.Values.{value}
use Rattle.record_text.specs.Lines.{fault_text}
use Rattle.meter_slots.specs.declared.reading.Reading.{Reading}
use Rattle.report_text.specs.Readings.{listed, next_listed, is_full, fault_behind, members, list_tree, or_null, record_members, maker_tree}
use Rattle.report_text.specs.Readings.{record_tree, span_tree, meter_members}

infixr 5 ◌and◌
◌and◌ : {a b : Bool} → a ≡ false → b ≡ false → (a || b) ≡ false
◌and◌ e f = rw (e, f) refl

integer_whole : (z : ℤ) → is_float (of_integer z) ≡ false
integer_whole (pos n) = refl
integer_whole (negsuc n) = refl

choice_whole : (b : Bool) (x y : Data) → has_float x ≡ false → has_float y ≡ false → has_float (cond b x y) ≡ false
choice_whole true x y h k = h
choice_whole false x y h k = k

option_whole : {X : Type 0} (tree : X → Data) (o : Option X) → ((x : X) → has_float (tree x) ≡ false)
    → has_float (or_null (option_map tree o)) ≡ false
option_whole tree None h = refl
option_whole tree (Some x) h = h x

list_whole : {X : Type 0} (tree : X → Data) (xs : List X) → ((x : X) → has_float (tree x) ≡ false)
    → has_float (list_tree (map tree xs)) ≡ false
list_whole tree [] h = refl
list_whole tree (x ∷ xs) h = h x and list_whole tree xs h

record_whole : (payload : List ℕ) (span : RecordSpan) (u : Unit) (v : Value)
    → has_float (object (members (record_members payload span u v))) ≡ false
record_whole payload span u v = integer_whole u.exponent and refl

span_whole : (payload : List ℕ) (span : RecordSpan) → has_float (span_tree payload span) ≡ false
span_whole payload span = choice_whole span.maker (maker_tree payload span) (record_tree payload span) refl
    (record_whole payload span (unit payload span) (value payload span))

pub meter_whole : (address : Address) (mode : Mode) (last : Option Reading) (payload : List ℕ)
    → has_float (object (members (meter_members address mode last payload))) ≡ false
meter_whole address mode last payload =
    let spans = listed payload in
    option_whole (λ r. number (unsigned r.at)) last (λ r. refl)
    and option_whole (λ r. number (unsigned r.counter)) last (λ r. refl)
    and option_whole (λ fault. string (fault_text fault)) (fault_behind (is_full spans) (next_listed payload)) (λ fault. refl)
    and list_whole (span_tree payload) spans (span_whole payload)
    and refl
