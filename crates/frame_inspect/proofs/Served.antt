-- What a new slot answers to one telegram is what the collector finds in it.
use Rattle.std.proofs.Common.{◌≡◌, ℕ, Bool, List, [], ◌∷◌, ◌++◌, reverse, Option, Some, None, sym, ap, ◌∙◌, subst, Result, Ok, Err, IfOk, option_to_list}
use Rattle.meter_address.specs.declared.address.Address.{Address}
use Rattle.meter_address.specs.Commission.{Commissioned}
use Rattle.frame_formats.specs.declared.format.Format.TheVariants as formats
use Rattle.outer_io.specs.declared.failures.Memory.{Memory}
use Rattle.ell_layer.specs.declared.access.Access.{Access}
use Rattle.command_queue.specs.Orders.{Orders}
use Rattle.message_check.specs.Opening.{Found}
use Rattle.message_check.specs.declared.refusal.Reason.{Reason}
use Rattle.meter_slots.specs.declared.entry.Entry.{Entry}
use Rattle.meter_slots.specs.declared.entry.Event.{Event}
use Rattle.meter_slots.specs.declared.entry.Event.TheVariants.{Hear}
use Rattle.meter_slots.specs.declared.entry.Outcome.{Outcome}
use Rattle.meter_slots.specs.declared.reading.Reading.{Reading}
use Rattle.meter_slots.specs.declared.standing.Served.{Served}
use Rattle.meter_slots.specs.Journal.{fresh_start, commission_of, standing, verdict, outcome, heard, readings, reading_at, stored_in}
use Rattle.meter_slots.specs.Passing.{Passing, IsAfter}
use Rattle.paper.specs.Pieces.{text_if}
use Rattle.frame_inspect.specs.RecordLines.{records_text}
use Rattle.frame_inspect.specs.Below.{unnumbered, found_alone, found_text}
use Rattle.frame_inspect.specs.Serving.{reading_text, served_text}

stored_is : (at : ℕ) (f : Found) (reading : Option Reading) → reading_at at (Some f) ≡ option_to_list reading
    → text_if reading_text reading ≡ records_text f.payload
stored_is at f None e = absurd cc
stored_is at f (Some r) e =
    let same : record { at = at; counter = f.counter; payload = f.payload } ≡ r = cc in
    ap (λ (it : Reading). records_text it.payload) (sym same)

-- by the verdict on the telegram
by_verdict : (v : Result (Option Found) Reason) (own : Address) (c : Commissioned) (k : Orders) (access : Access) (response : Bool)
    (answered : Outcome) (reading : Option Reading) (at : ℕ) → answered ≡ heard own c k access response v
    → reading_at at (stored_in v) ≡ option_to_list reading → served_text answered reading ≡ found_text v
by_verdict (Err reason) own c k access response answered reading at e stored = ap (λ o. served_text o reading) e
by_verdict (Ok None) own c k access response answered reading at e stored = ap (λ o. served_text o reading) e
by_verdict (Ok (Some f)) own c k access response answered reading at e stored =
    ap (λ o. served_text o reading) e ∙ stored_is at f reading stored

-- the telegram as an event
abbrev heard_now : List ℕ → Event
heard_now t = Hear formats.A 0 t

found_is : (c : Commissioned) (own : Address) (t : List ℕ) (answered : Outcome) (reading : Option Reading)
    → answered ≡ outcome (fresh_start (unnumbered c)) own [] (heard_now t)
    → readings (fresh_start (unnumbered c)) (record { source = 1; line = 1; event = heard_now t; outcome = answered } ∷ [])
    ≡ readings (fresh_start (unnumbered c)) [] ++ option_to_list reading
    → served_text answered reading ≡ found_text (found_alone c t)
unfolding outcome readings found_alone
found_is c own t answered reading answered_is reading_is =
    by_verdict (verdict (commission_of (fresh_start (unnumbered c))) (standing (fresh_start (unnumbered c)) []) t) own _ _ _ _ answered
    reading 0 answered_is reading_is

pub served : (c : Commissioned) (t : List ℕ) (slot : Passing) (result : Result Served Memory) → slot.start ≡ fresh_start (unnumbered c)
    → IsAfter [] slot
    → IfOk result (λ s. (journal : List Entry) → IsAfter journal slot
    → s.outcome ≡ outcome slot.start slot.own (reverse journal) (heard_now t))
    → IfOk result (λ s. (journal : List Entry) (source line : ℕ) → IsAfter journal slot
    → readings slot.start (journal ++ record { source = source; line = line; event = heard_now t; outcome = s.outcome } ∷ [])
    ≡ readings slot.start journal ++ option_to_list s.reading)
    → IfOk result (λ s. served_text s.outcome s.reading ≡ found_text (found_alone c t))
served c t slot (Err none) start_is after one two = tt
served c t slot (Ok s) start_is after one two =
    found_is c slot.own t s.outcome s.reading (one [] after ∙ ap (λ start. outcome start slot.own [] (heard_now t)) start_is)
    (subst (λ start. readings start (record { source = 1; line = 1; event = heard_now t; outcome = s.outcome } ∷ [])
    ≡ readings start [] ++ option_to_list s.reading) start_is (two [] 1 1 after))
