use Rattle.std.proofs.Common.{◌≡◌, Bool, Option, Result, sym, ap, ◌∙◌, subst, option_to_list}
use Rattle.std.specs.Prelude.{slice_index}
use Rattle.meter_address.specs.Commission.{Commissioned}
use Rattle.afl_fragments.specs.Held.{StandsFor}
use Rattle.ell_layer.specs.declared.access.Access.{Access}
use Rattle.message_check.specs.Opening.{Found}
use Rattle.message_check.specs.declared.refusal.Reason.{Reason}
use Rattle.meter_slots.specs.Hearing.{is_response, received}
use Rattle.meter_slots.specs.Journal.{verdict, access_of, heard, orders_heard, reading_at, stored_in}
use Rattle.meter_slots.specs.Keeping.{Bar, Brings, Kept, held_by, last_after, standing_for, verdict_as}
use Rattle.meter_slots.proofs.standing.Standing.hear.Goals as goal

pub returns-clause-outcome : goal.returns-clause-outcome
returns-clause-outcome c format told =
    let b = c.self.inside in
    let t = c.args.telegram.now in
    let own = c.args.own in
    let k : Kept = record { commission = b.judge.commission; last = b.judge.last; parts = held_by b.parts; orders = b.commands } in
    let access : Kept → Access = λ k. access_of (received k.commission.mode t) (verdict k.commission (standing_for k told) t) in
    let response = is_response (slice_index t 1) in
    let Answered : Kept → Type 0 = λ k. StandsFor k.parts told
    → c.hear-outcome.result ≡ heard own k.commission k.orders (access k) response (verdict k.commission (standing_for k told) t) in
    let found = verdict_as c.hear-judged.new.message c.hear-judged.result.verdict in
    let answered : Answered k = λ stands. c.hear-outcome.ensures.outcome c.hear-judged.new.message
    ∙ ap (λ (n : Commissioned). heard own n b.commands c.hear-judged.result.access c.has_response_control-response.result found)
    c.commission.ensures
    ∙ ap (λ (a : Access). heard own b.judge.commission b.commands a c.has_response_control-response.result found)
    (c.hear-judged.ensures.access ∙ ap (access_of (received b.judge.commission.mode t))
    (c.hear-judged.ensures.verdict told (c.take_rooms.ensures.held ∙ stands)))
    ∙ ap (λ (r : Bool). heard own b.judge.commission b.commands (access k) r found)
    (c.has_response_control-response.ensures ∙ ap is_response c.control.ensures)
    ∙ ap (λ (v : Result (Option Found) Reason). heard own b.judge.commission b.commands (access k) response v)
    (c.hear-judged.ensures.verdict told (c.take_rooms.ensures.held ∙ stands)) in
    subst Answered c.self.view_is answered

pub returns-clause-reading : goal.returns-clause-reading
returns-clause-reading c format told =
    let b = c.self.inside in
    let t = c.args.telegram.now in
    let k : Kept = record { commission = b.judge.commission; last = b.judge.last; parts = held_by b.parts; orders = b.commands } in
    let Reads : Kept → Type 0 = λ k. StandsFor k.parts told
    → option_to_list c.reading_from-reading.result ≡ reading_at c.args.at (stored_in (verdict k.commission (standing_for k told) t)) in
    let reads : Reads k = λ stands. c.reading_from-reading.ensures
    ∙ ap (λ (v : Result (Option Found) Reason). reading_at c.args.at (stored_in v))
    (c.hear-judged.ensures.verdict told (c.take_rooms.ensures.held ∙ stands)) in
    subst Reads c.self.view_is reads

pub returns-clause-orders : goal.returns-clause-orders
returns-clause-orders c format told =
    let b = c.self.inside in
    let t = c.args.telegram.now in
    let given = c.hear-outcome.result in
    let k : Kept = record { commission = b.judge.commission; last = b.judge.last; parts = held_by b.parts; orders = b.commands } in
    let access : Kept → Access = λ k. access_of (received k.commission.mode t) (verdict k.commission (standing_for k told) t) in
    let Moved : Kept → Type 0 = λ k. StandsFor k.parts told
    → c.hear-outcome.new.self ≡ orders_heard k.orders (access k) (is_response (slice_index t 1)) given in
    let moved : Moved k = λ stands. c.hear-outcome.ensures.after
    ∙ ap (λ (a : Access). orders_heard b.commands a c.has_response_control-response.result given)
    (c.hear-judged.ensures.access ∙ ap (access_of (received b.judge.commission.mode t))
    (c.hear-judged.ensures.verdict told (c.take_rooms.ensures.held ∙ stands)))
    ∙ ap (λ (response : Bool). orders_heard b.commands (access k) response given)
    (c.has_response_control-response.ensures ∙ ap is_response c.control.ensures) in
    subst Moved c.self.view_is moved

pub invariant_of-self-2 : goal.invariant_of-self-2
invariant_of-self-2 c x is =
    let b = c.self.inside in
    let same : c.count.new.self.commission ≡ b.judge.commission = ap (λ (w : Bar). w.commission) c.count.ensures in
    let known : Brings b.judge.commission x =
    c.learn.ensures b.judge c.hear-judged.new.message (sym c.mode-mode.ensures) c.receive-layers.ensures.exact c.hear-judged.ensures.whole
    c.self.invariant x is in
    subst (λ (k : Commissioned). Brings k x) (sym same) known

pub hear-judged-requires-clause-room : goal.hear-judged-requires-clause-room
hear-judged-requires-clause-room c = c.in_ok-rooms.ensures.place

pub hear-outcome-requires : goal.hear-outcome-requires
hear-outcome-requires c = c.in_ok-rooms.ensures.downlink

pub invariant_of-self : goal.invariant_of-self
invariant_of-self c = c.self.invariant

pub returns-clause-commission : goal.returns-clause-commission
returns-clause-commission c = ap (λ (w : Bar). w.commission) c.count.ensures ∙ ap (λ (k : Kept). k.commission) c.self.view_is

pub returns-clause-last : goal.returns-clause-last
returns-clause-last c = ap (λ (w : Bar). w.last) c.count.ensures
    ∙ ap (λ (k : Kept). last_after k.last c.hear-outcome.result) c.self.view_is
