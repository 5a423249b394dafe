-- A journal and receivers that are put on paper, one after another.
use Rattle.std.proofs.Common.{◌≡◌, ℕ, ◌+◌, ◌<◌, ◌≤◌, length, get_or, List, ◌∷◌, ◌++◌, Option, drop, slice_get, ap, sym, ◌∙◌}
use Rattle.std.specs.List.{flat_map, enumerate_from}
use Rattle.paper.specs.Puts.{Puts}
use Rattle.std.proofs.lemmas.List.{drop_more, drop_all}
use Rattle.meter_slots.specs.declared.entry.Entry.{Entry}
use Rattle.meter_slots.specs.declared.reading.Reading.{Reading}
use Rattle.paper.proofs.Calls.{none, then}
use Rattle.paper.proofs.Items.{is_put}
use Rattle.report_text.specs.declared.lent.ReceiverEnd.{ReceiverEnd}
use Rattle.report_text.specs.Report.{receiver_text, step_text, steps_text, readings_after}

steps_more : (kept : List Reading) (journal : List Entry) (i : ℕ) (e : Entry) (reading : Option Reading) (later : List Reading)
    → i < length journal → e ≡ get_or journal i e
    → reading ≡ slice_get kept 0 → later ≡ readings_after e.outcome kept
    → steps_text kept (drop i journal) ≡ step_text reading e ++ steps_text later (drop (i + 1) journal)
steps_more kept journal i e reading later within is found rest =
    let cut : drop i journal ≡ e ∷ drop (i + 1) journal = drop_more journal i e within ∙ ap (λ x. x ∷ drop (i + 1) journal) (sym is) in
    ap (steps_text kept) cut ∙ ap (λ r. step_text r e ++ steps_text (readings_after e.outcome kept) (drop (i + 1) journal)) (sym found)
    ∙ ap (λ k. step_text reading e ++ steps_text k (drop (i + 1) journal)) (sym rest)

-- an entry, and then those after it
pub entry_put : {P : Type 0} {takes : P → List ℕ → P → Type 0} {p q r : P} (kept : List Reading) (journal : List Entry) (i : ℕ)
    (e : Entry) (reading : Option Reading) (later : List Reading)
    → i < length journal → e ≡ get_or journal i e → reading ≡ slice_get kept 0 → later ≡ readings_after e.outcome kept
    → Puts takes p (step_text reading e) q → Puts takes q (steps_text later (drop (i + 1) journal)) r
    → Puts takes p (steps_text kept (drop i journal)) r
entry_put kept journal i e reading later within is found rest one two =
    is_put _ _ (steps_more kept journal i e reading later within is found rest) (then one two)

ends_more : (ends : List ReceiverEnd) (i : ℕ) (d : ReceiverEnd) → i < length ends
    → flat_map receiver_text (enumerate_from (i + 1) (drop i ends)) ≡ receiver_text (i + 1, get_or ends i d) ++ flat_map receiver_text
    (enumerate_from (i + 1 + 1) (drop (i + 1) ends))
ends_more ends i d within = ap (λ e. flat_map receiver_text (enumerate_from (i + 1) e)) (drop_more ends i d within)

-- a receiver, and then those after it
pub end_put : {P : Type 0} {takes : P → List ℕ → P → Type 0} {p q r : P} (ends : List ReceiverEnd) (i : ℕ) (d : ReceiverEnd)
    → i < length ends
    → Puts takes p (receiver_text (i + 1, get_or ends i d)) q
    → Puts takes q (flat_map receiver_text (enumerate_from (i + 1 + 1) (drop (i + 1) ends))) r
    → Puts takes p (flat_map receiver_text (enumerate_from (i + 1) (drop i ends))) r
end_put ends i d within one two = is_put _ _ (ends_more ends i d within) (then one two)

-- no receiver is left
pub no_end : {P : Type 0} {takes : P → List ℕ → P → Type 0} {p : P} (ends : List ReceiverEnd) (i : ℕ) → length ends ≤ i
    → Puts takes p (flat_map receiver_text (enumerate_from (i + 1) (drop i ends))) p
no_end ends i past = is_put _ _ (ap (λ e. flat_map receiver_text (enumerate_from (i + 1) e)) (drop_all i ends past)) none
