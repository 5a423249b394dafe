-- Records whose lines are put one after another, and what a record says, put piece by piece.
use Rattle.std.proofs.Common.{◌≡◌, ℕ, ◌+◌, ◌-◌, ◌<◌, ◌++◌, Bool, List, Option, Result, refl}
use Rattle.dif_vif.specs.declared.fault.RecordFault.{RecordFault}
use Rattle.dif_vif.specs.declared.span.RecordSpan.{RecordSpan}
use Rattle.full_spans.specs.Walk.{next_full_of}
use Rattle.full_spans.proofs.Listings.{next_full_left}
use Rattle.full_records.specs.declared.quantities.FullQuantity.{FullQuantity}
use Rattle.full_records.specs.declared.quantities.FullUnitName.{FullUnitName}
use Rattle.full_records.specs.declared.qualifiers.Qualifier.{Qualifier}
use Rattle.full_records.specs.declared.values.FullValue.{FullValue}
use Rattle.paper.specs.Puts.{Puts}
use Rattle.paper.proofs.Calls.{three_make}
use Rattle.paper.proofs.Items.{is_put}
use Rattle.frame_inspect.specs.Names.{name_text}
use Rattle.frame_inspect.specs.RecordLines.{place_words, value_words, next_text, records_from}

-- the pieces of what was read are those of what is meant
pub pieces_put : {P : Type 0} {takes : P → List ℕ → P → Type 0} {p0 p1 p2 p3 : P} (number : ℕ) (span : RecordSpan) {d d' : List ℕ}
    {q q' : FullQuantity} {qs qs' : List Qualifier} {n n' : Bool} {v v' : FullValue} {u u' : FullUnitName} {s s' : List ℕ}
    → d ≡ d' → q ≡ q' → qs ≡ qs' → n ≡ n' → v ≡ v' → u ≡ u' → s ≡ s'
    → Puts takes p0 (place_words number d) p1 → Puts takes p1 (name_text q qs n span) p2 → Puts takes p2 (value_words v u s) p3
    → Puts takes p0 (place_words number d' ++ name_text q' qs' n' span ++ value_words v' u' s') p3
pieces_put number span {d} {q} {qs} {n} {v} {u} {s} d_is q_is qs_is n_is v_is u_is s_is one two three =
    rw (← d_is, ← q_is, ← qs_is, ← n_is, ← v_is, ← u_is, ← s_is)
    (three_make (place_words number d ++ name_text q qs n span ++ value_words v u s) one two three refl)

-- a line is put, a fault ends the records, or nothing but fillers is left
pub next_put : {P : Type 0} {takes : P → List ℕ → P → Type 0} {p q : P} (n : ℕ) (payload : List ℕ) (number from : ℕ)
    (next : Result (Option RecordSpan) RecordFault) → 0 < n → next_full_of payload from ≡ next
    → Puts takes p (next_text (records_from (n - 1) payload (number + 1)) payload number next) q
    → Puts takes p (records_from n payload number from) q
unfolding records_from
next_put n payload number from next some is =
    is_put _ _ (next_full_left (λ m. records_from m payload number from)
    (λ m. next_text (records_from m payload (number + 1)) payload number) payload from (λ m. refl) n next some is)
