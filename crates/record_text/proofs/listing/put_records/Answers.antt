-- A listing that is written line by line.
use Rattle.std.proofs.Common.{◌≡◌, ℕ, ◌-◌, ◌<◌, List, Option, Result, refl, sym, ap, ◌∙◌, subst, IfSome, Ok, Err, Some, None, arith}
use Rattle.dif_vif.specs.declared.fault.RecordFault.{RecordFault}
use Rattle.dif_vif.specs.declared.span.RecordSpan.{RecordSpan}
use Rattle.dif_vif.specs.Spans.{LiesWithin}
use Rattle.dif_vif.specs.Reading.{next_of}
use Rattle.dif_vif.proofs.Left.{next_left}
use Rattle.paper.specs.Puts.{Puts}
use Rattle.paper.proofs.Calls.{none, then}
use Rattle.paper.proofs.Items.{is_put}
use Rattle.record_text.specs.RecordText.{next_text, listed}
use Rattle.record_text.proofs.listing.put_records.Goals as goal

-- a line is written, a fault ends the listing, or nothing but fillers is left
next_put : {P : Type 0} {takes : P → List ℕ → P → Type 0} {p q : P} (n : ℕ) (payload : List ℕ) (from : ℕ)
    (next : Result (Option RecordSpan) RecordFault) → 0 < n → next_of payload from ≡ next
    → Puts takes p (next_text (listed (n - 1) payload) payload next) q → Puts takes p (listed n payload from) q
unfolding listed
next_put n payload from next some is =
    is_put _ _ (next_left (λ m. listed m payload from) (λ m. next_text (listed m payload) payload) payload from (λ m. refl) n next some is)

pub returns-in-Err : goal.returns-in-Err
returns-in-Err g c =
    c.records.invariant.1 _ (next_put c.records.left c.args.payload.now c.records.from (Err c.in-Err.fault)
    (omega (arith, c.records-test.true)) (sym c.in-Err.ensures.exact) c.put_fault.ensures)

pub returns-in-Ok-None : goal.returns-in-Ok-None
returns-in-Ok-None g c =
    c.records.invariant.1 _ (next_put c.records.left c.args.payload.now c.records.from (Ok None) (omega (arith, c.records-test.true))
    (sym c.in-Ok-None.ensures.exact ∙ ap Ok c.in-Ok-None.field-0-is) none)

pub records-preserved : goal.records-preserved
records-preserved g c =
    let within : LiesWithin c.args.payload.now c.in-Ok-Some.span =
    subst (λ next. IfSome next (LiesWithin c.args.payload.now)) c.in-Ok-Some.field-0-is c.in-Ok-Some.ensures.within in (
      within.within,
      λ q later. c.records.invariant.1 q
          (next_put c.records.left c.args.payload.now c.records.from (Ok (Some c.in-Ok-Some.span)) (omega (arith, c.records-test.true))
          (sym c.in-Ok-Some.ensures.exact ∙ ap Ok c.in-Ok-Some.field-0-is) (then c.put_span.ensures later)),
    )

pub returns : goal.returns
unfolding listed
returns g c =
    let none : c.records.left ≡ 0 = omega (arith, c.records-test.false) in
    c.records.invariant.1 _ (is_put _ _ (ap (λ n. listed n c.args.payload.now c.records.from) none) c.put_more.ensures)
