-- A fault is told exactly where its cause stands behind the fillers, and just where no span begins.
use Rattle.std.proofs.Common.{◌≡◌, ℕ, ◌≤◌, false, length, get_or, drop, List, Option, Some, Result, Ok, Err, refl, sym, ap, subst, ◌∙◌, IsErr}
use Rattle.dif_vif.specs.declared.fault.RecordFault.{RecordFault}
use Rattle.dif_vif.specs.declared.span.RecordSpan.{RecordSpan}
use Rattle.lists.specs.Steps.{◌>>=◌}
use Rattle.dif_vif.specs.Spans.{span_of, NoneBegins}
use Rattle.dif_vif.specs.Reading.{record_at, begins_maker, span_at, next_of}
use Rattle.dif_vif.specs.Stops.{EndsBy}
use Rattle.dif_vif.proofs.Spans.{rest_at, skip, next_of-span, no_maker, other_byte, span_at-record, span_again, next_reads, none_refuses}
use Rattle.dif_vif.proofs.Steps.{Reads}
use Rattle.dif_vif.proofs.Stopped.{stops_record}

-- a cause gives its fault
span_stopped : (bytes : List ℕ) (from : ℕ) (fault : RecordFault) (n : EndsBy bytes from fault)
    → span_at (length bytes) n.place (drop n.place bytes) ≡ Err fault
span_stopped bytes from fault n =
    let first = rest_at bytes n.place n.within in
    let other : begins_maker (get_or bytes n.place 0) ≡ false =
    no_maker _ (other_byte bytes n.place 0x0f n.within n.not_maker) (other_byte bytes n.place 0x1f n.within n.nor_more) in
    ap (span_at (length bytes) n.place) first ∙ span_at-record (length bytes) n.place _ _ other
    ∙ ap (λ found. found >>= λ x. Ok (span_of n.place x.0)) (ap (record_at n.place) (sym first)
    ∙ stops_record n.place (drop n.place bytes) fault n.stops)

pub ends_only : (bytes : List ℕ) (from : ℕ) (fault : RecordFault) → EndsBy bytes from fault → next_of bytes from ≡ Err fault
ends_only bytes from fault n =
    skip bytes from n.place n.fillers
    ∙ next_of-span bytes n.place n.within (other_byte bytes n.place 0x2f n.within n.not_filler)
    ∙ ap (λ found. found >>= λ span. Ok (Some span)) (span_stopped bytes from fault n)

-- and no span begins there
pub none_begins : (bytes : List ℕ) (from : ℕ) (fault : RecordFault) → EndsBy bytes from fault → NoneBegins bytes from
none_begins bytes from fault n =
    record {
      place = n.place;
      fillers = n.fillers;
      within = n.within;
      not_filler = n.not_filler;
      no_span = λ span here is.
          (let there = ap (λ (p : ℕ). span_at (length bytes) p (drop p bytes)) here in
          let again = span_again bytes span is in
          let stopped = span_stopped bytes from fault n in
          cc);
    }

pub ends_found : (bytes : List ℕ) (from : ℕ) (fault : RecordFault) → from ≤ length bytes → next_of bytes from ≡ Err fault
    → EndsBy bytes from fault
ends_found bytes from fault le e = (subst (Reads _ _) e (next_reads bytes from le)).is

-- ---- the clauses of next_record

pub cause_is : (bytes : List ℕ) (from : ℕ) (r : Result (Option RecordSpan) RecordFault) (fault : RecordFault) → from ≤ length bytes
    → r ≡ next_of bytes from → (r ≡ Err fault → EndsBy bytes from fault) × (EndsBy bytes from fault → r ≡ Err fault)
cause_is bytes from r fault le e = (λ is. ends_found bytes from fault le (sym e ∙ is), λ n. e ∙ ends_only bytes from fault n)

pub refused_iff : (bytes : List ℕ) (from : ℕ) (r : Result (Option RecordSpan) RecordFault) → from ≤ length bytes → r ≡ next_of bytes from
    → (IsErr r → NoneBegins bytes from) × (NoneBegins bytes from → IsErr r)
refused_iff bytes from (Ok next) le e = (λ bad. absurd cc, λ n. subst IsErr (sym e) (none_refuses bytes from n))
refused_iff bytes from (Err fault) le e = (λ _. none_begins bytes from fault (ends_found bytes from fault le (sym e)), λ _. refl)
