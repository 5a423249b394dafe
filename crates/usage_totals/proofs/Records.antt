-- The records of a payload, one after another.
use Rattle.std.proofs.Common.{◌≡◌, ℕ, ◌≤◌, List, [], length, fold, Option, Some, None, Ok, ℤ, refl, sym, ap, ◌∙◌, false, ◌==◌, if◌then◌else◌, arith}
use Rattle.std.specs.List.{filter_map, cons_option}
use Rattle.std.proofs.lemmas.Bool.Decides.{nat_tests}
use Rattle.dif_vif.specs.declared.span.RecordSpan.{RecordSpan}
use Rattle.dif_vif.specs.Reading.{next_of}
use Rattle.dif_vif.specs.Listing.{spans_from}
use Rattle.dif_vif.proofs.Listed.{spans_here}
use Rattle.usage_totals.specs.declared.key.UsageKey.{UsageKey}
use Rattle.usage_totals.specs.Amounts.{Row, noted, noted_if, given}

pub not_instantaneous : {A : Type 0} (n : ℕ) (x : Option A) → (n ≡ 0 → ⊥) → None ≡ (if n == 0 then x else None)
not_instantaneous n x other = let test : (n == 0) ≡ false = grind (arith, nat_tests) in rw test refl

noted_next : (row : Row) (found : Option (UsageKey × ℤ)) (others : Row)
    → fold noted row (cons_option found others) ≡ fold noted (noted_if row found) others
noted_next row None others = refl
noted_next row (Some entry) others = refl

-- the amounts of what is left, noted
unfoldable pub noted_from : List ℕ → ℕ → Row → Row
noted_from payload from row = fold noted row (filter_map (given payload) (spans_from (length payload) payload from))

pub noted_here : (payload : List ℕ) (from : ℕ) (span : RecordSpan) (row : Row) → from ≤ length payload
    → next_of payload from ≡ Ok (Some span)
    → noted_from payload from row ≡ noted_from payload span.end (noted_if row (given payload span))
unfolding noted_from
noted_here payload from span row le e =
    ap (λ spans. fold noted row (filter_map (given payload) spans)) (spans_here payload from span le e)
    ∙ noted_next row (given payload span) (filter_map (given payload) (spans_from (length payload) payload span.end))

-- where nothing is left to note, what is noted is the whole
pub all_noted : (payload : List ℕ) (from : ℕ) {row all : Row} → spans_from (length payload) payload from ≡ []
    → noted_from payload from row ≡ all → row ≡ all
unfolding noted_from
all_noted payload from {row} none is = sym (ap (λ spans. fold noted row (filter_map (given payload) spans)) none) ∙ is
