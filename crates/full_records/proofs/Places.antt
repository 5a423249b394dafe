-- Where the further VIFEs of a span stand.
use Rattle.std.proofs.Common.{◌≡◌, ℕ, ◌%◌, ◌<◌, ◌≤◌, Bool, true, false, eqb, cond, ◌||◌, List, Some, None, refl, arith, slice_index}
use Rattle.std.proofs.lemmas.Bool.Decides.{nat_tests}
use Rattle.dif_vif.specs.declared.span.RecordSpan.{RecordSpan}
use Rattle.full_spans.specs.Long.{IsFullSpan}
use Rattle.full_spans.proofs.Found.{first_vife-from_full}
use Rattle.full_records.specs.Measures.{code_behind}

code_by : (maker test : Bool) (found code : ℕ) → cond maker None (cond test (Some found) None) ≡ Some code
    → (maker ≡ false) × (test ≡ true)
code_by true test found code e = absurd cc
code_by false true found code e = (refl, refl)
code_by false false found code e = absurd cc

pub from_top : (vif : ℕ) → (eqb vif 0xfb || eqb vif 0xfd) ≡ true → 128 ≤ vif
from_top vif e = grind (arith, nat_tests)

-- where a code stands in the first VIFE there is one
pub vife_of_code : (bytes : List ℕ) (span : RecordSpan) (code : ℕ) → IsFullSpan bytes span → code_behind bytes span ≡ Some code → 0 < span.vifes
vife_of_code bytes span code is e =
    let by = code_by span.maker (eqb span.vif 0xfb || eqb span.vif 0xfd) (slice_index bytes span.vifes_at % 128) code e in
    (first_vife-from_full bytes span is by.0 (from_top span.vif by.1)).0
