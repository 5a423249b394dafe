-- Which table a span's unit is taken from.
use Rattle.std.proofs.Common.{◌≡◌, ℕ, ◌%◌, false, eqb, List, ◌∙◌}
use Rattle.std.proofs.lemmas.Bool.{cond-false, ne_eqb}
use Rattle.dif_vif.specs.declared.span.RecordSpan.{RecordSpan}
use Rattle.record_values.specs.Units.{primary, unit_in, unit}

-- neither FB nor FD: the VIF's own code
pub unit-primary : (bytes : List ℕ) (span : RecordSpan) → span.maker ≡ false → (span.vif ≡ 0xfb → ⊥) → (span.vif ≡ 0xfd → ⊥)
    → unit bytes span ≡ unit_in primary (span.vif % 128) span.vifes_at span.vifes
unit-primary bytes span no_maker no_fb no_fd =
    cond-false span.maker _ _ no_maker ∙ cond-false (eqb span.vif 0xfb) _ _ (ne_eqb span.vif 0xfb no_fb)
    ∙ cond-false (eqb span.vif 0xfd) _ _ (ne_eqb span.vif 0xfd no_fd)
