-- Which way a value is read.
use Rattle.std.proofs.Common.{◌≡◌, ℕ, ◌*◌, ◌-◌, ◌%◌, ◌<◌, ◌≤◌, eqb, ltb, List, length, take, Option, sym, ap, ◌∙◌, arith, slice_index}
use Rattle.std.proofs.lemmas.Bool.{lt-ltb, le-ltb, ne_eqb, cond-true, cond-false}
use Rattle.record_values.specs.declared.values.Value.{Value}
use Rattle.dif_vif.specs.declared.span.RecordSpan.{RecordSpan}
use Rattle.record_values.specs.declared.units.Quantity.{Quantity}
use Rattle.record_values.specs.declared.values.Reading.{Reading}
use Rattle.record_values.specs.Units.{unit}
use Rattle.record_values.specs.Values.{digits_of, decimal_of, positive, negative, bcd_value, lvar_value, unread, reading_of, value_as, data_of, value}
use Rattle.record_values.proofs.Decimal.{take-digits}

pub lvar-positive : (lvar : ℕ) (bytes : List ℕ) (read : Option ℕ) (v : Value) → 0xc0 ≤ lvar → lvar < 0xd0
    → read ≡ decimal_of (take (2 * length bytes) (digits_of bytes)) → v ≡ positive read → v ≡ lvar_value lvar bytes
lvar-positive lvar bytes read v low high is e =
    let all : read ≡ decimal_of (digits_of bytes) = is ∙ ap decimal_of (take-digits bytes) in
    e ∙ ap positive all ∙ sym (cond-false (ltb lvar 0xc0) _ _ (le-ltb lvar 0xc0 low)
    ∙ cond-true (ltb lvar 0xd0) _ _ (lt-ltb lvar 0xd0 high))

pub lvar-negative : (lvar : ℕ) (bytes : List ℕ) (read : Option ℕ) (v : Value) → 0xd0 ≤ lvar → lvar < 0xe0
    → read ≡ decimal_of (take (2 * length bytes) (digits_of bytes)) → v ≡ negative read → v ≡ lvar_value lvar bytes
lvar-negative lvar bytes read v low high is e =
    let all : read ≡ decimal_of (digits_of bytes) = is ∙ ap decimal_of (take-digits bytes) in
    e ∙ ap negative all ∙ sym (cond-false (ltb lvar 0xc0) _ _ (le-ltb lvar 0xc0 (omega arith))
    ∙ cond-false (ltb lvar 0xd0) _ _ (le-ltb lvar 0xd0 low) ∙ cond-true (ltb lvar 0xe0) _ _ (lt-ltb lvar 0xe0 high))

pub bcd-positive : (bytes : List ℕ) (top : ℕ) (read : Option ℕ) (v : Value) → top ≡ slice_index (digits_of bytes) (2 * length bytes - 1)
    → (top ≡ 15 → ⊥) → read ≡ decimal_of (take (2 * length bytes) (digits_of bytes)) → v ≡ positive read → v ≡ bcd_value bytes
bcd-positive bytes top read v top_is not_f is e =
    let all : read ≡ decimal_of (digits_of bytes) = is ∙ ap decimal_of (take-digits bytes) in
    e ∙ ap positive all
    ∙ sym (cond-false (eqb (slice_index (digits_of bytes) (2 * length bytes - 1)) 15) _ _ (ne_eqb _ 15 (λ f. not_f (top_is ∙ f))))

-- days and moments of another width are not read
pub unread_as : (r : Reading) (bytes sent : List ℕ) (span : RecordSpan) (quantity : Quantity) (v : Value)
    → quantity ≡ (unit bytes span).quantity → r ≡ reading_of quantity
    → value_as r (span.dif % 16) span.lvar (data_of bytes span) ≡ unread (data_of bytes span) → sent ≡ data_of bytes span → v ≡ unread sent
    → v ≡ value bytes span
unread_as r bytes sent span quantity v q e other same is =
    is ∙ ap unread same
    ∙ sym (ap (λ (x : Reading). value_as x (span.dif % 16) span.lvar (data_of bytes span)) (ap reading_of (sym q) ∙ sym e) ∙ other)
