-- What a record says, put piece by piece.
use Rattle.std.proofs.Common.{◌≡◌, ℕ, ◌++◌, Bool, List, Option, refl}
use Rattle.record_values.specs.declared.units.Quantity.{Quantity}
use Rattle.full_records.specs.declared.quantities.FullQuantity.{FullQuantity}
use Rattle.full_records.specs.declared.quantities.FullUnitName.{FullUnitName}
use Rattle.full_records.specs.declared.makers_own.PlainValue.{PlainValue}
use Rattle.full_records.specs.declared.qualifiers.Qualifier.{Qualifier}
use Rattle.full_records.specs.declared.readings.DataType.{DataType}
use Rattle.full_records.specs.declared.values.FullValue.{FullValue}
use Rattle.paper.specs.Puts.{Puts}
use Rattle.paper.proofs.Calls.{six_make}
use Rattle.record_objects.specs.declared.forms.Form.{Form}
use Rattle.record_objects.specs.Words.{measure_words, value_words, kind_words, profile_words, plain_words, byte_words}

-- the pieces of what was read are those of what is meant
pub pieces_put : {P : Type 0} {takes : P → List ℕ → P → Type 0} {p0 p1 p2 p3 p4 p5 p6 : P} (form : Form) {q q' : FullQuantity} {u u' : FullUnitName}
    {v v' : FullValue} {n n' : Bool} {s s' : List ℕ} {qs qs' : List Qualifier} {t t' : DataType} {named named' : Quantity}
    {p p' : Option PlainValue} {m m' b b' : List ℕ}
    → q ≡ q' → u ≡ u' → v ≡ v' → n ≡ n' → s ≡ s' → qs ≡ qs' → t ≡ t' → named ≡ named' → p ≡ p' → m ≡ m' → b ≡ b'
    → Puts takes p0 (measure_words form q u) p1 → Puts takes p1 (value_words form v n s) p2
    → Puts takes p2 (kind_words form qs n t) p3 → Puts takes p3 (profile_words form named q) p4 → Puts takes p4 (plain_words form p s) p5
    → Puts takes p5 (byte_words form m b) p6 → Puts takes p0 (measure_words form q' u' ++ value_words form v' n' s' ++ kind_words form qs' n' t'
    ++ profile_words form named' q' ++ plain_words form p' s' ++ byte_words form m' b') p6
pieces_put form {q} {u} {v} {n} {s} {qs} {t} {named} {p} {m} {b} q_is u_is v_is n_is s_is qs_is t_is named_is p_is m_is b_is one two three four five six =
    rw (← q_is, ← u_is, ← v_is, ← n_is, ← s_is, ← qs_is, ← t_is, ← named_is, ← p_is, ← m_is, ← b_is)
    (six_make (measure_words form q u ++ value_words form v n s ++ kind_words form qs n t ++ profile_words form named q
    ++ plain_words form p s ++ byte_words form m b) one two three four five six refl)
