-- What a reading of several steps answers, by what each step does, and what a test on the way said.
use Rattle.std.proofs.Common.{⊎_elim, ◌≡◌, ℕ, ◌<◌, true, eqb, ◌||◌, Option, Some, None, Result, Ok, Err, refl, is_some, unwrap_or, MatchResult}
use Rattle.std.proofs.lemmas.Bool.{agree_below_at, ne_eqb, or_from, or_cases, both_ways}
use Rattle.lists.specs.Steps.{◌>>=◌}
use Rattle.dif_vif.specs.declared.fault.RecordFault.{RecordFault}
use Rattle.dif_vif.specs.Spelling.{field_width}

-- What is read is so, and so is a fault.
pub record Reads {A : Type 0} (P : A → Type 0) (F : RecordFault → Type 0) (r : Result A RecordFault) : Type 0 where
  pub is : MatchResult r P F

-- a step, and those behind it
pub bind_reads : {A B : Type 0} {P : A → Type 0} {Q : B → Type 0} {G F : RecordFault → Type 0} (r : Result A RecordFault)
    (f : A → Result B RecordFault) → Reads P G r → ((fault : RecordFault) → G fault → F fault) → ((x : A) → P x → Reads Q F (f x))
    → Reads Q F (r >>= f)
bind_reads (Ok x) f h bad good = good x h.is
bind_reads (Err fault) f h bad good = record { is = bad fault h.is }

abbrev done : {A : Type 0} → A → Result A RecordFault
done x = Ok x

pub ok_is : {A : Type 0} (x y : A) → done x ≡ done y → x ≡ y
ok_is x y e = cc

pub some_is : (o : Option ℕ) → is_some o ≡ true → o ≡ Some (unwrap_or o 0)
some_is (Some n) e = refl
some_is None e = absurd cc

-- every data field has its width but a selection, an LVAR and a special function
pub field_some : (field : ℕ) → field < 16 → (field ≡ 8 → ⊥) → (field ≡ 13 → ⊥) → (field ≡ 15 → ⊥) → is_some (field_width field) ≡ true
field_some field lt not_8 not_13 not_15 =
    let width_or_not = agree_below_at (λ f. is_some (field_width f) || (eqb f 8 || (eqb f 13 || eqb f 15))) (λ _. true) 16 field refl lt in
    let not_any =
    or_from (eqb field 8) (eqb field 13 || eqb field 15) (ne_eqb field 8 not_8)
    (or_from (eqb field 13) (eqb field 15) (ne_eqb field 13 not_13) (ne_eqb field 15 not_15)) in
    ⊎_elim (λ some. some) (λ any. absurd (both_ways (eqb field 8 || (eqb field 13 || eqb field 15)) not_any any))
    (or_cases (is_some (field_width field)) (eqb field 8 || (eqb field 13 || eqb field 15)) width_or_not)
