-- What words ask for, by their first one.
use Rattle.std.proofs.Common.{◌≡◌, ℕ, Bool, true, false, List, [], ◌∷◌, map, Option, Some, None, Result, Ok, Err, refl, sym, ap, ◌∙◌, String, Global}
use Rattle.std.specs.Prelude.{codes, slice_get}
use Rattle.std.specs.Result.{IsErrAnd}
use Rattle.std.specs.String.{string_bytes}
use Rattle.lists.specs.Steps.{◌>>=◌}
use Rattle.plain_text.specs.Parts.{is_word}
use Rattle.wmbus_words.specs.Words.{plan_of, asked_of, hear_plan, receivers_in, made_plan, steps_plan}
use Rattle.wmbus_words.specs.declared.asked.Asked.TheVariants as asks
use Rattle.wmbus_words.specs.declared.asked.Plan.TheVariants as plans
use Rattle.wmbus_words.specs.declared.asked.WordsFault.{WordsFault}
use Rattle.wmbus_words.specs.declared.asked.WordsFault.TheVariants as faults

-- ---- a step that was taken

pub with_ok : {A B : Type 0} {step : Result A WordsFault} (next : A → Result B WordsFault) (x : A) → Ok x ≡ step → next x ≡ (step >>= next)
with_ok next x is = ap (λ r. r >>= next) is

-- a step's fault is what is answered
pub with_err : {A B : Type 0} {step : Result A WordsFault} (next : A → Result B WordsFault) (result : Result B WordsFault) (e : WordsFault)
    → Err e ≡ step → IsErrAnd result (λ d. d ≡ e) → result ≡ (step >>= next)
with_err next (Ok x) e is handed = absurd handed
with_err next (Err d) e is handed = ap Err handed ∙ ap (λ r. r >>= next) is

-- ---- the first word

pub compared : {b : Bool} {text bytes : List ℕ} (word : List ℕ) → text ≡ bytes → b ≡ is_word text word → is_word bytes word ≡ b
compared word same told = ap (λ t. is_word t word) (sym same) ∙ sym told

behind : (words : List (String Global)) (command : String Global) → Some command ≡ slice_get words 0
    → (later : List (String Global)) × (words ≡ command ∷ later)
behind [] command first = absurd cc
behind (x ∷ later) command first = (later, cc)

module _ (words : List (String Global)) (command : String Global) (first : Some command ≡ slice_get words 0) where
  pub asks_steps : is_word (string_bytes command) (codes "steps") ≡ true
      → (steps_plan (map string_bytes words) >>= λ steps. Ok (asks.Steps steps)) ≡ asked_of (map string_bytes words)
  asks_steps steps = rw ((behind words command first).1, steps) refl

  pub asks_session : is_word (string_bytes command) (codes "steps") ≡ false
      → (plan_of (map string_bytes words) >>= λ plan. Ok (asks.Session plan)) ≡ asked_of (map string_bytes words)
  asks_session steps = rw ((behind words command first).1, steps) refl

  pub plans_hear : is_word (string_bytes command) (codes "hear") ≡ true → hear_plan (map string_bytes words) ≡ plan_of (map string_bytes words)
  plans_hear hear = rw ((behind words command first).1, hear) refl

  pub plans_collect : is_word (string_bytes command) (codes "hear") ≡ false → is_word (string_bytes command) (codes "collect") ≡ true
      → (receivers_in (map string_bytes words) >>= λ n. Ok (plans.Collect n)) ≡ plan_of (map string_bytes words)
  plans_collect hear collect = rw ((behind words command first).1, hear, collect) refl

  pub plans_continue : is_word (string_bytes command) (codes "hear") ≡ false → is_word (string_bytes command) (codes "collect") ≡ false
      → is_word (string_bytes command) (codes "continue") ≡ true
      → (receivers_in (map string_bytes words) >>= λ n. Ok (plans.Continue n)) ≡ plan_of (map string_bytes words)
  plans_continue hear collect continue = rw ((behind words command first).1, hear, collect, continue) refl

  pub plans_made : is_word (string_bytes command) (codes "hear") ≡ false → is_word (string_bytes command) (codes "collect") ≡ false
      → is_word (string_bytes command) (codes "continue") ≡ false → is_word (string_bytes command) (codes "made") ≡ true
      → made_plan (map string_bytes words) ≡ plan_of (map string_bytes words)
  plans_made hear collect continue made = rw ((behind words command first).1, hear, collect, continue, made) refl

  pub plans_nothing : is_word (string_bytes command) (codes "hear") ≡ false → is_word (string_bytes command) (codes "collect") ≡ false
      → is_word (string_bytes command) (codes "continue") ≡ false → is_word (string_bytes command) (codes "made") ≡ false
      → Err faults.Command ≡ plan_of (map string_bytes words)
  plans_nothing hear collect continue made = rw ((behind words command first).1, hear, collect, continue, made) refl
