-- What words ask for.
use Rattle.std.proofs.Common.{ℕ, ◌≡◌, List, [], ◌∷◌, Bool, true, false, cond, Result, Ok, Err, length, refl}
use Rattle.std.specs.Prelude.{codes}
use Rattle.wmbus_words.specs.declared.asked.Asked.TheVariants as asks
use Rattle.wmbus_words.specs.declared.asked.Plan.{Plan}
use Rattle.wmbus_words.specs.declared.asked.StepsPlan.{StepsPlan}
use Rattle.wmbus_words.specs.declared.asked.WordsFault.{WordsFault}
use Rattle.plain_text.specs.Parts.{is_word}
use Rattle.lists.specs.Steps.{◌>>=◌}
use Rattle.wmbus_words.specs.Words.{asked_of, plan_of, steps_plan}

-- ---- steps

-- steps have four words
of_steps : (words : List (List ℕ)) (plan : StepsPlan) → steps_plan words ≡ Ok plan → length words ≡ 4
of_steps [] plan is = absurd cc
of_steps (a ∷ []) plan is = absurd cc
of_steps (a ∷ b ∷ []) plan is = absurd cc
of_steps (a ∷ b ∷ c ∷ []) plan is = absurd cc
of_steps (a ∷ b ∷ c ∷ d ∷ []) plan is = refl
of_steps (a ∷ b ∷ c ∷ d ∷ e ∷ more) plan is = absurd cc

steps_asked : (r : Result StepsPlan WordsFault) (plan : StepsPlan) → (r >>= λ steps. Ok (asks.Steps steps)) ≡ Ok (asks.Steps plan)
    → r ≡ Ok plan
steps_asked (Ok steps) plan is = cc
steps_asked (Err e) plan is = absurd cc

no_steps_asked : (r : Result Plan WordsFault) (plan : StepsPlan) → (r >>= λ session. Ok (asks.Session session)) ≡ Ok (asks.Steps plan) → ⊥
no_steps_asked (Ok session) plan is = absurd cc
no_steps_asked (Err e) plan is = absurd cc

of_asked : (b : Bool) (words : List (List ℕ)) (plan : StepsPlan)
    → cond b (steps_plan words >>= λ steps. Ok (asks.Steps steps)) (plan_of words >>= λ session. Ok (asks.Session session))
    ≡ Ok (asks.Steps plan)
    → length words ≡ 4
of_asked true words plan is = of_steps words plan (steps_asked (steps_plan words) plan is)
of_asked false words plan is = absurd (no_steps_asked (plan_of words) plan is)

pub steps_counted : (words : List (List ℕ)) (plan : StepsPlan) → asked_of words ≡ Ok (asks.Steps plan) → length words ≡ 4
steps_counted [] plan is = absurd cc
steps_counted (command ∷ words) plan is = of_asked (is_word command (codes "steps")) (command ∷ words) plan is

-- ---- a session

session_asked : (r : Result Plan WordsFault) (plan : Plan) → (r >>= λ session. Ok (asks.Session session)) ≡ Ok (asks.Session plan)
    → r ≡ Ok plan
session_asked (Ok session) plan is = cc
session_asked (Err e) plan is = absurd cc

no_session_asked : (r : Result StepsPlan WordsFault) (plan : Plan) → (r >>= λ steps. Ok (asks.Steps steps)) ≡ Ok (asks.Session plan) → ⊥
no_session_asked (Ok steps) plan is = absurd cc
no_session_asked (Err e) plan is = absurd cc

of_session : (b : Bool) (words : List (List ℕ)) (plan : Plan)
    → cond b (steps_plan words >>= λ steps. Ok (asks.Steps steps)) (plan_of words >>= λ session. Ok (asks.Session session))
    ≡ Ok (asks.Session plan)
    → plan_of words ≡ Ok plan
of_session true words plan is = absurd (no_session_asked (steps_plan words) plan is)
of_session false words plan is = session_asked (plan_of words) plan is

-- what asks for a session names its plan
pub session_named : (words : List (List ℕ)) (plan : Plan) → asked_of words ≡ Ok (asks.Session plan) → plan_of words ≡ Ok plan
session_named [] plan is = absurd cc
session_named (command ∷ words) plan is = of_session (is_word command (codes "steps")) (command ∷ words) plan is
