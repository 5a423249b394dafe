-- What is answered to lines of deliveries.
use Rattle.std.specs.Prelude.{ℕ, ◌<◌, List, [], ◌∷◌, ◌++◌, Option, Some, None}
use Rattle.std.specs.List.{flat_map}
use Rattle.std.specs.Option.{option_to_list}
use Rattle.meter_address.specs.declared.address.Address.{Address}
use Rattle.meter_address.specs.Commission.{Commissioned}
use Rattle.meter_side_main.specs.declared.lines.Answer.{Answer}
use Rattle.meter_side_main.specs.declared.lines.Answer.TheVariants.{Bad, Heard}
use Rattle.meter_side_main.specs.declared.delivery.Executed.{Executed}
use Rattle.meter_side_main.specs.declared.reason.Did.TheVariants as did
use Rattle.meter_side_main.specs.Reading.{executed_in}
use Rattle.meter_side_main.specs.Genuine.{IsGenuine}
use Rattle.meter_side_main.specs.Refusals.{IsRefusal}
use Rattle.meter_side_main.specs.Lines.{delivery_in, answer_of, last_by, answer_text, last_text}

-- what is answered to a line that delivers this, after this last counter: a genuine downlink above it is executed, and another delivery is
-- refused by its first cause
abbrev pub IsAnswer : Address → Commissioned → ℕ → Option (List ℕ) → Answer → Type 0
IsAnswer own c last None Bad = Unit {0}
IsAnswer own c last (Some d) (Heard (did.Executed e)) = IsGenuine own c d e × (last < e.down)
IsAnswer own c last (Some d) (Heard (did.Refused reason)) = IsRefusal own c last d reason
IsAnswer own c last _ _ = ⊥

-- what is answered to some lines, one after another, after this last counter
abbrev pub AreAnswers : Address → Commissioned → ℕ → List (List ℕ) → List Answer → Type 0
AreAnswers own c last [] [] = Unit {0}
AreAnswers own c last (line ∷ lines) (answer ∷ answers) =
    IsAnswer own c last (delivery_in line) answer × AreAnswers own c (last_by last answer) lines answers
AreAnswers own c last _ _ = ⊥

-- what some lines deliver
abbrev pub deliveries_in : List (List ℕ) → List (List ℕ)
deliveries_in [] = []
deliveries_in (line ∷ lines) = option_to_list (delivery_in line) ++ deliveries_in lines

-- what some answers execute
abbrev pub executed_among : List Answer → List Executed
executed_among [] = []
executed_among (Bad ∷ answers) = executed_among answers
executed_among (Heard done ∷ answers) = executed_in done ++ executed_among answers

-- the last counter after some answers
abbrev pub last_after_all : ℕ → List Answer → ℕ
last_after_all last [] = last
last_after_all last (answer ∷ answers) = last_after_all (last_by last answer) answers

-- the text of all answers, and of the last counter
abbrev pub side_text : Commissioned → List Answer → List ℕ
side_text c answers = flat_map answer_text answers ++ last_text (last_after_all c.down answers)

-- ---- the same, computed

abbrev pub answers_to : Address → Commissioned → ℕ → List (List ℕ) → List Answer
answers_to own c last [] = []
answers_to own c last (line ∷ lines) =
    let answer : Answer = answer_of own c last (delivery_in line) in
    answer ∷ answers_to own c (last_by last answer) lines
