-- How many words a plan has.
use Rattle.std.proofs.Common.{ℕ, ◌≡◌, ◌+◌, ◌-◌, ◌/◌, ◌==◌, ◌≤◌, List, [], ◌∷◌, Bool, true, false, cond, Option, Some, None, Result, Ok, Err, length, refl, ◌∙◌, subst, ◌^◌, IfOk, arith}
use Rattle.std.proofs.lemmas.Bool.Decides.{nat_tests}
use Rattle.std.specs.Prelude.{codes}
use Rattle.wmbus_words.specs.declared.asked.Plan.{Plan}
use Rattle.wmbus_words.specs.declared.asked.Plan.TheVariants as plans
use Rattle.wmbus_words.specs.declared.asked.WordsFault.{WordsFault}
use Rattle.wmbus_words.specs.declared.asked.WordsFault.TheVariants as faults
use Rattle.plain_text.specs.Parts.{is_word}
use Rattle.lists.specs.Steps.{◌>>=◌}
use Rattle.wmbus_words.specs.Words.{is_count, unless_clash, first_clash, number_at, hear_plan, receivers_in, made_plan, plan_of}

-- the number of a plan's words, and of its receivers
abbrev pub IsCounted : ℕ → Plan → Type 0
IsCounted n plans.Hear = n ≡ 3
IsCounted n (plans.Collect count) = (6 ≤ n) × (count ≡ (n - 4) / 2)
IsCounted n (plans.Continue count) = (6 ≤ n) × (count ≡ (n - 4) / 2)
IsCounted n (plans.Made meters telegrams number) = Unit {0}

of_hear : (n : ℕ) (b : Bool) (plan : Plan) → (n == 3) ≡ b → cond b (Ok plans.Hear) (Err (faults.Count n)) ≡ Ok plan → IsCounted n plan
of_hear n true plan test is = let same : plans.Hear ≡ plan = cc in subst (IsCounted n) same (grind (arith, nat_tests))
of_hear n false plan test is = absurd cc

least_of : (n : ℕ) → is_count n ≡ true → 6 ≤ n
least_of n test = grind (arith, nat_tests)

-- a plan of some receivers
module _ (named : ℕ → Plan) (counted : (n : ℕ) → 6 ≤ n → IsCounted n (named ((n - 4) / 2))) where
  of_clash : (n : ℕ) (o : Option (ℕ × ℕ)) (plan : Plan) → is_count n ≡ true
      → (unless_clash o ((n - 4) / 2) >>= λ k. Ok (named k)) ≡ Ok plan → IsCounted n plan
  of_clash n None plan test is = let same : named ((n - 4) / 2) ≡ plan = cc in subst (IsCounted n) same (counted n (least_of n test))
  of_clash n (Some places) plan test is = absurd cc

  of_receivers : (n : ℕ) (b : Bool) (words : List (List ℕ)) (plan : Plan) → is_count n ≡ b
      → (cond b (unless_clash (first_clash 0 words) ((n - 4) / 2)) (Err (faults.Count n)) >>= λ k. Ok (named k)) ≡ Ok plan
      → IsCounted n plan
  of_receivers n true words plan test is = of_clash n (first_clash 0 words) plan test is
  of_receivers n false words plan test is = absurd cc

of_numbers : (n : ℕ) (a b c : Result ℕ WordsFault) (plan : Plan) → (a >>= λ m. b >>= λ t. c >>= λ k. Ok (plans.Made m t k)) ≡ Ok plan
    → IsCounted n plan
of_numbers n (Ok m) (Ok t) (Ok k) plan is = let same : plans.Made m t k ≡ plan = cc in subst (IsCounted n) same tt
of_numbers n (Ok m) (Ok t) (Err e) plan is = absurd cc
of_numbers n (Ok m) (Err e) c plan is = absurd cc
of_numbers n (Err e) b c plan is = absurd cc

of_made : (n : ℕ) (words : List (List ℕ)) (plan : Plan) → made_plan words ≡ Ok plan → IsCounted n plan
of_made n [] plan is = absurd cc
of_made n (a ∷ []) plan is = absurd cc
of_made n (a ∷ b ∷ []) plan is = absurd cc
of_made n (a ∷ b ∷ c ∷ []) plan is = absurd cc
of_made n (a ∷ b ∷ c ∷ d ∷ []) plan is = of_numbers n (number_at 1 1 1024 b) (number_at 2 1 16384 c) (number_at 3 0 (2 ^ 64 - 1) d) plan is
of_made n (a ∷ b ∷ c ∷ d ∷ e ∷ more) plan is = absurd cc

of_command : (b c d e : Bool) (words : List (List ℕ)) (plan : Plan)
    → cond b (hear_plan words) (cond c (receivers_in words >>= λ n. Ok (plans.Collect n))
    (cond d (receivers_in words >>= λ n. Ok (plans.Continue n)) (cond e (made_plan words) (Err faults.Command)))) ≡ Ok plan
    → IsCounted (length words) plan
of_command true c d e words plan is = of_hear (length words) (length words == 3) plan refl is
of_command false true d e words plan is =
    of_receivers plans.Collect (λ n least. (least, refl)) (length words) (is_count (length words)) words plan refl is
of_command false false true e words plan is =
    of_receivers plans.Continue (λ n least. (least, refl)) (length words) (is_count (length words)) words plan refl is
of_command false false false true words plan is = of_made (length words) words plan is
of_command false false false false words plan is = absurd cc

pub words_counted : (words : List (List ℕ)) (plan : Plan) → plan_of words ≡ Ok plan → IsCounted (length words) plan
words_counted [] plan is = absurd cc
words_counted (command ∷ words) plan is =
    of_command (is_word command (codes "hear")) (is_word command (codes "collect")) (is_word command (codes "continue"))
    (is_word command (codes "made")) (command ∷ words) plan is

pub counted_so : {F E : Type 0} (result : Result F E) (count : F → ℕ) (n m : ℕ) → n ≡ m → IfOk result (λ f. count f ≡ n)
    → IfOk result (λ f. count f ≡ m)
counted_so (Ok f) count n m same is = is ∙ same
counted_so (Err e) count n m same is = tt
