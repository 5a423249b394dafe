use Rattle.std.proofs.Common.{◌≡◌, ◌++◌, ℕ, List, length, sym, ap, ap₂, ◌∙◌, arith, append_assoc}
use Rattle.std.proofs.lemmas.Bool.{eqb-false}
use Rattle.std.proofs.lemmas.List.{take-append-drop}
use Rattle.cbc_cmac.proofs.mac.Cmac.update.Goals as goal

pub take_in-requires-clause-some : goal.take_in-requires-clause-some
take_in-requires-clause-some c =
    let some : length c.loop-rest.rest.now ≡ 0 → ⊥ = eqb-false _ _ (sym c.loop-rest-test.ensures) in
    omega (arith, c.split_at.ensures.front_len, c.min.ensures, c.room.ensures)

pub loop-rest-smaller : goal.loop-rest-smaller
loop-rest-smaller c =
    let some : length c.loop-rest.rest.now ≡ 0 → ⊥ = eqb-false _ _ (sym c.loop-rest-test.ensures) in
    omega (arith, c.split_at.ensures.back_len, c.min.ensures, c.room.ensures)

pub loop-rest-preserved : goal.loop-rest-preserved
loop-rest-preserved c =
    let rest : List ℕ = c.loop-rest.rest.now in
    let front : List ℕ = c.split_at.result.0.now in
    let taken : List ℕ = c.loop-rest.invariant.0 in
    let cut : front ++ c.split_at.result.1.now ≡ rest =
    ap₂ (λ (x y : List ℕ). x ++ y) c.split_at.ensures.front c.split_at.ensures.back ∙ take-append-drop c.min.result rest in (
      taken ++ front,
      append_assoc taken front c.split_at.result.1.now ∙ ap (λ x. taken ++ x) cut ∙ c.loop-rest.invariant.1,
      λ key message h. rw (append_assoc message taken front) at
          (c.take_in.ensures key (message ++ taken) (c.loop-rest.invariant.2 key message h)),
    )
