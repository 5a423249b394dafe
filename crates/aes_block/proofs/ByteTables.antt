-- The tables of bytes are the definition's, and the two substitutions undo each other.
use Rattle.std.proofs.Common.{◌≡◌, ℕ, ◌<◌, ◌==◌, true, get_or, refl, sym, ap, ◌∙◌, ltb}
use Rattle.std.proofs.lemmas.Bool.{ltb-true}
use Rattle.aes_block.proofs.Bytes.{holds_below, at_each_below, same_below}
use Rattle.aes_block.proofs.Elements.{looked_up, inverse_looked_up}
use Rattle.aes_block.specs.Field.{substitute, product, polynomial_product, remainder, affine, inverse_affine, inverse_substitute}
use Rattle.aes_block.specs.Block.{power_of_x}
use Rattle.aes_block.specs.Laws.{SubstitutionIsABijection}
use Rattle.aes_block.specs.declared.rounds.TheConstants.{ROUND_CONSTANTS}
use Rattle.aes_block.specs.declared.tables.TheConstants.{SUBSTITUTION, INVERSE_SUBSTITUTION}

-- ---- the tables
-- (an inverse is looked up in the very table, so that none is searched for)
substituted_is_table : holds_below 256 (λ k. get_or SUBSTITUTION k 0 == affine (looked_up k)) ≡ true
unfolding affine looked_up inverse_affine
substituted_is_table = refl

pub substituted_at : (b : ℕ) → b < 256 → get_or SUBSTITUTION b 0 ≡ substitute b
unfolding substitute
substituted_at b h =
    same_below 256 (λ k. get_or SUBSTITUTION k 0) (λ k. affine (looked_up k)) substituted_is_table b h
    ∙ ap affine (sym (inverse_looked_up b h))

inverse_affines_are_bytes : holds_below 256 (λ k. ltb (inverse_affine k) 256) ≡ true
unfolding inverse_affine
inverse_affines_are_bytes = refl

inverse_substituted_is_table : holds_below 256 (λ k. get_or INVERSE_SUBSTITUTION k 0 == looked_up (inverse_affine k)) ≡ true
unfolding looked_up inverse_affine
inverse_substituted_is_table = refl

pub inverse_substituted_at : (b : ℕ) → b < 256 → get_or INVERSE_SUBSTITUTION b 0 ≡ inverse_substitute b
unfolding inverse_substitute
inverse_substituted_at b h =
    let element : inverse_affine b < 256 =
    ltb-true _ _ (at_each_below 256 (λ k. ltb (inverse_affine k) 256) inverse_affines_are_bytes b h) in
    same_below 256 (λ k. get_or INVERSE_SUBSTITUTION k 0) (λ k. looked_up (inverse_affine k)) inverse_substituted_is_table b h
    ∙ sym (inverse_looked_up (inverse_affine b) element)

round_constants_are_powers : holds_below 10 (λ n. get_or ROUND_CONSTANTS n 0 == power_of_x n) ≡ true
unfolding power_of_x product polynomial_product remainder
round_constants_are_powers = refl

pub round_constant_at : (n : ℕ) → n < 10 → get_or ROUND_CONSTANTS n 0 ≡ power_of_x n
round_constant_at = same_below 10 (λ n. get_or ROUND_CONSTANTS n 0) power_of_x round_constants_are_powers

-- ---- the two substitutions undo each other
substitutes_are_bytes : holds_below 256 (λ k. ltb (get_or SUBSTITUTION k 0) 256) ≡ true
substitutes_are_bytes = refl

pub substitute-lt : (b : ℕ) → b < 256 → substitute b < 256
substitute-lt b h =
    rw (← substituted_at b h) (ltb-true _ _ (at_each_below 256 (λ k. ltb (get_or SUBSTITUTION k 0) 256) substitutes_are_bytes b h))

inverse_substitutes_are_bytes : holds_below 256 (λ k. ltb (get_or INVERSE_SUBSTITUTION k 0) 256) ≡ true
inverse_substitutes_are_bytes = refl

pub inverse_substitute-lt : (b : ℕ) → b < 256 → inverse_substitute b < 256
inverse_substitute-lt b h =
    rw (← inverse_substituted_at b h)
    (ltb-true _ _ (at_each_below 256 (λ k. ltb (get_or INVERSE_SUBSTITUTION k 0) 256) inverse_substitutes_are_bytes b h))

there_and_back : holds_below 256 (λ k. get_or INVERSE_SUBSTITUTION (get_or SUBSTITUTION k 0) 0 == k) ≡ true
there_and_back = refl

pub inverse_substitute-substitute : (b : ℕ) → b < 256 → inverse_substitute (substitute b) ≡ b
inverse_substitute-substitute b h =
    rw (← inverse_substituted_at (substitute b) (substitute-lt b h), ← substituted_at b h)
    (same_below 256 (λ k. get_or INVERSE_SUBSTITUTION (get_or SUBSTITUTION k 0) 0) (λ k. k) there_and_back b h)

back_and_there : holds_below 256 (λ k. get_or SUBSTITUTION (get_or INVERSE_SUBSTITUTION k 0) 0 == k) ≡ true
back_and_there = refl

pub substitute-inverse_substitute : (b : ℕ) → b < 256 → substitute (inverse_substitute b) ≡ b
substitute-inverse_substitute b h =
    rw (← substituted_at (inverse_substitute b) (inverse_substitute-lt b h), ← inverse_substituted_at b h)
    (same_below 256 (λ k. get_or SUBSTITUTION (get_or INVERSE_SUBSTITUTION k 0) 0) (λ k. k) back_and_there b h)

pub substitution_is_a_bijection : SubstitutionIsABijection
substitution_is_a_bijection = record {
  forth = substitute-lt;
  back = inverse_substitute-lt;
  forth_and_back = inverse_substitute-substitute;
  back_and_forth = substitute-inverse_substitute;
}
