-- The tables of words are the definition's.
use Rattle.std.proofs.Common.{◌≡◌, ℕ, ◌<◌, ◌==◌, true, [], get_or, refl, ap, ◌∙◌}
use Rattle.aes_block.proofs.Bytes.{holds_below, at_each_below, same_below}
use Rattle.aes_block.proofs.ByteTables.{substituted_at, inverse_substituted_at, inverse_substitute-lt}
use Rattle.aes_block.specs.Field.{product, polynomial_product, remainder}
use Rattle.aes_block.specs.Block.{column_product, mix_polynomial}
use Rattle.aes_block.specs.Words.{word, one_byte, mixed_substitute, inverse_mixed, inverse_mixed_substitute}
use Rattle.aes_block.specs.declared.tables.TheConstants.{SUBSTITUTION, INVERSE_SUBSTITUTION, MIXED_SUBSTITUTION, INVERSE_MIXED, INVERSE_MIXED_SUBSTITUTION}

-- the column of a substituted byte, mixed
abbrev mixed_at : ℕ → ℕ → ℕ
mixed_at r y = word (column_product mix_polynomial (one_byte r y))

-- by the table of the substitution, which computes fast
mixed_substitution_is_table : holds_below 4 (λ r. holds_below 256
    (λ x. get_or (get_or MIXED_SUBSTITUTION r []) x 0 == mixed_at r (get_or SUBSTITUTION x 0))) ≡ true
unfolding word column_product product polynomial_product remainder
mixed_substitution_is_table = refl

pub mixed_substitution_at : (r x : ℕ) → r < 4 → x < 256 → get_or (get_or MIXED_SUBSTITUTION r []) x 0 ≡ mixed_substitute r x
unfolding mixed_substitute
mixed_substitution_at r x hr hx =
    same_below 256 (λ x. get_or (get_or MIXED_SUBSTITUTION r []) x 0) (λ x. mixed_at r (get_or SUBSTITUTION x 0))
    (at_each_below 4 (λ r. holds_below 256 (λ x. get_or (get_or MIXED_SUBSTITUTION r []) x 0 == mixed_at r (get_or SUBSTITUTION x 0)))
    mixed_substitution_is_table r hr)
    x hx
    ∙ ap (mixed_at r) (substituted_at x hx)

inverse_mixture_is_table : holds_below 4 (λ r. holds_below 256 (λ x. get_or (get_or INVERSE_MIXED r []) x 0 == inverse_mixed r x)) ≡ true
unfolding word inverse_mixed column_product product polynomial_product remainder
inverse_mixture_is_table = refl

pub inverse_mixture_at : (r x : ℕ) → r < 4 → x < 256 → get_or (get_or INVERSE_MIXED r []) x 0 ≡ inverse_mixed r x
inverse_mixture_at r x hr hx =
    same_below 256 (λ x. get_or (get_or INVERSE_MIXED r []) x 0) (inverse_mixed r)
    (at_each_below 4 (λ r. holds_below 256 (λ x. get_or (get_or INVERSE_MIXED r []) x 0 == inverse_mixed r x))
    inverse_mixture_is_table r hr) x hx

-- by the two tables that it combines, so that no product is computed again
inverse_mixed_substitution_is_table : holds_below 4 (λ r. holds_below 256
    (λ x. get_or (get_or INVERSE_MIXED_SUBSTITUTION r []) x 0 == get_or (get_or INVERSE_MIXED r []) (get_or INVERSE_SUBSTITUTION x 0) 0))
    ≡ true
inverse_mixed_substitution_is_table = refl

pub inverse_mixed_substitution_at : (r x : ℕ) → r < 4 → x < 256
    → get_or (get_or INVERSE_MIXED_SUBSTITUTION r []) x 0 ≡ inverse_mixed_substitute r x
unfolding inverse_mixed_substitute inverse_mixed
inverse_mixed_substitution_at r x hr hx =
    let y : ℕ = get_or INVERSE_SUBSTITUTION x 0 in
    let element : y < 256 = rw (inverse_substituted_at x hx) (inverse_substitute-lt x hx) in
    same_below 256 (λ x. get_or (get_or INVERSE_MIXED_SUBSTITUTION r []) x 0)
    (λ x. get_or (get_or INVERSE_MIXED r []) (get_or INVERSE_SUBSTITUTION x 0) 0)
    (at_each_below 4 (λ r. holds_below 256
    (λ x. get_or (get_or INVERSE_MIXED_SUBSTITUTION r []) x 0 == get_or (get_or INVERSE_MIXED r []) (get_or INVERSE_SUBSTITUTION x 0) 0))
    inverse_mixed_substitution_is_table r hr)
    x hx
    ∙ inverse_mixture_at r y hr element
    ∙ ap (inverse_mixed r) (inverse_substituted_at x hx)
