-- The table of remainders is the definition's.
use Rattle.std.proofs.Common.{◌≡◌, ℕ, ◌*◌, ◌^◌, ◌<◌, ◌==◌, true, get_or, refl}
use Rattle.std.proofs.lemmas.Bool.{eqb-true, agree_below, agree_below_at}
use Rattle.frame_formats.specs.Crc.{remainder}
use Rattle.frame_formats.specs.declared.crc16.TheConstants.{REMAINDERS}

is_table : agree_below (λ x. get_or REMAINDERS x 0 == remainder 8 (x * 2 ^ 16)) (λ x. true) 256 ≡ true
unfolding remainder
is_table = refl

pub remainder_at : (x : ℕ) → x < 256 → get_or REMAINDERS x 0 ≡ remainder 8 (x * 2 ^ 16)
remainder_at x lt =
    eqb-true _ _ (agree_below_at (λ x. get_or REMAINDERS x 0 == remainder 8 (x * 2 ^ 16)) (λ x. true) 256 x is_table lt)
