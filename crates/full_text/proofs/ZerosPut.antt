-- Zeros that are put one after another.
use Rattle.std.proofs.Common.{◌≡◌, ℕ, zero, suc, ◌-◌, ◌<◌, List, ◌∷◌, ap, arith, codes}
use Rattle.paper.specs.Puts.{Puts}
use Rattle.paper.proofs.Calls.{none, two_make}
use Rattle.paper.proofs.Items.{is_put}
use Rattle.full_text.specs.Decimals.{zeros}

pub zero_more : {P : Type 0} {takes : P → List ℕ → P → Type 0} {p q r : P} (n : ℕ) → 0 < n → Puts takes p (codes "0") q
    → Puts takes q (zeros (n - 1)) r
    → Puts takes p (zeros n) r
zero_more zero some one later = absurd (omega arith)
zero_more (suc n) some one later =
    let less : n ≡ suc n - 1 = omega arith in two_make (zeros (suc n)) one later (ap (λ m. 48 ∷ zeros m) less)

pub no_zeros : {P : Type 0} {takes : P → List ℕ → P → Type 0} {p : P} (n : ℕ) → n ≡ 0 → Puts takes p (zeros n) p
no_zeros n e = is_put _ _ (ap zeros e) none
