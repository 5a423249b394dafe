-- How large the digits of a real number are.
use Rattle.std.proofs.Common.{◌≡◌, ℕ, ◌-◌, ◌*◌, ◌/◌, ◌^◌, ◌<◌, ◌≤◌, subst, sym, arith}
use Rattle.std.proofs.Math.Nat.{div-le_self, mul-le-mul, pow-le-pow_right}
use Rattle.std.proofs.Math.Pow.{pow_mono}

pub few_twos : (power : ℕ) → power ≤ 251 → 2 ^ (power - 150) ≤ 2 ^ 101
few_twos power few = pow_mono (let within : power - 150 ≤ 101 = omega arith in within)

pub few_fives : (places : ℕ) → places ≤ 44 → 5 ^ places ≤ 5 ^ 44
few_fives places few = pow-le-pow_right (let some : 0 < 5 = omega arith in some) few

pub halved_small : (significand by : ℕ) → significand < 2 ^ 24 → significand / by < 2 ^ 24
halved_small significand by small = omega (arith, small, div-le_self significand by)

-- a product of such numbers, by what its factors are
pub doubled_small : (a b significand power : ℕ) → a ≡ significand → b ≡ 2 ^ (power - 150) → significand < 2 ^ 24 → power ≤ 251 → a * b < 2 ^ 127
doubled_small a b significand power a_is b_is small few =
    let within : a ≤ 2 ^ 24 = omega (arith, small, a_is) in
    let most : b ≤ 2 ^ 101 = subst (λ n. n ≤ 2 ^ 101) (sym b_is) (few_twos power few) in
    let both : a * b ≤ 2 ^ 24 * 2 ^ 101 = mul-le-mul within most in
    omega (arith, both)

pub divided_small : (a b halved places : ℕ) → a ≡ halved → b ≡ 5 ^ places → halved < 2 ^ 24 → places ≤ 44 → a * b < 2 ^ 127
divided_small a b halved places a_is b_is small few =
    let within : a ≤ 2 ^ 24 = omega (arith, small, a_is) in
    let most : b ≤ 5 ^ 44 = subst (λ n. n ≤ 5 ^ 44) (sym b_is) (few_fives places few) in
    let both : a * b ≤ 2 ^ 24 * 5 ^ 44 = mul-le-mul within most in
    omega (arith, both)
