use Rattle.std.proofs.Common.{◌≤◌, sym, subst, arith}
use Rattle.full_text.proofs.Sizes.{few_twos, doubled_small}
use Rattle.full_text.proofs.reals.doubled.Goals as goal

pub pow-requires : goal.pow-requires
pow-requires c =
    let few : c.power.result ≤ 251 = subst (λ n. n ≤ 251) (sym c.power.ensures.value) c.requires.within in
    omega (arith, few_twos c.power.result few)

pub overflow_mul-result : goal.overflow_mul-result
overflow_mul-result c =
    let few : c.power.result ≤ 251 = subst (λ n. n ≤ 251) (sym c.power.ensures.value) c.requires.within in
    omega (
      arith,
      doubled_small c.from.result c.pow.result c.significand.result c.power.result c.from.ensures c.pow.ensures
          c.significand.ensures.below few,
    )

pub returns-clause-below : goal.returns-clause-below
returns-clause-below c =
    let few : c.power.result ≤ 251 = subst (λ n. n ≤ 251) (sym c.power.ensures.value) c.requires.within in
    doubled_small c.from.result c.pow.result c.significand.result c.power.result c.from.ensures c.pow.ensures c.significand.ensures.below few
