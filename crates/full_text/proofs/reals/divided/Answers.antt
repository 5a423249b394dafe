use Rattle.std.proofs.Common.{◌≤◌, sym, subst, arith}
use Rattle.full_text.proofs.Sizes.{few_fives, divided_small}
use Rattle.full_text.proofs.reals.divided.Goals as goal

pub pow-requires : goal.pow-requires
pow-requires c =
    let few : c.places.result ≤ 44 = subst (λ n. n ≤ 44) (sym c.places.ensures.value) c.requires.within in
    omega (arith, few_fives c.places.result few)

pub overflow_mul-result : goal.overflow_mul-result
overflow_mul-result c =
    let few : c.places.result ≤ 44 = subst (λ n. n ≤ 44) (sym c.places.ensures.value) c.requires.within in
    omega (
      arith,
      divided_small c.from.result c.pow.result c.halved.result c.places.result c.from.ensures c.pow.ensures
          c.halved.ensures.below few,
    )

pub returns-clause-below : goal.returns-clause-below
returns-clause-below c =
    let few : c.places.result ≤ 44 = subst (λ n. n ≤ 44) (sym c.places.ensures.value) c.requires.within in
    divided_small c.from.result c.pow.result c.halved.result c.places.result c.from.ensures c.pow.ensures c.halved.ensures.below few
