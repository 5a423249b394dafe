-- Numbers are read back.
use Rattle.std.proofs.Common.{◌≡◌, ℕ, ◌^◌, ◌<◌, ◌≤◌, Option, Some, None, refl, ap, sym, ◌∙◌, arith}
use Rattle.std.specs.Fmt.{decimal}
use Rattle.std.proofs.lemmas.Fmt.{decimal_injective}
use Rattle.plain_text.specs.Numbers.{is_plain, number_of}
use Rattle.plain_text.proofs.Plain.{written}

pub number_back : (most n : ℕ) → most < 2 ^ 64 → n ≤ most → number_of most (decimal n) ≡ Some n
unfolding number_of
number_back most n small within = by_answer (number_of most (decimal n)) refl
  where
    by_answer : (r : Option ℕ) → r ≡ number_of most (decimal n) → number_of most (decimal n) ≡ Some n
    by_answer None is = absurd (written most (decimal n) small (is_plain (decimal n)) refl None is n within refl)
    by_answer (Some m) is =
        let read = written most (decimal n) small (is_plain (decimal n)) refl (Some m) is in
        let low = read.0 in
        let same : m ≡ n = sym (decimal_injective n m (omega arith) (omega arith) read.1) in
        sym is ∙ ap Some same
