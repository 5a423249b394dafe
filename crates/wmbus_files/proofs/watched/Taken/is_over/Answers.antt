use Rattle.std.proofs.Common.{◌≡◌, ◌||◌, nat_lt, true, false, ap, sym, ◌∙◌, arith}
use Rattle.std.proofs.lemmas.Bool.{or_left}
use Rattle.std.proofs.lemmas.Bool.Decides.{nat_tests}
use Rattle.wmbus_files.proofs.Counts.{is_over_by}
use Rattle.wmbus_files.proofs.watched.Taken.is_over.Goals as goal

pub returns-then-self-gt-BYTES_MAX : goal.returns-then-self-gt-BYTES_MAX
returns-then-self-gt-BYTES_MAX c = λ bytes is.
    let taken = c.args.self.now in
    let above = c.if-self-gt-BYTES_MAX.true in
    let test : nat_lt 67108864 taken.bytes ≡ true = grind (arith, nat_tests) in
    test ∙ sym (is_over_by bytes taken is ∙ or_left _ (nat_lt 131072 taken.lines) test)

pub returns-else-self-gt-BYTES_MAX : goal.returns-else-self-gt-BYTES_MAX
returns-else-self-gt-BYTES_MAX c = λ bytes is.
    let taken = c.args.self.now in
    let within = c.if-self-gt-BYTES_MAX.false in
    let test : nat_lt 67108864 taken.bytes ≡ false = grind (arith, nat_tests) in
    sym (is_over_by bytes taken is ∙ ap (λ b. b || nat_lt 131072 taken.lines) test)
