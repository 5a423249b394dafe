use Rattle.std.proofs.Common.{arith}
use Rattle.written_words.proofs.Words.{number_above}
use Rattle.written_words.proofs.Numbers.{number_back}
use Rattle.written_words.proofs.numbers_are_read_back.Goals as goal

pub returns : goal.returns
returns _ = λ most n small within. record { word = number_above 32 n (omega arith); number = number_back most n small within }
