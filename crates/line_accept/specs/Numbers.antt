-- The numbers of a message or a fence.
use Rattle.std.specs.Prelude.{ℕ, ◌-◌, ◌^◌, List, Option}
use Rattle.plain_text.specs.Numbers.{number_of}

-- an epoch, below 2^64
abbrev pub epoch_in : List ℕ → Option ℕ
epoch_in text = number_of (2 ^ 64 - 1) text

-- a number in an epoch, below 2^32
abbrev pub number_in : List ℕ → Option ℕ
number_in text = number_of (2 ^ 32 - 1) text
