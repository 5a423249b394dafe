use Rattle.std.proofs.Common.{◌*◌, ◌/◌, ◌%◌, ◌^◌, ◌∙◌, ap, bit_xor}
use Rattle.std.specs.Int.{w128, to_be_bytes}
use Rattle.cbc_cmac.specs.Mac.{doubled}
use Rattle.cbc_cmac.proofs.mac.doubled.Goals as goal

pub returns : goal.returns
unfolding doubled
returns c = c.to_be_bytes.ensures ∙ ap (λ n. to_be_bytes w128 (bit_xor (n * 2 % 2 ^ 128) (n / 2 ^ 127 * 0x87))) c.from_be_bytes-bits.ensures
