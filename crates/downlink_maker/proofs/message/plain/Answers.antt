-- The content in plain has its fillers.
use Rattle.std.proofs.Common.{◌*◌, length, take, List, ℕ, ap, ◌∙◌, arith}
use Rattle.downlink_maker.specs.Downlink.{blocks_for}
use Rattle.downlink_maker.proofs.Rows.{take-filled}
use Rattle.downlink_maker.proofs.message.plain.Goals as goal

pub returns : goal.returns
returns c =
    ap (λ (xs : List ℕ). take (16 * blocks_for (length c.args.payload.now)) xs) c.put_behind_two.ensures
    ∙ take-filled c.args.payload.now (omega arith)
