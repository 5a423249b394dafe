-- The layer is written, and read back, as its row says.
use Rattle.std.proofs.Common.{◌≡◌, ℕ, List, ◌++◌, Ok, refl, ap, ◌∙◌, arith, length-append}
use Rattle.afl_layer.specs.Header.{IsPlaced, afl_at}
use Rattle.downlink_maker.specs.Downlink.{authentication_of}
use Rattle.downlink_maker.proofs.Rows.{afl_bytes-authentication_of}
use Rattle.downlink_maker.proofs.layers.authentication_layer.Goals as goal

pub returns-clause-exact : goal.returns-clause-exact
returns-clause-exact c =
    c.copy_from_slice.ensures.after ∙ c.write_afl-len.ensures.spelt ∙ afl_bytes-authentication_of c.args.down c.args.mac (omega arith)

pub returns-clause-again : goal.returns-clause-again
returns-clause-again c =
    let placed : IsPlaced (authentication_of c.args.down c.args.mac) = record { fields = refl; fid = refl } in
    let count : c.write_afl-len.result ≡ 17 = omega (arith, length-append {A = ℕ}) in
    λ rest. ap (λ (text : List ℕ). afl_at (text ++ rest)) c.copy_from_slice.ensures.after
    ∙ c.write_afl-len.ensures.again placed rest
    ∙ ap (λ (n : ℕ). Ok (record (authentication_of c.args.down c.args.mac) { len = n })) count
