use Rattle.std.proofs.Common.{◌≡◌, ◌*◌, ◌∙◌, arith, refl, Ok, Err}
use Rattle.hex.specs.Hex.{decode_of}
use Rattle.hex.proofs.HexLemmas.{decode_of-even}
use Rattle.hex.proofs.Pairs.{decode_done, decode_err, decode_step}
use Rattle.line_reader.proofs.DigitLemmas.{pair_read, pair_refused}
use Rattle.line_reader.proofs.digits.decode.Goals as goal

pub returns-in_err-bytes : goal.returns-in_err-bytes
returns-in_err-bytes c =
    let bad = pair_refused _ _ (c.byte_of.ensures (2 * c.loop-place.place)) c.in_err-bytes.was in
    let all : decode_of c.args.digits.now ≡ Err bad.0 = decode_of-even _ (omega arith)
    ∙ decode_err _ c.loop-place.bytes c.loop-place.place bad.0 (omega arith) bad.1 c.loop-place.invariant in
    rw all c.from_residual.ensures

pub loop-place-preserved : goal.loop-place-preserved
loop-place-preserved c =
    decode_step _ _ c.loop-place.place _ (omega arith) (omega arith)
    (pair_read _ _ _ (c.byte_of.ensures (2 * c.loop-place.place)) c.in_ok-bytes.was) c.loop-place.invariant

pub returns : goal.returns
returns c =
    let all : decode_of c.args.digits.now ≡ Ok c.loop-place.bytes = decode_of-even _ (omega arith)
    ∙ decode_done _ c.loop-place.bytes c.loop-place.place (omega arith) (omega arith) c.loop-place.invariant in
    rw all (refl, refl)
