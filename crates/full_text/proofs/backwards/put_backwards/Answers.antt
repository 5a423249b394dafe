use Rattle.std.proofs.Common.{◌≡◌, ◌<◌, arith}
use Rattle.full_text.specs.Values.{byte_text}
use Rattle.full_text.proofs.LastFirst.{byte_more, no_bytes}
use Rattle.full_text.proofs.backwards.put_backwards.Goals as goal

pub bytes-preserved : goal.bytes-preserved
bytes-preserved g c =
    let some : 0 < c.bytes.left = omega (arith, c.bytes-test.true) in
    record {
      within = omega (arith, c.bytes.invariant.within);
      text = λ q later. c.bytes.invariant.text q
          (byte_more (byte_text c.args.form) c.args.sent.now c.bytes.left some c.bytes.invariant.within c.put_byte.ensures later);
    }

pub returns : goal.returns
returns g c =
    let none : c.bytes.left ≡ 0 = omega (arith, c.bytes-test.false) in
    c.bytes.invariant.text _ (no_bytes (byte_text c.args.form) c.args.sent.now c.bytes.left none)
