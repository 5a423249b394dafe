use Rattle.std.proofs.Common.{arith, ◌≡◌, ◌+◌, ◌∙◌, ap, length, take}
use Rattle.frame_formats.proofs.Reading.{step}
use Rattle.frame_formats.proofs.format_a.read_others.Goals as goal

pub loop-len-preserved : goal.loop-len-preserved
loop-len-preserved c =
    let size : length c.in_ok-block.block.now ≡ c.min-size.result = omega (arith, c.in_ok-block.ensures.len)
    in let end : c.loop-len.len + c.min-size.result ≡ c.put.result = omega arith
    in step _ _ _ _ _ _ _ _ _ _ c.loop-len.invariant c.loop-len-test.true c.min-size.ensures c.split_at.ensures.front
    c.split_at.ensures.back c.in_ok-block.ensures.read
    (omega arith) (ap (λ n. take n c.put.new.out) end ∙ c.put.ensures.written)
