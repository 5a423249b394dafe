use Rattle.std.proofs.Common.{◌≡◌, ◌+◌, ◌∙◌, ap, sym, Ok, arith, length, take}
use Rattle.std.proofs.lemmas.Result.{err_from_is_err_and}
use Rattle.frame_formats.proofs.RelationB.{two_read, front_fault, back_fault, both_written}
use Rattle.frame_formats.proofs.format_b.read_two.Goals as goal

pub returns-in_err-first : goal.returns-in_err-first
returns-in_err-first c =
    let p = err_from_is_err_and c.from_residual.result c.from_residual.ensures.1
    in rw (p.1, p.2) (front_fault _ _ _ (omega arith) c.split_at.ensures.front c.in_err-first.ensures.read)

pub returns-in_err-second : goal.returns-in_err-second
returns-in_err-second c =
    let p = err_from_is_err_and c.from_residual-in_err-second.result c.from_residual-in_err-second.ensures.1
    in rw (p.1, p.2)
    (back_fault _ _ _ _ _ (omega arith)
    c.split_at.ensures.front c.split_at.ensures.back c.in_ok-first.ensures.read c.in_err-second.ensures.read)

pub returns : goal.returns
returns c =
    let first : 0 + length c.in_ok-first.first.now ≡ c.put.result = sym c.put.ensures.end in
    let second : 126 + length c.in_ok-second.second.now ≡ c.put-2.result = sym c.put-2.ensures.end in
    two_read _ _ _ _ _ (omega arith) c.split_at.ensures.front c.split_at.ensures.back c.in_ok-first.ensures.read c.in_ok-second.ensures.read
    ∙ ap Ok (sym (both_written c.put.new.out c.put-2.new.out c.in_ok-first.first.now c.in_ok-second.second.now (length c.args.into.now)
    (omega arith) (omega (arith, c.in_ok-second.ensures.len)) (omega (arith, c.in_ok-first.ensures.len))
    (ap (λ n. take n c.put.new.out) first ∙ c.put.ensures.written) (ap (λ n. take n c.put-2.new.out) second ∙ c.put-2.ensures.written)))
