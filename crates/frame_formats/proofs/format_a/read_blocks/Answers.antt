use Rattle.std.proofs.Common.{arith, ℕ, length-drop, ◌≡◌, ◌∙◌, ap, sym, length, ◌-◌, take, Ok}
use Rattle.std.proofs.lemmas.List.{length-take}
use Rattle.std.proofs.lemmas.Result.{err_from_is_err_and}
use Rattle.frame_formats.proofs.Reading.{all_blocks, behind_first}
use Rattle.frame_formats.proofs.format_a.read_blocks.Goals as goal

pub returns-in_err-read_others-clause-read : goal.returns-in_err-read_others-clause-read
returns-in_err-read_others-clause-read c =
    let p = err_from_is_err_and c.from_residual-in_err-read_others.result c.from_residual-in_err-read_others.ensures.1
    in rw (p.1, p.2) (all_blocks _ _ _ _ _ _ (length c.args.into.now - 10)
    c.split_at.ensures.front c.in_ok-first.ensures.read c.split_at.ensures.back c.requires.whole (omega arith)
    (omega (arith, length-take {A = ℕ}, length-drop {A = ℕ})) c.in_err-read_others.ensures)

pub returns-clause-read : goal.returns-clause-read
returns-clause-read c =
    let ten : 10 ≡ c.put.result = omega (arith, c.in_ok-first.ensures.len) in
    all_blocks _ _ _ _ _ _ (length c.args.into.now - 10)
    c.split_at.ensures.front c.in_ok-first.ensures.read c.split_at.ensures.back c.requires.whole (omega arith)
    (omega (arith, length-take {A = ℕ}, length-drop {A = ℕ})) c.in_ok-read_others.ensures
    ∙ ap Ok (sym (behind_first _ _ _ (ap (λ n. take n c.put.new.out) ten ∙ c.put.ensures.written)))
