use Rattle.std.proofs.Common.{◌≡◌, ◌∙◌, ap, sym, subst, List, ℕ, ◌++◌, take, drop}
use Rattle.frame_formats.specs.Crc.{IsBytes}
use Rattle.frame_formats.specs.Frames.{FrameA}
use Rattle.frame_formats.proofs.Writing.{frame_is, is_frame, others_with_crc}
use Rattle.frame_formats.proofs.format_a.encode_a.Goals as goal

pub returns-clause-written : goal.returns-clause-written
returns-clause-written c =
    let front : c.split_at.result.0.now ≡ take 10 c.args.telegram.now = cc
    in let back : c.split_at.result.1.now ≡ drop 10 c.args.telegram.now = cc
    in c.put_others.ensures.written ∙ ap (λ x. x ++ others_with_crc c.split_at.result.1.now) c.put_with_crc-end.ensures.written
    ∙ frame_is _ _ _ front back

pub returns-clause-frame : goal.returns-clause-frame
returns-clause-frame c =
    let all : IsBytes c.args.telegram.now = c.bytes.ensures.each
    in let P : List ℕ → Type 0 = λ x. FrameA x c.args.telegram.now
    in subst P (sym (returns-clause-written c)) (is_frame _ c.bytes.ensures.telegram all)
