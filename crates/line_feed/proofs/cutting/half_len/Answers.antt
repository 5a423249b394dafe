-- Line by line, and then what has no newline.
use Rattle.std.proofs.Common.{refl, inl, arith}
use Rattle.std.proofs.lemmas.List.{length-drop}
use Rattle.line_feed.proofs.Files.{half_behind, ends_line}
use Rattle.line_feed.proofs.cutting.half_len.Goals as goal

pub lines-init : goal.lines-init
lines-init c = record { within = omega arith; whole = inl refl }

pub lines-preserved : goal.lines-preserved
lines-preserved c = record {
  within = c.in-Some.ensures.within;
  whole = ends_line _ _ _ c.in-Some.ensures;
}

pub returns-in_default : goal.returns-in_default
returns-in_default c =
    half_behind c.args.bytes.now c.lines.at _ (length-drop c.lines.at c.args.bytes.now)
    c.in_default.ensures c.lines.invariant.whole
