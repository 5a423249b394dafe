-- The line of a telegram, as a receiver's lines have it.
use Rattle.std.specs.Prelude.{ℕ, List, ◌++◌, codes}
use Rattle.paper.specs.Pieces.{labelled, labelled_bytes}
use Rattle.frame_formats.specs.Decoding.{frame_a}

-- without its end: `A`, the moment, and the telegram's frame of format A
abbrev pub frame_text : ℕ → List ℕ → List ℕ
frame_text at t = labelled (codes "A ") at ++ labelled_bytes (codes " ") (frame_a t)

unfoldable pub frame_line : ℕ → List ℕ → List ℕ
frame_line at t = frame_text at t ++ codes "\n"
