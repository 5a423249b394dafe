-- The lines of inputs, and the text of their merge.
use Rattle.std.specs.Prelude.{ℕ, ◌+◌, Bool, true, false, List, [], ◌∷◌, ◌++◌, codes, map, Option, Some, None, Result, Ok}
use Rattle.std.specs.Fmt.{decimal}
use Rattle.line_reader.specs.declared.line.Line.{Line}
use Rattle.line_reader.specs.declared.line.Line.TheVariants as lines
use Rattle.line_reader.specs.declared.line.BadLine.{BadLine}
use Rattle.line_reader.specs.Grammar.{line_of}
use Rattle.line_reader.specs.Lines.{all_lines}
use Rattle.line_merge.specs.Merging.{Timed, Merged, Heard, timed}

-- the moment that a line names: that at which its frame was heard
abbrev pub named : Result Line BadLine → Option ℕ
named (Ok (lines.Frame format at bytes)) = Some at
named said = None

abbrev pub moment_in : List ℕ → Option ℕ
moment_in text = named (line_of text)

abbrev pub heard : List ℕ → Heard
heard text = record { own = moment_in text; bytes = text }

-- lines behind one that stands at a moment
abbrev pub lines_behind : ℕ → List (List ℕ) → List Timed
lines_behind before texts = timed before (map heard texts)

-- the lines of an input's bytes: each at the moment that it names, or else at that of the line before it, and the first at 0
abbrev pub input_lines : List ℕ → List Timed
input_lines bytes = lines_behind 0 (all_lines bytes)

-- ---- what is printed

-- an input's number and a blank, where inputs are numbered
unfoldable pub number_text : Bool → ℕ → List ℕ
number_text true number = decimal number ++ codes " "
number_text false number = []

-- a line of the input with this number
unfoldable pub line_text : Bool → ℕ → List ℕ → List ℕ
line_text numbered number bytes = number_text numbered number ++ bytes ++ codes "\n"

abbrev pub merged_text : Bool → Merged → List ℕ
merged_text numbered m = line_text numbered (m.place + 1) m.line.bytes

-- the lines of a merge, one after another
abbrev pub merge_text : Bool → List Merged → List ℕ
merge_text numbered [] = []
merge_text numbered (m ∷ merged) = merged_text numbered m ++ merge_text numbered merged
