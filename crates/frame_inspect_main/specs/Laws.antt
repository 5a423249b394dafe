-- What holds of what is shown.
use Rattle.std.specs.Prelude.{ℕ, ◌≡◌, List, ◌++◌, length, slice_index, codes, Ok}
use Rattle.std.specs.Fmt.{decimal}
use Rattle.frame_formats.specs.Crc.{IsBytes}
use Rattle.frame_formats.specs.Frames.{Frame}
use Rattle.frame_formats.specs.declared.format.Format.{Format}
use Rattle.line_reader.specs.Grammar.{line_of}
use Rattle.line_reader.specs.declared.line.Line.TheVariants as lines
use Rattle.message_check.specs.declared.headers.Layers.{Layers}
use Rattle.message_check.specs.Layers.{IsLayers}
use Rattle.message_check.specs.Target.{link_address}
use Rattle.paper.specs.Pieces.{labelled}
use Rattle.frame_inspect_main.specs.declared.item.Item.{Item}
use Rattle.frame_inspect_main.specs.Items.{item_of, said_by}
use Rattle.frame_inspect_main.specs.Layered.{format_word, link_text, layers_text, layered_text}

-- an item says what its line says
abbrev pub ItemsSayTheirLines : Type 0
ItemsSayTheirLines = (text : List ℕ) → said_by (item_of text) ≡ line_of text

-- a line with a frame of a telegram which has these layers is shown by the telegram's length, its link and these layers
abbrev pub FramesAreShown : Type 0
FramesAreShown = (number : ℕ) (next : Item) (format : Format) (at : ℕ) (bytes t : List ℕ) (l : Layers)
    → said_by next ≡ Ok (lines.Frame format at bytes) → IsBytes bytes → Frame format bytes t → IsLayers t l
    → layered_text number next
    ≡ decimal number
    ++ (labelled (format_word format) (length t) ++ link_text (slice_index t 1) (link_address t) ++ layers_text (length t) (Ok l))
    ++ codes "\n"
