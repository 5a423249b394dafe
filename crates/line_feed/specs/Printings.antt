-- The formats' names.
use Rattle.std.specs.Prelude.{ℕ, List, codes, Option, Some, None, if◌then◌else◌}
use Rattle.plain_text.specs.Parts.{is_word}
use Rattle.line_feed.specs.declared.printings.Printing.{Printing}
use Rattle.line_feed.specs.declared.printings.Printing.TheVariants as printings

abbrev pub printing_of : List ℕ → Option Printing
printing_of word =
    if is_word word (codes "cul") then Some printings.Cul
    else if is_word word (codes "rtl_wmbus") then Some printings.RtlWmbus
    else if is_word word (codes "rtl_433") then Some printings.Rtl433
    else if is_word word (codes "hex") then Some printings.Hex
    else None
