-- What is shown of a line.
use Rattle.std.specs.Prelude.{ℕ, ◌≡◌, nat_lt, List, [], ◌∷◌, ◌++◌, length, Result, Err, if◌then◌else◌}
use Rattle.line_reader.specs.Grammar.{line_of}
use Rattle.line_reader.specs.declared.line.Line.{Line}
use Rattle.line_reader.specs.declared.line.BadLine.{BadLine}
use Rattle.line_reader.specs.declared.line.BadLine.TheVariants as bads
use Rattle.frame_inspect_main.specs.declared.item.Item.{Item}
use Rattle.frame_inspect_main.specs.declared.item.Item.TheVariants as items

-- a line as an item: its text, unless it is longer than a line may be
abbrev pub item_of : List ℕ → Item
item_of text = if nat_lt 1024 (length text) then items.TooLong else items.Line text

-- what an item says, or its first fault
abbrev pub said_by : Item → Result Line BadLine
said_by (items.Line text) = line_of text
said_by items.TooLong = Err bads.TooLong

-- one more line was given, which is this item
pub record GivesItem (item : Item) (old new : List (List ℕ)) : Type 0 where
  pub text : List ℕ
  pub more : new ≡ old ++ text ∷ []
  pub is : item_of text ≡ item
