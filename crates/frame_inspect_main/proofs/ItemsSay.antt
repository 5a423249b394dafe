-- An item says what its line says.
use Rattle.std.proofs.Common.{◌≡◌, ℕ, List, Bool, true, false, cond, length, refl}
use Rattle.std.specs.Prelude.{nat_lt}
use Rattle.line_reader.specs.Grammar.{line_of}
use Rattle.frame_inspect_main.specs.declared.item.Item.TheVariants as items
use Rattle.frame_inspect_main.specs.Items.{said_by}
use Rattle.frame_inspect_main.specs.Laws.{ItemsSayTheirLines}

-- by whether the line is too long
by_length : (long : Bool) (text : List ℕ) → nat_lt 1024 (length text) ≡ long
    → said_by (cond long items.TooLong (items.Line text)) ≡ line_of text
unfolding line_of
by_length true text is = rw is refl
by_length false text is = rw is refl

pub items_say_their_lines : ItemsSayTheirLines
items_say_their_lines text = by_length (nat_lt 1024 (length text)) text refl
