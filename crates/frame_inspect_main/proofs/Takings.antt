-- A line that was given, as an item.
use Rattle.std.proofs.Common.{◌≡◌, ◌≤◌, ◌<◌, ℕ, List, length, sym, ap, subst, ◌∙◌, arith}
use Rattle.std.specs.Prelude.{Result, Ok, Err, IfOk}
use Rattle.std.proofs.lemmas.Bool.Decides.{nat_tests}
use Rattle.outer_io.specs.declared.failures.Memory.{Memory}
use Rattle.line_reader.specs.Reader.{GivesText, GivesLongLine}
use Rattle.line_reader.specs.declared.next.NextText.{NextText}
use Rattle.line_reader.specs.declared.next.NextText.TheVariants as texts
use Rattle.frame_inspect_main.specs.declared.item.Item.{Item}
use Rattle.frame_inspect_main.specs.declared.item.Item.TheVariants as items
use Rattle.frame_inspect_main.specs.Items.{item_of, GivesItem}

short : (text : List ℕ) → length text ≤ 1024 → item_of text ≡ items.Line text
short text within = grind (arith, nat_tests)

long : (text : List ℕ) → 1024 < length text → item_of text ≡ items.TooLong
long text over = grind (arith, nat_tests)

-- where there was memory for the line that is lent, its item is given
pub line_given : (answer : Result Item Memory) (next : NextText) (longest : ℕ) (lent text : List ℕ) (tells : Type 0)
    (old new : List (List ℕ)) → next ≡ texts.Line → longest ≡ 1024 → length text ≤ longest → lent ≡ text
    → IfOk answer (λ i. i ≡ items.Line lent) → (tells → GivesText (Ok next) longest text old new)
    → IfOk answer (λ i. tells → GivesItem i old new)
line_given (Ok item) next longest lent text tells old new line most within same is gives = λ told. record {
  text = text;
  more = subst (λ n. GivesText (Ok n) longest text old new) line (gives told);
  is = short text (subst (λ n. length text ≤ n) most within) ∙ sym (is ∙ ap items.Line same);
}
line_given (Err none) next longest lent text tells old new line most within same is gives = tt

-- a line that is too long is given
pub long_given : (next : NextText) (longest : ℕ) (text : List ℕ) (old new : List (List ℕ)) → next ≡ texts.TooLong
    → longest ≡ 1024 → GivesText (Ok next) longest text old new
    → GivesItem items.TooLong old new
long_given next longest text old new line most gives =
    let given : GivesLongLine longest old new = subst (λ n. GivesText (Ok n) longest text old new) line gives in
    record { text = given.line; more = given.more; is = long given.line (subst (λ n. n < length given.line) most given.long) }
