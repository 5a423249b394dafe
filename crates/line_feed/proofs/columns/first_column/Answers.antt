-- The text is cut at its first semicolon.
use Rattle.std.proofs.Common.{refl, ◌∙◌, sym}
use Rattle.plain_text.proofs.Cuts.{cut_none, next_part}
use Rattle.line_feed.proofs.columns.first_column.Goals as goal

pub returns-in_default : goal.returns-in_default
returns-in_default c = record { whole = refl; alone = cut_none _ c.args.text.now (cc) }

pub returns : goal.returns
returns c = record {
  first = next_part 59 c.args.text.now _ _ _ c.in-Some.place (sym c.first_place.ensures
      ∙ c.in-Some.is) c.split_at.ensures.front c.split_at.ensures.back c.split_at-2.ensures.back;
}
