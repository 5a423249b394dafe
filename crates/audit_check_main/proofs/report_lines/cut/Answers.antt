use Rattle.std.proofs.Common.{◌∙◌, sym}
use Rattle.plain_text.proofs.Cuts.{cut_none, next_part}
use Rattle.audit_check_main.proofs.report_lines.cut.Goals as goal

pub returns-in_default : goal.returns-in_default
returns-in_default c = cut_none _ c.args.text.now (cc)

pub returns : goal.returns
returns c =
    next_part 10 c.args.text.now _ _ _ c.in-Some.place (sym c.first_newline.ensures
    ∙ c.in-Some.is) c.split_at.ensures.front c.split_at.ensures.back c.split_at-2.ensures.back
