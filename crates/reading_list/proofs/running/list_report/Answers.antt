-- The lines are listed behind what stands in front of them.
use Rattle.std.proofs.Common.{◌++◌, ap, ◌∙◌}
use Rattle.outer_io.specs.Shown.{sink_shown}
use Rattle.reading_list.specs.RecordLines.{head_text}
use Rattle.reading_list.proofs.Runs.{ran}
use Rattle.reading_list.proofs.running.list_report.Goals as goal

pub returns-in-Ok : goal.returns-in-Ok
returns-in-Ok g c =
    ran _ (sink_shown g.K.Sink c.write_head.new.out) c.write_head.ensures.later
    (λ on. c.in-Ok.ensures.ok on ∙ ap (λ before. before ++ head_text c.args.form) (c.requires.empty on))
    c.list_lines.ensures.run c.list_lines.ensures.later c.requires.untaken c.requires.unnoted
