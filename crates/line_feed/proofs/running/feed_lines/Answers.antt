-- What was told of the lines is what is fed and noted of them.
use Rattle.std.proofs.Common.{ap, ◌∙◌}
use Rattle.line_feed.specs.Run.{status_of}
use Rattle.line_feed.proofs.Feeds.{fed_run, ran}
use Rattle.line_feed.proofs.running.feed_lines.Goals as goal

pub returns : goal.returns
returns g c =
    let status = c.of_lines.ensures ∙ ap (status_of c.tell_stream-end.result) c.left_out.ensures in
    ran _ c.tell_stream-end.result c.left_out.result c.of_lines.ensures
    (λ tells.
    fed_run _ c.tell_stream-end.result c.new-feed.result c.tell_stream-end.new.teller _ c.new-feed.ensures
    (c.tell_stream-end.ensures.ended tells)
    c.tell_stream-end.ensures.later_notes c.note_end.ensures.later c.note_end.ensures.noted status)
    c.tell_stream-end.ensures.read c.tell_stream-end.ensures.write c.tell_stream-end.ensures.bytes
