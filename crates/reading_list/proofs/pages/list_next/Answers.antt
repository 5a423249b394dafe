-- What was read is listed up to its last newline, or the lines end.
use Rattle.std.proofs.Common.{refl, ◌∙◌}
use Rattle.std.proofs.lemmas.Result.{err_from_is_err_and}
use Rattle.reading_list.proofs.PageRuns.{by_err, cut_of_page, ended_amid, ended_done, ended_part, ended_stopped, few_after, kept_few, more_bytes, nothing_read, stands_then}
use Rattle.reading_list.proofs.pages.list_next.Goals as goal

pub returns-in_err-more-clause-ended : goal.returns-in_err-more-clause-ended
returns-in_err-more-clause-ended g c =
    let p = err_from_is_err_and c.from_residual.result c.from_residual.ensures.1 in
    by_err c.from_residual.result p.0 c.in_err-more.field-0.0 _ p.1 p.2 (λ tells first list list_notes before s.
    ended_stopped s _ _ _ c.requires.within (c.in_err-more.ensures.ends tells))

pub returns-in_err-_last-clause-ended : goal.returns-in_err-_last-clause-ended
returns-in_err-_last-clause-ended g c =
    let p = err_from_is_err_and c.from_residual-in_err-_last.result c.from_residual-in_err-_last.ensures.1 in
    by_err c.from_residual-in_err-_last.result p.0 c.in_err-_last.field-0.0 _ p.1 p.2 (λ tells first list list_notes before s.
    let read = nothing_read _ _ _ _ _ _ _ c.if-more-eq0.true c.in_ok-more.ensures.count c.in_ok-more.ensures.kept
    (c.in_ok-more.ensures.ok tells) in
    ended_part s _ _ c.bytes.result.now _ _ c.in_err-_last.ensures.ends (c.bytes.ensures.bytes ∙ read.0) read.1 c.requires.within
    c.in_err-_last.ensures.front)

pub returns-then-more-eq0-clause-ended : goal.returns-then-more-eq0-clause-ended
returns-then-more-eq0-clause-ended g c = λ tells first list list_notes before s.
    let read = nothing_read _ _ _ _ _ _ _ c.if-more-eq0.true c.in_ok-more.ensures.count c.in_ok-more.ensures.kept
    (c.in_ok-more.ensures.ok tells) in
    ended_done s _ _ c.bytes.result.now _ _ before c.list_page.ensures.later_notes (c.bytes.ensures.bytes ∙ read.0) read.1
    (read.2 ∙ c.in_ok-more.ensures.end tells c.if-more-eq0.true) c.requires.within c.in_ok-_last.ensures.all

pub returns-in_err-now-clause-ended : goal.returns-in_err-now-clause-ended
returns-in_err-now-clause-ended g c =
    let p = err_from_is_err_and c.from_residual-in_err-now.result c.from_residual-in_err-now.ensures.1 in
    by_err c.from_residual-in_err-now.result p.0 c.in_err-now.field-0.0 _ p.1 p.2 (λ tells first list list_notes before s.
    ended_amid s (cut_of_page s c.read_on.new.page _ _ _ c.ended_len-ended.result c.in_ok-more.ensures.kept c.bytes-2.ensures.bytes
    c.bytes-3.ensures.bytes c.split_at.ensures.front c.ended_len-ended.ensures.ends) _ (c.in_ok-more.ensures.ok tells).back _ _ _ _ _ refl
    c.in_err-now.ensures.ends (more_bytes _ _ c.args.taken _ c.in_ok-more.ensures.count) c.in_ok-more.ensures.few c.in_err-now.ensures.front)

pub returns-clause-few : goal.returns-clause-few
returns-clause-few g c =
    few_after _ _ _ _ _ _ _ _ _ _ c.in_ok-now.ensures.few c.split_at.ensures.front c.bytes-3.ensures.bytes c.in_ok-more.ensures.count
    c.requires.few c.give_up.ensures

pub returns-clause-kept : goal.returns-clause-kept
returns-clause-kept g c = kept_few _ _ c.give_up.ensures

pub returns-clause-stands : goal.returns-clause-stands
returns-clause-stands g c = λ tells first list list_notes before s.
    stands_then s (cut_of_page s c.read_on.new.page _ _ _ c.ended_len-ended.result c.in_ok-more.ensures.kept c.bytes-2.ensures.bytes
    c.bytes-3.ensures.bytes c.split_at.ensures.front c.ended_len-ended.ensures.ends) _ (c.in_ok-more.ensures.ok tells).back _ _ _ _ _ before
    c.list_page-2.ensures.later_notes c.give_up.ensures (more_bytes _ _ c.args.taken _ c.in_ok-more.ensures.count) c.in_ok-now.ensures.all
