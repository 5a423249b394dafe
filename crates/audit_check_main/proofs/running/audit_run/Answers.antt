-- Each status has its cause.
use Rattle.std.proofs.Common.{Err, refl, sym, ap, length, arith}
use Rattle.audit_check_main.specs.declared.status.AuditStatus.TheVariants as statuses
use Rattle.audit_check_main.proofs.InputReads.{next_untouched, untouched}
use Rattle.audit_check_main.proofs.Runs.{made, run_words, run_long, run_read, read_all_of, read_long_of, lines_few}
use Rattle.audit_check_main.proofs.running.audit_run.Goals as goal

pub returns-in-None-clause-run : goal.returns-in-None-clause-run
returns-in-None-clause-run g c =
    run_words g.S.Source.tells g.K.Sink.tells _ _ _ _ _ _ (sym c.in-None.ensures.named)
    (λ t. (refl, next_untouched g.S.Source c.args.next.now, refl, untouched g.S.Source c.args.inputs.now.items)) refl

pub returns-in-Err-Failed-clause-run : goal.returns-in-Err-Failed-clause-run
returns-in-Err-Failed-clause-run g c =
    let failed = c.in-Err-Failed.ensures.failed (ap Err c.in-Err-Failed.field-0-is) in
    made g.S.Source.tells g.K.Sink.tells _ _ _ _ _ _ statuses.ReadState (sym c.in-Some.ensures.named)
    failed (λ t long. tt) (λ t f. absurd (f.state_steady failed))
    (λ t. (c.read_past.ensures.no_loss t, next_untouched g.S.Source c.args.next.now, refl, untouched g.S.Source c.args.inputs.now.items)) refl

pub returns-in-Err-Memory-clause-run : goal.returns-in-Err-Memory-clause-run
returns-in-Err-Memory-clause-run g c =
    made g.S.Source.tells g.K.Sink.tells _ _ _ _ _ _ statuses.Memory (sym c.in-Some.ensures.named) tt (λ t long. tt) (λ t f. tt)
    (λ t. (c.read_past.ensures.no_loss t, next_untouched g.S.Source c.args.next.now, refl, untouched g.S.Source c.args.inputs.now.items)) refl

pub returns-in-Err-Failed-read_next-clause-run : goal.returns-in-Err-Failed-read_next-clause-run
returns-in-Err-Failed-read_next-clause-run g c =
    let failed = c.in-Err-Failed-read_next.ensures.failed (ap Err c.in-Err-Failed-read_next.field-0-is) in
    made g.S.Source.tells g.K.Sink.tells _ _ _ _ _ _ statuses.ReadNext (sym c.in-Some.ensures.named)
    failed (λ t long. tt) (λ t f. absurd (f.next_steady failed))
    (λ t. (c.read_past.ensures.no_loss t, c.read_next.ensures.no_loss t, refl, c.read_inputs-heard.ensures.no_loss t)) refl

pub returns-in-Err-Memory-read_next-clause-run : goal.returns-in-Err-Memory-read_next-clause-run
returns-in-Err-Memory-read_next-clause-run g c =
    made g.S.Source.tells g.K.Sink.tells _ _ _ _ _ _ statuses.Memory (sym c.in-Some.ensures.named) tt (λ t long. tt) (λ t f. tt)
    (λ t. (c.read_past.ensures.no_loss t, c.read_next.ensures.no_loss t, refl, c.read_inputs-heard.ensures.no_loss t)) refl

pub returns-in-Err-Failed-read_into-clause-run : goal.returns-in-Err-Failed-read_into-clause-run
returns-in-Err-Failed-read_into-clause-run g c =
    let failed = c.in-Err-Failed-read_into.ensures.failed (ap Err c.in-Err-Failed-read_into.field-0-is) in
    made g.S.Source.tells g.K.Sink.tells _ _ _ _ _ _ statuses.ReadReport (sym c.in-Some.ensures.named)
    failed (λ t long. tt) (λ t f. absurd (f.report_steady failed))
    (λ t. (c.read_past.ensures.no_loss t, c.read_next.ensures.no_loss t, c.read_into.ensures.no_loss t, c.read_inputs-heard.ensures.no_loss t)) refl

pub returns-in-Err-Memory-read_into-clause-run : goal.returns-in-Err-Memory-read_into-clause-run
returns-in-Err-Memory-read_into-clause-run g c =
    made g.S.Source.tells g.K.Sink.tells _ _ _ _ _ _ statuses.Memory (sym c.in-Some.ensures.named) tt (λ t long. tt) (λ t f. tt)
    (λ t. (c.read_past.ensures.no_loss t, c.read_next.ensures.no_loss t, c.read_into.ensures.no_loss t, c.read_inputs-heard.ensures.no_loss t)) refl

pub returns-then-len-gt-REPORT_MAX-clause-run : goal.returns-then-len-gt-REPORT_MAX-clause-run
returns-then-len-gt-REPORT_MAX-clause-run g c =
    let long = c.if-len-gt-REPORT_MAX.true in let n = c.len.ensures in let o = c.read_into.new.room.ok.0 in
    run_long g.S.Source.tells g.K.Sink.tells _ _ _ _ _ _ (sym c.in-Some.ensures.named)
    (λ t. read_long_of 1073741824 _ c.read_into.new.room.items (c.in-Ok-read_into.ensures.read t) (omega arith))
    (λ t. (c.read_past.ensures.no_loss t, c.read_next.ensures.no_loss t, c.read_into.ensures.no_loss t, c.read_inputs-heard.ensures.no_loss t)) refl

pub returns-in-Read-clause-run : goal.returns-in-Read-clause-run
returns-in-Read-clause-run g c =
    let short = c.if-len-gt-REPORT_MAX.false in let n = c.len.ensures in let o = c.read_into.new.room.ok.0 in
    run_read g.S.Source.tells g.K.Sink.tells _ _ _ _ _ _ c.in-Read.w (sym c.in-Some.ensures.named)
    (λ t. read_all_of 1073741824 _ c.read_into.new.room.items (c.in-Ok-read_into.ensures.read t) (omega arith))
    (c.in-Err.ensures.failed c.in-Read.w (ap Err c.in-Read.is))
    (λ t. (c.read_past.ensures.no_loss t, c.read_next.ensures.no_loss t, c.read_into.ensures.no_loss t, c.read_inputs-heard.ensures.no_loss t)) refl

pub audit-requires-clause-lines : goal.audit-requires-clause-lines
audit-requires-clause-lines g c =
    let short =
    c.if-len-gt-REPORT_MAX.false in let n = c.len.ensures in let o = c.read_into.new.room.ok.0 in let v = ap length
    c.as_slice-2.ensures.value in
    lines_few c.as_slice-2.result.now (omega arith)
