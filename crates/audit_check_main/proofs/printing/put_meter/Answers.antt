use Rattle.std.proofs.Common.{map, subst}
use Rattle.paper.specs.Puts.{Puts}
use Rattle.meter_slots.specs.Journal.{Start}
use Rattle.state_file.specs.Written.{IsStart, block_text}
use Rattle.receivers.proofs.OrderLaws.{slot_exists}
use Rattle.report_text.specs.Report.{meter_line_text}
use Rattle.audit_check_main.specs.Comparing.{Compared, Compares}
use Rattle.audit_check_main.specs.Hearing.{tells}
use Rattle.audit_check_main.proofs.SteppedLines.{meter_put}
use Rattle.audit_check_main.proofs.printing.put_meter.Goals as goal

pub returns-clause-put : goal.returns-clause-put
returns-clause-put c = λ right.
    let target = slot_exists c.args.own c.args.start (map tells c.args.heard.now) c.args.order.now right in
    let stepped = c.in_ok-steps.ensures.stepped target.0 target.1 in
    let line = subst (λ (p : Compared). Puts Compares p (meter_line_text c.line.result) c.put_meter_line.new.paper)
    c.pass_line-line.ensures.line c.put_meter_line.ensures in
    record {
      slot = target.0;
      so = target.1;
      put = meter_put target.0 _ _ _ _ _ _ _ _ c.pass_line-line.ensures.passed stepped (c.put_rest.ensures target.0 _ _ stepped)
          (c.line.ensures target.0 _ _ stepped) line c.settle.ensures;
      told = subst IsStart (c.known.ensures target.0 _ _ stepped) c.put_left.ensures.told;
      left = subst (λ (k : Start). Puts Compares c.args.next.now (block_text k) c.put_left.new.paper) (c.known.ensures target.0 _ _ stepped)
          c.put_left.ensures.put;
    }
