use Rattle.meter_slots.proofs.Entries.{legal_after}
use Rattle.meter_slots.proofs.acting.SlotBookBook.act.Goals as goal

pub returns-clause-legal : goal.returns-clause-legal
returns-clause-legal c =
    legal_after c.step.result c.args.self.now c.step.new.self
    (λ a. record {
      source = c.args.source;
      line = c.args.line;
      event = c.args.call;
      outcome =
          a;
    }) c.step.ensures.journal c.step.ensures.legal
