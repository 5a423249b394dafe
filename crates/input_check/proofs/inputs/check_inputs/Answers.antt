use Rattle.input_check.specs.Run.{Run, run_of}
use Rattle.input_check.proofs.Runs.{too_long, complete}
use Rattle.input_check.proofs.inputs.check_inputs.Goals as goal

pub returns : goal.returns
returns g c =
    let run : Run = run_of g.S.Source g.K.Sink c.args.state.now c.check_all.new.state c.args.receivers.now c.check_all.new.receivers c.args.out.now
    c.check_all.new.out c.check_all.result in
    record {
      run = record {
        checked = c.check_all.ensures.checked;
        printed = c.check_all.ensures.printed;
        caused = c.check_all.ensures.caused;
        front = c.check_all.ensures.front;
        too_long = too_long run c.check_all.result c.check_all.ensures.checked c.check_all.ensures.caused;
        complete = complete run c.check_all.result c.check_all.ensures.caused;
        no_loss = λ tells. (c.check_all.ensures.no_loss_of_state tells, c.check_all.ensures.no_loss tells);
      };
    }
