use Rattle.std.proofs.Common.{refl}
use Rattle.paper.proofs.Calls.{none}
use Rattle.line_teller.proofs.Keeping.{told_by}
use Rattle.frame_inspect.proofs.Lines.{long_is}
use Rattle.frame_inspect.proofs.telling.OpenerTeller.tell_long.Goals as goal

pub returns : goal.returns
returns c = λ line long.
    told_by _ _ _ _ _ _ _ _ c.put_said_line.ensures none (record {
      text_is = long_is c.args.self.now.roster.meters c.args.number line long;
      note_is = refl;
      new_is = refl;
    })
