use Rattle.std.proofs.Common.{refl}
use Rattle.paper.proofs.Calls.{none}
use Rattle.line_teller.proofs.Keeping.{told_by}
use Rattle.frame_inspect.proofs.Lines.{answered_is}
use Rattle.frame_inspect.proofs.telling.OpenerTeller.tell.Goals as goal

pub returns : goal.returns
returns c =
    told_by _ _ _ _ _ _ _ _ c.put_answered.ensures none (record {
      text_is = answered_is _ _ c.args.number c.args.line.now c.read_line-said.result c.in_ok-below.below c.read_line-said.ensures
          c.meters.ensures c.in_ok-below.ensures;
      note_is = refl;
      new_is = refl;
    })
