-- The input at the place gave its next line, and the others are as they were.
use Rattle.std.proofs.Common.{refl, arith}
use Rattle.line_merge.proofs.Rows.{among, goes_on_set, faulty_set}
use Rattle.line_merge.proofs.running.take_next.Goals as goal

pub next_head-requires : goal.next_head-requires
next_head-requires g c = record {
  reading = (among g.S.Source c.args.inputs.now c.args.heads.now c.args.place c.args.before _ _ c.requires.at_heads c.requires.place
      refl).reading;
}

pub returns-in-Ok-clause-taken : goal.returns-in-Ok-clause-taken
returns-in-Ok-clause-taken g c =
    (among g.S.Source c.args.inputs.now c.args.heads.now c.args.place c.args.before _ _ c.requires.at_heads c.requires.place refl).next _ _
    c.in-Ok.ensures.given

pub returns-in-Ok-clause-goes_on : goal.returns-in-Ok-clause-goes_on
returns-in-Ok-clause-goes_on g c =
    goes_on_set g.S.Source c.args.inputs.now c.args.place _ _ c.next_head.new.input refl
    (record { later = c.next_head.ensures.later; bytes = c.next_head.ensures.bytes })

pub returns-in-Err-clause-faulty : goal.returns-in-Err-clause-faulty
returns-in-Err-clause-faulty g c =
    faulty_set g.S.Source c.args.inputs.now c.args.place 1 _ _ _ c.next_head.new.input c.requires.within refl c.in-Err.ensures.fault
    (omega arith)

pub returns-in-Err-clause-goes_on : goal.returns-in-Err-clause-goes_on
returns-in-Err-clause-goes_on g c =
    goes_on_set g.S.Source c.args.inputs.now c.args.place _ _ c.next_head.new.input refl
    (record { later = c.next_head.ensures.later; bytes = c.next_head.ensures.bytes })
