use Rattle.std.proofs.Common.{arith, ◌∙◌, sym, ◌<◌, length}
use Rattle.std.proofs.lemmas.Bool.{eqb-true, eqb-false}
use Rattle.lists.proofs.Puts.{behind_both}
use Rattle.frame_formats.proofs.Writing.{one_more, all_written}
use Rattle.frame_formats.proofs.format_a.put_others.Goals as goal

pub cutting-preserved : goal.cutting-preserved
cutting-preserved c =
    let some : 0 < length c.cutting.rest.now = omega (arith, eqb-false _ _ (sym c.cutting-test.ensures))
    in record {
      count = omega arith;
      front = one_more _ _ _ _ _ _ _ _ c.min.ensures some c.split_at.ensures.front c.split_at.ensures.back
          c.put_with_crc-end.ensures.written ∙ c.cutting.invariant.front;
      behind = behind_both c.cutting.end c.put_with_crc-end.result c.args.out.now c.cutting.out c.put_with_crc-end.new.out (omega arith)
          c.cutting.invariant.behind c.put_with_crc-end.ensures.behind;
    }

pub returns-clause-written : goal.returns-clause-written
returns-clause-written c = all_written _ _ _ _ (eqb-true _ _ (sym c.cutting-test.ensures)) c.cutting.invariant.front
