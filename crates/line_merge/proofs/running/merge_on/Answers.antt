-- Each line stands behind those before it, and the last step ends the merge.
use Rattle.std.proofs.Common.{[], refl, sym, subst, arith}
use Rattle.std.proofs.lemmas.List.{append-nil}
use Rattle.lists.proofs.Members.{with_length}
use Rattle.outer_io.specs.Shown.{sink_shown}
use Rattle.line_merge.specs.Least.{IsLeast, AreDone}
use Rattle.line_merge.specs.Readers.{IsAtHead, GoesOn}
use Rattle.line_merge.proofs.Choosing.{within_all}
use Rattle.line_merge.proofs.Merges.{merges_all}
use Rattle.line_merge.proofs.Rows.{heads_are, all_stay, all_then, done_within}
use Rattle.line_merge.proofs.Stepping.{stands_more, written_by, ended_by}
use Rattle.line_merge.proofs.running.merge_on.Goals as goal

pub lines-init : goal.lines-init
lines-init g c = record {
  few = c.requires.few;
  at_heads = c.requires.at_heads;
  goes_on = all_stay g.S.Source c.args.inputs.now;
  stands = λ tells on. record { merged = []; merges = refl; written = sym (append-nil _) };
  later = omega arith;
}

pub returns-in_default-clause-written : goal.returns-in_default-clause-written
returns-in_default-clause-written g c = λ tells on.
    let stands = c.lines.invariant.stands tells on in record {
      merged = stands.merged;
      is_merge = merges_all _ _ stands.merged stands.merges
          (subst AreDone (sym (heads_are g.S.Source _ _ c.lines.invariant.at_heads)) c.in_default.ensures.none);
      written = stands.written;
    }

pub returns-in_default-clause-ended : goal.returns-in_default-clause-ended
returns-in_default-clause-ended g c =
    done_within g.S.Source _ _ _ c.lines.invariant.goes_on c.lines.invariant.at_heads c.in_default.ensures.none

pub pass_on-requires-clause-within : goal.pass_on-requires-clause-within
pass_on-requires-clause-within g c =
    let all = with_length (IsAtHead g.S.Source) c.lines.inputs c.lines.heads c.lines.invariant.at_heads in
    let within = within_all c.lines.heads c.in-Some.place c.in-Some.at c.in-Some.ensures.at in
    omega (arith, all, within)

pub returns-in-Err-clause-written : goal.returns-in-Err-clause-written
returns-in-Err-clause-written g c = λ tells on.
    written_by c.in-Err.status c.args.numbered c.in-Some.place _ _ _ _ _ _ (c.lines.invariant.stands tells on)
    (subst (λ hs. IsLeast hs c.in-Some.place) (sym (heads_are g.S.Source _ _ c.lines.invariant.at_heads)) c.in-Some.ensures.least)
    (c.in-Err.ensures.step tells on)

pub returns-in-Err-clause-ended : goal.returns-in-Err-clause-ended
returns-in-Err-clause-ended g c =
    ended_by g.S.Source _ _ _ (sink_shown g.K.Sink c.args.out.now) (sink_shown g.K.Sink c.lines.out) (sink_shown g.K.Sink c.pass_on.new.out)
    c.in-Err.status c.lines.invariant.goes_on c.lines.invariant.later c.in-Err.ensures.stopped

pub returns-in-Err-clause-goes_on : goal.returns-in-Err-clause-goes_on
returns-in-Err-clause-goes_on g c = all_then g.S.Source _ _ _ c.lines.invariant.goes_on c.pass_on.ensures.goes_on

pub lines-preserved : goal.lines-preserved
lines-preserved g c = record {
  few = let same = with_length (GoesOn g.S.Source) c.lines.inputs c.pass_on.new.inputs c.pass_on.ensures.goes_on in
      omega (arith, same, c.lines.invariant.few);
  at_heads = c.in_default-pass_on.ensures.at_heads;
  goes_on = all_then g.S.Source _ _ _ c.lines.invariant.goes_on c.pass_on.ensures.goes_on;
  stands = λ tells on.
      stands_more c.args.numbered c.in-Some.place _ _ _ _ _ _ (c.lines.invariant.stands tells on)
      (subst (λ hs. IsLeast hs c.in-Some.place) (sym (heads_are g.S.Source _ _ c.lines.invariant.at_heads)) c.in-Some.ensures.least)
      (c.in_default-pass_on.ensures.step tells on);
  later = omega (arith, c.lines.invariant.later, c.pass_on.ensures.later);
}
