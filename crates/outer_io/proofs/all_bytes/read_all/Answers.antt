-- What was read joined to what is read now.
use Rattle.std.proofs.Common.{◌∙◌, arith, take}
use Rattle.outer_io.proofs.Parts.{left_then, taken_then, none_lost, none_moved, more_than}
use Rattle.outer_io.proofs.all_bytes.read_all.Goals as goal

pub reads-preserved : goal.reads-preserved
reads-preserved g c = (
  omega (arith, c.reads.invariant.0, c.in-Ok.ensures.later),
  λ on. left_then _ c.reads.bytes.items _ (take c.in-Ok.count c.read.new.into) _ _ (c.reads.invariant.1 on) (c.in-Ok.ensures.ok on).front
      c.in_ok-extend_from_slice.ensures.items,
  λ on. taken_then _ _ _ c.reads.bytes.items _ (take c.in-Ok.count c.read.new.into) (c.reads.invariant.2 on) (c.in-Ok.ensures.ok on).back
      c.in_ok-extend_from_slice.ensures.items,
)

pub returns-in_default-clause-no_loss : goal.returns-in_default-clause-no_loss
returns-in_default-clause-no_loss g c = λ on.
    none_moved _ _ _ _ (c.in_default.ensures.err on)
    ∙ none_lost _ _ _ c.reads.bytes.items _ (c.reads.invariant.1 on) (c.reads.invariant.2 on)

pub returns-clause-many : goal.returns-clause-many
returns-clause-many g c = λ wrong on.
    more_than _ c.reads.bytes.items _ _ (omega (arith, c.reads-test.false, c.len.ensures, c.reads.bytes.ok.0)) (c.reads.invariant.1 on)

pub returns-clause-no_loss : goal.returns-clause-no_loss
returns-clause-no_loss g c = λ on. none_lost _ _ _ c.reads.bytes.items _ (c.reads.invariant.1 on) (c.reads.invariant.2 on)
