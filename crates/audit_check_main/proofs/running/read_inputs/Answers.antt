-- Inputs that were read one after another, and one more.
use Rattle.std.proofs.Common.{◌≡◌, ◌+◌, slice_set, IsTrue, Err, refl, ap, subst, arith}
use Rattle.lists.specs.Each.{IsFirst}
use Rattle.outer_io.specs.Shown.{ReadFailed}
use Rattle.audit_check_main.specs.Run.{WasRead, source_changes}
use Rattle.audit_check_main.proofs.InputReads.{inputs_first, inputs_next, inputs_lost, inputs_failed}
use Rattle.audit_check_main.proofs.running.read_inputs.Goals as goal

pub loop-place-init : goal.loop-place-init
loop-place-init g c =
    inputs_first g.S.Source c.args.inputs.now.items c.args.inputs.now.items c.new-read.result.items refl c.new-read.ensures.items

pub returns-in_default-clause-no_loss : goal.returns-in_default-clause-no_loss
returns-in_default-clause-no_loss g c =
    λ t. inputs_lost g.S.Source _ _ _ _ _ _ c.read_input.new.source c.loop-place.invariant
    (let t = c.loop-place-test.true in let n = c.len-place-end.ensures in let o = c.args.inputs.now.ok.0 in omega arith)
    c.index_mut-source.ensures.value refl c.read_input.ensures.no_loss t

pub returns-in-Err-Failed-clause-failed : goal.returns-in-Err-Failed-clause-failed
returns-in-Err-Failed-clause-failed g c = λ w e.
    let same : c.loop-place.place + 1 ≡ w = cc in
    subst (λ v. IsFirst (λ source. IsTrue g.S.Source.tells → WasRead source) ReadFailed v (source_changes g.S.Source c.args.inputs.now.items
    (slice_set c.loop-place.inputs.items c.loop-place.place c.read_input.new.source))) same
    (inputs_failed g.S.Source _ _ _ _ _ _ c.read_input.new.source c.loop-place.invariant
    (let t = c.loop-place-test.true in let n = c.len-place-end.ensures in let o = c.args.inputs.now.ok.0 in omega arith)
    c.index_mut-source.ensures.value refl (c.in-Err-Failed.ensures.failed (ap Err c.in-Err-Failed.field-0-is)))

pub returns-in-Err-Failed-clause-no_loss : goal.returns-in-Err-Failed-clause-no_loss
returns-in-Err-Failed-clause-no_loss g c =
    λ t. inputs_lost g.S.Source _ _ _ _ _ _ c.read_input.new.source c.loop-place.invariant
    (let t = c.loop-place-test.true in let n = c.len-place-end.ensures in let o = c.args.inputs.now.ok.0 in omega arith)
    c.index_mut-source.ensures.value refl c.read_input.ensures.no_loss t

pub returns-in-Err-Memory-clause-no_loss : goal.returns-in-Err-Memory-clause-no_loss
returns-in-Err-Memory-clause-no_loss g c =
    λ t. inputs_lost g.S.Source _ _ _ _ _ _ c.read_input.new.source c.loop-place.invariant
    (let t = c.loop-place-test.true in let n = c.len-place-end.ensures in let o = c.args.inputs.now.ok.0 in omega arith)
    c.index_mut-source.ensures.value refl c.read_input.ensures.no_loss t

pub loop-place-preserved : goal.loop-place-preserved
loop-place-preserved g c =
    inputs_next g.S.Source _ _ _ _ _ _ c.read_input.new.source c.loop-place.invariant
    (let t = c.loop-place-test.true in let n = c.len-place-end.ensures in let o = c.args.inputs.now.ok.0 in omega arith)
    c.index_mut-source.ensures.value refl c.in-Ok.input c.push.new.self.items
    c.in-Ok-push.ensures.items
    c.in-Ok.ensures.read c.read_input.ensures.no_loss
