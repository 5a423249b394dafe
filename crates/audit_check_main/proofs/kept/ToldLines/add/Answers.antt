use Rattle.std.proofs.Common.{◌≡◌, ◌++◌, ◌∷◌, ◌∙◌, ◌+◌, [], map, length, refl, sym, ap, subst, arith}
use Rattle.lists.specs.Each.{Each}
use Rattle.audit_check_main.specs.declared.kept.KeptLine.{KeptLine}
use Rattle.audit_check_main.specs.Kept.{told_again, told_kept, IsKept}
use Rattle.audit_check_main.proofs.KeptLines.{number-put, each-still, each-next, told-next}
use Rattle.audit_check_main.proofs.kept.ToldLines.add.Goals as goal

pub invariant_of-self-in_err-push : goal.invariant_of-self-in_err-push
invariant_of-self-in_err-push c =
    let width = c.width_of-width in
    let written = number-put width.result c.args.number c.self.inside.bytes.items c.args.bytes.now _ _ _ _ c.write_uint.ensures
    c.in_ok-extend_from_slice.ensures.items c.in_ok-extend_from_slice-2.ensures.items in
    subst (λ bytes. Each (IsKept bytes) c.push.new.self.items) (sym written)
    (subst (Each (IsKept _)) (sym c.in_err-push.ensures.items)
    (each-still c.self.inside.bytes.items _ c.self.inside.lines.items c.self.invariant))

pub invariant_of-self-2 : goal.invariant_of-self-2
invariant_of-self-2 c =
    let before = c.self.inside.bytes.ok.0 in
    let start = c.len-start.ensures in
    let begins : c.len-start.result ≡ length c.self.inside.bytes.items = omega arith in
    let width = c.width_of-width in
    let line : KeptLine =
    record { start = c.len-start.result; len = width.result + length c.args.bytes.now; width = width.result; kind = c.args.kind } in
    let written = number-put width.result c.args.number c.self.inside.bytes.items c.args.bytes.now _ _ _ _ c.write_uint.ensures
    c.in_ok-extend_from_slice.ensures.items c.in_ok-extend_from_slice-2.ensures.items in
    subst (λ bytes. Each (IsKept bytes) c.push.new.self.items) (sym written)
    (subst (Each (IsKept _)) (sym c.in_ok-push.ensures.items)
    (each-next c.self.inside.bytes.items c.args.bytes.now c.args.number c.self.inside.lines.items line c.self.invariant begins refl
    width.ensures.least width.ensures.most width.ensures.fits c.requires.fits))

pub returns : goal.returns
returns c =
    let before = c.self.inside.bytes.ok.0 in
    let start = c.len-start.ensures in
    let begins : c.len-start.result ≡ length c.self.inside.bytes.items = omega arith in
    let width = c.width_of-width in
    let line : KeptLine =
    record { start = c.len-start.result; len = width.result + length c.args.bytes.now; width = width.result; kind = c.args.kind } in
    let written = number-put width.result c.args.number c.self.inside.bytes.items c.args.bytes.now _ _ _ _ c.write_uint.ensures
    c.in_ok-extend_from_slice.ensures.items c.in_ok-extend_from_slice-2.ensures.items in
    (λ i. map (told_kept (written i)) (c.in_ok-push.ensures.items i))
    ∙ told-next c.self.inside.bytes.items c.args.bytes.now c.args.number c.self.inside.lines.items line c.self.invariant begins refl
    width.ensures.least width.ensures.most width.ensures.fits
    ∙ ap (λ before. before ++ told_again c.args.kind c.args.number c.args.bytes.now ∷ []) c.self.view_is
