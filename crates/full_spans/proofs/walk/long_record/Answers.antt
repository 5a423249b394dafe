use Rattle.std.proofs.Common.{◌≡◌, ℕ, ◌-◌, ◌∷◌, length, drop, get_or, take, sym, ap, subst, List, ◌∙◌, arith, length-drop}
use Rattle.std.proofs.lemmas.List.{drop_more, take_all}
use Rattle.dif_vif.specs.Stops.{HasUnusedLvar}
use Rattle.full_spans.proofs.Found.{goes_long, long_at-empty, long_at-some, unused_there}
use Rattle.full_spans.proofs.walk.long_record.Goals as goal

pub returns-in-empty : goal.returns-in-empty
returns-in-empty c =
    goes_long c.args.bytes.now c.args.from c.behind_fillers-start.result c.args.lvar c.in-Some.width c.split_at.result.1.now _
    (sym c.long_width.ensures.value ∙ c.in-Some.is) c.behind_fillers-start.ensures.value c.split_at.ensures.back
    (long_at-empty c.behind_fillers-start.result c.args.lvar c.in-Some.width c.split_at.result.1.now c.in-empty.len_below)

pub returns-in-len1-up : goal.returns-in-len1-up
returns-in-len1-up c =
    let whole = c.split_at.result.1.now in
    let rest : take (length whole - 1) (drop 1 whole) ≡ drop 1 whole =
    take_all (length whole - 1) (drop 1 whole) (omega (arith, length-drop 1 whole)) in
    let parts : whole ≡ get_or whole 0 0 ∷ take (length whole - 1) (drop 1 whole) =
    drop_more whole 0 0 (omega (arith, c.in-len1-up.len_at_least)) ∙ ap (λ (r : List ℕ). get_or whole 0 0 ∷ r) (sym rest) in
    let stands = unused_there c.args.bytes.now c.args.from c.behind_fillers-start.result c.args.lvar c.requires.ends
    c.behind_fillers-start.ensures.value in
    goes_long c.args.bytes.now c.args.from c.behind_fillers-start.result c.args.lvar c.in-Some.width whole _
    (sym c.long_width.ensures.value ∙ c.in-Some.is) c.behind_fillers-start.ensures.value c.split_at.ensures.back
    (c.stretched.ensures ∙ long_at-some c.behind_fillers-start.result c.args.lvar c.in-Some.width _ whole _ c.head_span.result parts
    (c.head_span.ensures.exact c.args.lvar
    (subst (λ xs. HasUnusedLvar xs c.args.lvar) (sym c.split_at.ensures.back ∙ parts) stands)))
