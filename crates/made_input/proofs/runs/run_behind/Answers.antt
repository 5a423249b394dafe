use Rattle.std.proofs.Common.{◌≡◌, ◌+◌, length, map, sym, refl, ap, ◌∙◌, arith}
use Rattle.std.proofs.lemmas.List.{length-map}
use Rattle.std.proofs.lemmas.List.FromFn.{length-map-range_with_len}
use Rattle.made_input.specs.Lines.{line_at}
use Rattle.made_input.specs.Runs.{joined, texts_rotated}
use Rattle.made_input.proofs.HeardRuns.{none_heard, one_group_more, all_heard}
use Rattle.made_input.proofs.runs.run_behind.Goals as goal

pub groups-init : goal.groups-init
groups-init c = (omega arith, none_heard c.args.meters.now c.args.before c.args.count 0 c.in_ok-run.run' refl c.in_ok-run.ensures)

pub append-requires : goal.append-requires
append-requires c =
    let len : length c.in_ok-group.group.items ≡ c.min-len.result =
    sym (length-map c.in_ok-group.group.items (λ l. l.items)) ∙ ap length c.in_ok-group.ensures
    ∙ length-map-range_with_len (line_at c.args.meters.now) (c.args.before + c.groups.made + 1) c.min-len.result in
    let group = ap length c.as_slice.ensures.value in
    omega (arith, c.min-len.ensures)

pub groups-preserved : goal.groups-preserved
groups-preserved c = (
  omega (arith, c.min-len.ensures),
  one_group_more c.args.meters.now c.args.before c.args.count c.groups.made c.min-len.result (map (λ l. l.items) c.in_ok-group.group.items)
      c.groups.run c.append.new.self
      (omega arith) c.min-len.ensures c.in_ok-group.ensures
      (c.in_ok-append.ensures ∙ ap (λ group. joined c.groups.run (texts_rotated (map (λ l. l.items) group))) c.as_slice.ensures.value)
      c.groups.invariant.1,
)

pub returns : goal.returns
returns c = all_heard c.args.meters.now c.args.before c.args.count c.groups.made c.groups.run (omega arith) c.groups.invariant.1
