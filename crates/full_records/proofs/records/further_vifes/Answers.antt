use Rattle.std.proofs.Common.{drop, sym, ◌∙◌, arith, length-take, length-drop}
use Rattle.full_spans.proofs.Found.{LiesWithin-from_full}
use Rattle.full_records.proofs.Places.{vife_of_code}
use Rattle.full_records.proofs.records.further_vifes.Goals as goal

pub part-vifes-requires : goal.part-vifes-requires
part-vifes-requires c = let places = LiesWithin-from_full c.args.bytes.now c.args.span.now c.requires in omega arith

pub split_at-requires : goal.split_at-requires
split_at-requires c =
    let places = LiesWithin-from_full c.args.bytes.now c.args.span.now c.requires in
    let some = vife_of_code c.args.bytes.now c.args.span.now _ c.requires (sym c.code_behind.ensures ∙ c.in-Some.is) in
    rw c.part-vifes.ensures (omega (
      arith,
      some,
      length-take c.args.span.now.vifes (drop c.args.span.now.vifes_at c.args.bytes.now),
      length-drop c.args.span.now.vifes_at c.args.bytes.now,
    ))
