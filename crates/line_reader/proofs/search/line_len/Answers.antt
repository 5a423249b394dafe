use Rattle.std.proofs.Common.{◌∙◌, ◌+◌, drop, sym, ap, refl, arith}
use Rattle.std.specs.Prelude.{position}
use Rattle.line_reader.proofs.NewlineLemmas.{is_newline, newlines-take, newlines-of_parts, no_place, line_in_rest, short_of_line}
use Rattle.line_reader.proofs.search.line_len.Goals as goal

pub returns-in_err-place : goal.returns-in_err-place
returns-in_err-place c =
    let behind = ap (position is_newline) (sym c.split_at.ensures.back) ∙ sym c.first_place.ensures ∙ c.in_err-place.was in
    rw c.from_residual.ensures (newlines-take c.args.most c.args.bytes.now
    (newlines-of_parts c.args.searched c.args.bytes.now c.requires.alone (no_place (drop c.args.searched c.args.bytes.now) behind)))

pub returns-then-searched-place : goal.returns-then-searched-place
returns-then-searched-place c =
    let found = ap (position is_newline) (sym c.split_at.ensures.back) ∙ sym c.first_place.ensures ∙ c.in_ok-place.was in
    let line =
    line_in_rest c.args.bytes.now c.args.searched c.in_ok-place.place
    (c.args.searched + c.in_ok-place.place + 1) refl c.requires.within c.requires.alone found in
    short_of_line c.args.bytes.now (c.args.searched + c.in_ok-place.place + 1) c.args.most line (omega arith)

pub returns : goal.returns
returns c =
    let found = ap (position is_newline) (sym c.split_at.ensures.back) ∙ sym c.first_place.ensures ∙ c.in_ok-place.was in (
      omega arith,
      line_in_rest c.args.bytes.now c.args.searched c.in_ok-place.place
          (c.args.searched + c.in_ok-place.place + 1) refl c.requires.within c.requires.alone found,
    )
