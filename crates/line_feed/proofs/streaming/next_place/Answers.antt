-- The first newline behind the first bytes, or there is none.
use Rattle.std.proofs.Common.{◌∙◌, drop, sym, ap}
use Rattle.std.specs.Prelude.{position}
use Rattle.line_reader.proofs.NewlineLemmas.{is_newline, no_place}
use Rattle.line_feed.proofs.Cuts.{place_at}
use Rattle.line_feed.proofs.streaming.next_place.Goals as goal

pub returns-in_err-place : goal.returns-in_err-place
returns-in_err-place c =
    let behind = ap (position is_newline) (sym c.split_at.ensures.back) ∙ sym c.first_place.ensures ∙ c.in_err-place.was in
    rw c.from_residual.ensures (no_place (drop c.args.at c.args.read.now) behind)

pub returns : goal.returns
returns c =
    let found = ap (position is_newline) (sym c.split_at.ensures.back) ∙ sym c.first_place.ensures ∙ c.in_ok-place.was in
    place_at c.args.read.now c.args.at c.in_ok-place.place c.requires found
