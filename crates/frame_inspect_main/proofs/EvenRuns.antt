-- Runs of items differ by at most one in length, the longer ones come first, and none is left out at the end.
use Rattle.std.proofs.Common.{ℕ, ◌≤◌, ◌+◌, ◌-◌, ◌/◌, ◌%◌, ⊎_elim, sym, ◌∙◌, arith}
use Rattle.std.specs.Prelude.{List, ◌++◌, replicate}
use Rattle.std.proofs.Math.Nat.{mod-lt}
use Rattle.std.proofs.lemmas.Bool.{cases_lt}
use Rattle.std.proofs.lemmas.List.{length-append, length-replicate, get_or-replicate, get_or_append_left, get_or-append_right}
use Rattle.std.proofs.lemmas.List.FromFn.{fill_by_all}
use Rattle.std.proofs.lemmas.Nat.{mul-le, div-add-mod'}
use Rattle.frame_inspect_main.specs.Runs.{run_start, RunsAreEven, RunsAreWhole}

-- no run begins behind the last item
pub starts_within : (count workers worker : ℕ) → worker ≤ workers → run_start count workers worker ≤ count
starts_within count workers worker within =
    omega (arith, mul-le (count / workers) worker (count / workers) workers (omega arith) within, div-add-mod' count workers)

pub starts_grow : (count workers worker : ℕ) → run_start count workers worker ≤ run_start count workers (worker + 1)
starts_grow count workers worker = omega arith

pub runs_are_even : RunsAreEven
runs_are_even count workers some =
    let mean : ℕ = count / workers in
    let rest : ℕ = count % workers in
    let less = mod-lt count some in
    let longer : List ℕ = replicate rest (mean + 1) in
    let others : List ℕ = replicate (workers - rest) mean in
    let many = length-replicate rest (mean + 1) in
    sym (fill_by_all (λ worker. run_start count workers (worker + 1) - run_start count workers worker) (longer ++ others) workers 0
    (length-append longer others ∙ omega (arith, length-replicate (workers - rest) mean))
    (λ k within. ⊎_elim
    (λ first. get_or_append_left longer others 0 k (omega arith) ∙ get_or-replicate rest k (mean + 1) 0 first ∙ omega arith)
    (λ last. get_or-append_right longer others rest k 0 many last ∙ get_or-replicate (workers - rest) (k - rest) mean 0 (omega arith)
    ∙ omega arith)
    (cases_lt k rest)))

pub runs_are_whole : RunsAreWhole
runs_are_whole count workers some = omega (arith, mod-lt count some, div-add-mod' count workers)
