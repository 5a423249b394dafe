-- The lines of a made session in runs, each of which one worker makes and puts together for the four receivers.
use Rattle.std.specs.Prelude.{ℕ, ◌+◌, ◌-◌, ◌*◌, ◌/◌, List, [], ◌++◌, map, min}
use Rattle.std.specs.List.{range_with_len, concat}
use Rattle.meter_address.specs.Commission.{Commissioned}
use Rattle.made_input.specs.Lines.{line_at, rotated, heard}

-- what each receiver hears
pub record Texts : Type 0 where
  pub first : List ℕ
  pub second : List ℕ
  pub third : List ℕ
  pub fourth : List ℕ

abbrev pub nothing : Texts
nothing = record { first = []; second = []; third = []; fourth = [] }

-- the one, and the other behind it
unfoldable pub joined : Texts → Texts → Texts
joined a b = record { first = a.first ++ b.first; second = a.second ++ b.second; third = a.third ++ b.third; fourth = a.fourth ++ b.fourth }

-- what they hear of lines, each in its order
unfoldable pub texts_heard : List (List ℕ) → Texts
texts_heard lines = record {
  first = concat (heard 0 lines);
  second = concat (heard 1 lines);
  third = concat (heard 2 lines);
  fourth = concat (heard 3 lines);
}

-- and of one group of lines
unfoldable pub texts_rotated : List (List ℕ) → Texts
texts_rotated group = record {
  first = concat (rotated 0 group);
  second = concat (rotated 1 group);
  third = concat (rotated 2 group);
  fourth = concat (rotated 3 group);
}

-- the lines of so many telegrams behind those before them
abbrev pub lines_behind : List Commissioned → ℕ → ℕ → List (List ℕ)
lines_behind meters before count = map (line_at meters) (range_with_len (before + 1) count)

-- how many telegrams stand before the run of a worker: a run has whole groups of four, and only the last may end with a shorter one
abbrev pub run_start : ℕ → ℕ → ℕ
run_start telegrams worker = min telegrams ((telegrams + 15) / 16 * 4 * worker)

abbrev pub lines_of_run : List Commissioned → ℕ → ℕ → List (List ℕ)
lines_of_run meters telegrams worker =
    let start = run_start telegrams worker in
    let end = run_start telegrams (worker + 1) in
    lines_behind meters start (end - start)
