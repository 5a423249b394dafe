-- A made session: the text of its roster, and what each of four receivers hears.
use Rattle.std.specs.Prelude.{ℕ, List}
use Rattle.std.specs.List.{concat}
use Rattle.roster_file.specs.Text.{roster_text}
use Rattle.made_input.specs.Meters.{meters_of, roster_of}
use Rattle.made_input.specs.Lines.{lines_of, heard}

-- what contracts see of a made session
pub record Session : Type 0 where
  pub roster : List ℕ
  pub first : List ℕ
  pub second : List ℕ
  pub third : List ℕ
  pub fourth : List ℕ

-- every receiver hears all lines, each in an order of its own
unfoldable pub made : ℕ → ℕ → ℕ → Session
made meters telegrams number =
    let lines = lines_of (meters_of meters number) telegrams in
    record {
      roster = roster_text (roster_of meters number);
      first = concat (heard 0 lines);
      second = concat (heard 1 lines);
      third = concat (heard 2 lines);
      fourth = concat (heard 3 lines);
    }
