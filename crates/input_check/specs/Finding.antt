-- Words of private contracts: faulty lines that are gathered.
use Rattle.std.specs.Prelude.{ℕ, ◌≡◌, false, List, [], length, take}
use Rattle.meter_address.specs.declared.address.Address.{Address}
use Rattle.line_reader.specs.Lines.{is_over, all_lines}
use Rattle.input_check.specs.declared.faulty.FaultyLine.{FaultyLine}
use Rattle.input_check.specs.declared.faulty.FaultyLines.{FaultyLines}
use Rattle.input_check.specs.Faulty.{faulty_lines, heard_in}

-- the first 100 of these faulty lines are held, how many they are, and the addresses
pub record Holds (faults : List FaultyLine) (addresses : List Address) (found : FaultyLines) : Type 0 where
  pub first : found.first.items ≡ take 100 faults
  pub count : found.count ≡ length faults
  pub heard : found.heard.items ≡ addresses

-- the faulty ones of so many lines are held
pub record IsFound (lines : List (List ℕ)) (count : ℕ) (found : FaultyLines) : Type 0 where
  pub numbered : length lines ≡ count
  pub holds : Holds (faulty_lines lines) (heard_in lines) found

-- the source was read to its end within its limits, and the faulty ones of all its lines are held
pub record AreAllFound (taken left : List ℕ) (found : FaultyLines) : Type 0 where
  pub nothing_left : left ≡ []
  pub within : is_over taken ≡ false
  pub holds : Holds (faulty_lines (all_lines taken)) (heard_in (all_lines taken)) found
