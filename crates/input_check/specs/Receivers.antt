-- Several receivers, one after another.
use Rattle.std.specs.Prelude.{ℕ, ◌≡◌, ◌+◌, ◌||◌, nat_lt, Bool, false, List, [], ◌∷◌, ◌++◌, length}
use Rattle.outer_io.specs.Shown.{Change, SourceShown, source_change}
use Rattle.outer_io.specs.declared.sources.Source as sources
use Rattle.meter_address.specs.declared.address.Address.{Address}
use Rattle.line_reader.specs.Lines.{all_lines}
use Rattle.line_reader.specs.Reader.{Reader}
use Rattle.input_check.specs.Faulty.{faulty_lines, heard_in}
use Rattle.input_check.specs.Findings.{receiver_lines}

-- a receiver of which no line was given
abbrev pub IsFresh : {S : Type 0} → Reader S → Type 0
IsFresh r = (r.line ≡ 0) × (r.done ≡ false)

-- what each receiver's source showed before and after a call
abbrev pub reader_changes : {S : Type 0} → sources.Ghosts S → (old new : List (Reader S)) → List (Change SourceShown)
reader_changes s [] news = []
reader_changes s (old ∷ olds) [] = []
reader_changes s (old ∷ olds) (new ∷ news) = source_change s old.source new.source ∷ reader_changes s olds news

-- the bytes that each receiver has left
abbrev pub bytes_of_each : {S : Type 0} → sources.Ghosts S → List (Reader S) → List (List ℕ)
bytes_of_each s [] = []
bytes_of_each s (r ∷ rs) = s.left r.source ∷ bytes_of_each s rs

-- a line of one of these receivers is faulty
abbrev pub any_faulty : List (List ℕ) → Bool
any_faulty [] = false
any_faulty (bytes ∷ later) = nat_lt 0 (length (faulty_lines (all_lines bytes))) || any_faulty later

-- the meters that the frames of all of them are for, one for each frame
abbrev pub heard_by_all : List (List ℕ) → List Address
heard_by_all [] = []
heard_by_all (bytes ∷ later) = heard_in (all_lines bytes) ++ heard_by_all later

-- the faulty lines of receivers, before which stand so many others
abbrev pub receivers_text : ℕ → List (List ℕ) → List ℕ
receivers_text before [] = []
receivers_text before (bytes ∷ later) =
    receiver_lines (before + 1) (faulty_lines (all_lines bytes)) ++ receivers_text (before + 1) later
