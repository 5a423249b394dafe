-- A run over a receiver's lines: what its source and its sink showed before and after it, and what is promised of it.
use Rattle.std.specs.Prelude.{ℕ, ◌≡◌, ◌⊎◌, Bool, true, false, List, ◌++◌, IsTrue}
use Rattle.outer_io.specs.Shown.{Change, SourceShown, SinkShown, ReadFailed, WriteFailed, LosesNothing}
use Rattle.line_reader.specs.Lines.{is_over, all_lines}
use Rattle.line_teller.specs.declared.ending.LinesEnd.{LinesEnd}
use Rattle.line_teller.specs.declared.ending.LinesEnd.TheVariants as ends
use Rattle.line_teller.specs.Ending.{EndsLines, EndsText}
use Rattle.address_list.specs.Addresses.{addresses_text}

-- the program's exit status
abbrev pub code_of : LinesEnd → ℕ
code_of ends.Done = 0
code_of ends.Read = 5
code_of ends.Write = 7
code_of ends.Cut = 8
code_of ends.Memory = 10

pub record Run : Type 0 where
  -- whether contracts know the bytes of the source, and of the sink
  pub input_tells : Bool
  pub out_tells : Bool
  pub input : Change SourceShown
  pub out : Change SinkShown
  -- how the lines ended
  pub end : LinesEnd

-- ---- what is promised

-- the input was read to its end, and what is printed of all its lines stands behind what was written before
pub record IsDone (run : Run) : Type 0 where
  pub within : is_over (run.input.before.taken ++ run.input.before.left) ≡ false
  pub written : IsTrue run.out_tells
      → run.out.now.written ≡ run.out.before.written ++ addresses_text (all_lines (run.input.before.taken ++ run.input.before.left))

-- lines of the input, as `EndsLines` says of this end, and what is printed of them, or a front of it where not all could be written
pub record IsListed (run : Run) : Type 0 where
  pub lines : List (List ℕ)
  pub lines_are : EndsLines run.end run.input.now.taken run.input.now.left lines
  pub written : IsTrue run.out_tells → EndsText run.end (addresses_text lines) run.out

-- nothing stands in the way
pub record IsUnhindered (run : Run) : Type 0 where
  pub within : is_over (run.input.before.taken ++ run.input.before.left) ≡ false
  pub read : ReadFailed run.input → ⊥
  pub written : WriteFailed run.out → ⊥

pub record IsRun (run : Run) : Type 0 where
  -- after status 0 all lines are listed
  pub done : run.end ≡ ends.Done → IsTrue run.input_tells → IsDone run
  -- after each status lines are listed as far as it says
  pub listed : IsTrue run.input_tells → IsListed run
  -- a failed read, a failed write and a limit are the causes of their ends; want of memory is free
  pub read : run.end ≡ ends.Read → ReadFailed run.input
  pub write : run.end ≡ ends.Write → WriteFailed run.out
  pub cut : run.end ≡ ends.Cut → IsTrue run.input_tells → is_over (run.input.before.taken ++ run.input.before.left) ≡ true
  -- where nothing stands in the way all lines are listed, unless there is no memory
  pub complete : IsTrue run.input_tells → IsUnhindered run → (run.end ≡ ends.Done) ⊎ (run.end ≡ ends.Memory)
  -- whatever happens, no byte of the input is lost
  pub no_loss : IsTrue run.input_tells → LosesNothing run.input
