-- Words of private contracts: lines that are listed behind what stands in front of them.
use Rattle.std.specs.Prelude.{ℕ, ◌≡◌, ◌||◌, not, Bool, true, false, List, [], ◌++◌, IsTrue, if◌then◌else◌}
use Rattle.outer_io.specs.Shown.{ReadFailed, WriteFailed, LosesNothing}
use Rattle.line_teller.specs.declared.ending.LinesEnd.{LinesEnd}
use Rattle.line_teller.specs.declared.ending.LinesEnd.TheVariants as ends
use Rattle.line_teller.specs.Ending.{EndsText, IsNoted, is_whole}
use Rattle.reading_list.specs.declared.lister.Lister.{Lister}
use Rattle.reading_list.specs.Notes.{ending_text}
use Rattle.reading_list.specs.Listing.{fresh, listed, noted, lister_behind}
use Rattle.reading_list.specs.Pages.{EndsLines}
use Rattle.reading_list.specs.Run.{Run, is_faultless, status_of}

abbrev pub is_read_out : LinesEnd → Bool
is_read_out ends.Done = true
is_read_out _ = false

-- what is noted behind lines that ended so
abbrev pub end_notes : LinesEnd → Lister → List ℕ
end_notes end l = if is_whole end then ending_text (not (is_read_out end) || l.whole) l.noted else []

-- lines were listed and noted, whatever stood on the sinks before
pub record ToldLines (run : Run) (end : LinesEnd) : Type 0 where
  pub lines : List (List ℕ)
  pub lines_are : EndsLines end run.report.now.taken run.report.now.left lines
  pub listed : IsTrue run.list_tells → EndsText end (listed (fresh run.form) lines) run.out
  pub noted : IsTrue (is_whole end) → IsTrue run.notes_tell
      → IsNoted (noted 1 (fresh run.form) lines ++ ending_text (not (is_read_out end) || (lister_behind (fresh run.form) lines).whole)
      (lister_behind (fresh run.form) lines).noted) run.notes
  pub status : IsTrue (is_whole end) → run.status ≡ status_of end (is_faultless (lister_behind (fresh run.form) lines))

-- how the lines ended, and what is known by that
pub record IsToldRun (run : Run) : Type 0 where
  pub end : LinesEnd
  pub faultless : Bool
  pub status : run.status ≡ status_of end faultless
  pub told : IsTrue run.report_tells → ToldLines run end
  pub read : end ≡ ends.Read → ReadFailed run.report
  pub write : end ≡ ends.Write → WriteFailed run.out
  pub bytes : IsTrue run.report_tells → LosesNothing run.report
