-- A run by its status.
use Rattle.std.proofs.Common.{◌≡◌, ◌==◌, ◌^◌, ℕ, ◌<◌, ◌≤◌, Bool, true, false, List, length, IsTrue, refl, ap, ◌∙◌, arith, length-append}
use Rattle.std.specs.Prelude.{Option, IfSome}
use Rattle.std.proofs.lemmas.Bool.{both_ways}
use Rattle.std.proofs.lemmas.List.Sums.{count_by-le-length}
use Rattle.std.proofs.lemmas.List.Splits.{length-slice_split}
use Rattle.report_text.specs.Orders.{lines_in}
use Rattle.lists.specs.Each.{Each, IsFirst}
use Rattle.outer_io.specs.Shown.{Change, SourceShown, SinkShown, ReadFailed, LosesNothing, IsSilent}
use Rattle.audit_check_main.specs.declared.status.AuditStatus.{AuditStatus}
use Rattle.audit_check_main.specs.declared.status.AuditStatus.TheVariants as statuses
use Rattle.audit_check_main.specs.Run.{Run, are_files, IsReadPast, WasRead, IsCausedBy, IsTooLong, IsFaultless, IsDone, IsRun}
use Rattle.audit_check_main.proofs.Firsts.{none_stops}

-- all that a source had was read, where no more than this was
pub read_all_of : (most : ℕ) (source : Change SourceShown) (bytes : List ℕ) → IsReadPast most source bytes → length bytes ≤ most
    → length source.before.left ≤ most
read_all_of most source bytes h few =
    let none = ap length (h.ended few) in
    let whole = ap length h.moved.front ∙ length-append bytes source.now.left in omega arith

pub read_long_of : (most : ℕ) (source : Change SourceShown) (bytes : List ℕ) → IsReadPast most source bytes → most < length bytes
    → most < length source.before.left
read_long_of most source bytes h long = let whole = ap length h.moved.front ∙ length-append bytes source.now.left in omega arith

module _ (sources_tell sinks_tell : Bool) (words : List (List ℕ)) (state : Change SourceShown) (next : Option (Change SourceShown))
    (report : Change SourceShown) (inputs : List (Change SourceShown)) (out : Change SinkShown) where
  abbrev pub run_with : AuditStatus → Run
  run_with status =
      record {
        sources_tell = sources_tell;
        sinks_tell = sinks_tell;
        words = words;
        state = state;
        next = next;
        report = report;
        inputs = inputs;
        out = out;
        status = status;
      }

  abbrev pub Keeps : Type 0
  Keeps = IsTrue sources_tell → LosesNothing state × IfSome next LosesNothing × LosesNothing report × Each LosesNothing inputs

  abbrev pub IsShort : Type 0
  IsShort = IsTrue sources_tell → length report.before.left ≤ 1073741824

  -- a status behind words that name files
  pub made : (status : AuditStatus) → are_files words ≡ true → IsCausedBy (run_with status) status
      → (IsTrue sources_tell → 1073741824 < length report.before.left → IsTooLong status)
      → (IsTrue sources_tell → IsFaultless (run_with status) → IsDone status) → Keeps → IsSilent out → IsRun (run_with status)
  made status files caused long complete keeps silent = record {
    caused = caused;
    refused = λ h. absurd (both_ways (are_files words) h files);
    too_long = λ t right. long t;
    complete = complete;
    no_loss = keeps;
    silent = λ h. silent;
  }

  pub run_words : are_files words ≡ false → Keeps → IsSilent out → IsRun (run_with statuses.Words)
  run_words files keeps silent = record {
    caused = files;
    refused = λ h. refl;
    too_long = λ t right long. absurd (both_ways (are_files words) files right);
    complete = λ t f. absurd (both_ways (are_files words) files f.words);
    no_loss = keeps;
    silent = λ h. silent;
  }

  pub run_long : are_files words ≡ true → (IsTrue sources_tell → 1073741824 < length report.before.left) → Keeps → IsSilent out
      → IsRun (run_with statuses.LongReport)
  run_long files long =
      made statuses.LongReport files long (λ t longer. tt) (λ t f. absurd (let l = long t in let s = f.short in omega arith))

  pub run_read : (w : ℕ) → are_files words ≡ true → IsShort → IsFirst (λ source. IsTrue sources_tell → WasRead source) ReadFailed w inputs
      → Keeps → IsSilent out → IsRun (run_with (statuses.Read w))
  run_read w files short failed = made (statuses.Read w) files failed (λ t long. absurd (let s = short t in omega arith))
      (λ t f. absurd (none_stops (λ source. IsTrue sources_tell → WasRead source) ReadFailed
      (λ source. ReadFailed source → ⊥) (λ source no yes. no yes) 1 w
      inputs failed f.inputs_steady))

-- a text within the limit has fewer than 2^32 lines
pub lines_few : (text : List ℕ) → length text ≤ 1073741824 → length (lines_in text) < 2 ^ 32
lines_few text few = omega (arith, length-slice_split (λ b. b == 10) text, count_by-le-length (λ b. b == 10) text)
