-- Lines that are passed on, one after another, and what a merge comes to.
use Rattle.std.proofs.Common.{ℕ, ◌≡◌, ◌+◌, ◌≤◌, Bool, true, false, List, [], ◌∷◌, ◌++◌, get_or, slice_set, Option, Err, refl, sym, ap, subst, ◌∙◌, append_assoc, inl, inr}
use Rattle.std.specs.Prelude.{IsTrue}
use Rattle.std.proofs.lemmas.List.{append-nil}
use Rattle.outer_io.specs.declared.sources.Source as sources
use Rattle.outer_io.specs.Bytes.{AppendsFront}
use Rattle.outer_io.proofs.Fronts.{behind, both}
use Rattle.lists.specs.Each.{Each, EachWith}
use Rattle.outer_io.specs.Shown.{Change, SinkShown, LosesNothing}
use Rattle.line_reader.specs.Reader.{TextReading}
use Rattle.line_merge.specs.declared.status.FaultyInput.{FaultyInput}
use Rattle.line_merge.specs.declared.status.InputFault.{InputFault}
use Rattle.line_merge.specs.declared.status.InputFault.TheVariants as faults
use Rattle.line_merge.specs.declared.status.MergeStatus.{MergeStatus}
use Rattle.line_merge.specs.declared.status.MergeStatus.TheVariants as statuses
use Rattle.line_merge.specs.Least.{HasHead, IsLeast}
use Rattle.line_merge.specs.Merging.{Timed, Merged, heads_of}
use Rattle.line_merge.specs.Inputs.{line_text, merged_text, merge_text}
use Rattle.line_merge.specs.Run.{Run, IsRun, InputShown, HasFault, IsFaulty, IsFaultless, IsUnhindered, IsCausedBy, IsMergedInPart, IsWritten, lines_of, inputs_shown}
use Rattle.line_merge.specs.Steps.{Passes, PassesInPart, IsStep, IsStopped, IsEnded, StandsAfter}
use Rattle.line_merge.specs.Readers.{IsAtHead, GoesOn, later_at, rests_of}
use Rattle.line_merge.proofs.Rows.{among, rose_from, faulty_from, within_from}
use Rattle.line_merge.proofs.Merges.{merges_more}

-- ---- texts

text_more : (numbered : Bool) (merged : List Merged) (m : Merged)
    → merge_text numbered (merged ++ m ∷ []) ≡ merge_text numbered merged ++ merged_text numbered m
text_more numbered [] m = append-nil (merged_text numbered m)
text_more numbered (n ∷ merged) m =
    ap (λ t. merged_text numbered n ++ t) (text_more numbered merged m)
    ∙ sym (append_assoc (merged_text numbered n) (merge_text numbered merged) (merged_text numbered m))

-- ---- one line

module _ {S : Type 0} (s : sources.Ghosts S) (numbered : Bool) (place at : ℕ) (rs : List (TextReading S)) (heads : List (Option ℕ))
    (r d : TextReading S) (text : List ℕ) (at_heads : EachWith (IsAtHead s) rs heads) (head : HasHead heads place at)
    (here : r ≡ get_or rs place d) (text_is : text ≡ r.text) (before now : List ℕ) where
  pub passes : now ≡ before ++ line_text numbered (place + 1) text
      → Passes numbered place (rests_of s rs heads) (slice_set (rests_of s rs heads) place (later_at s rs place at)) before now
  passes written = record {
    line = record { at = at; bytes = r.text };
    takes = (among s rs heads place at r d at_heads head here).takes;
    written = written ∙ ap (λ t. before ++ line_text numbered (place + 1) t) text_is;
  }

  pub passes_in_part : AppendsFront (line_text numbered (place + 1) text) before now
      → PassesInPart numbered place (rests_of s rs heads) before now
  passes_in_part front = record {
    line = record { at = at; bytes = r.text };
    after = slice_set (rests_of s rs heads) place (later_at s rs place at);
    takes = (among s rs heads place at r d at_heads head here).takes;
    written = subst (λ t. AppendsFront (line_text numbered (place + 1) t) before now) text_is front;
  }

-- ---- one line more

pub stands_more : (numbered : Bool) (place : ℕ) (inputs left after : List (List Timed)) (before now next : List ℕ)
    → StandsAfter numbered inputs left before now → IsLeast (heads_of left) place → Passes numbered place left after now next
    → StandsAfter numbered inputs after before next
stands_more numbered place inputs left after before now next stands least passes =
    let m : Merged = record { place = place; line = passes.line } in
    record {
      merged = stands.merged ++ m ∷ [];
      merges = merges_more inputs left after stands.merged m stands.merges least passes.takes;
      written = both (merge_text numbered stands.merged) (merged_text numbered m) before now next stands.written passes.written
          ∙ ap (λ t. before ++ t) (sym (text_more numbered stands.merged m));
    }

-- ---- the last step

pub merged_in_part : (numbered : Bool) (place : ℕ) (inputs left : List (List Timed)) (before now next : List ℕ)
    → StandsAfter numbered inputs left before now → IsLeast (heads_of left) place → PassesInPart numbered place left now next
    → IsMergedInPart numbered inputs before next
merged_in_part numbered place inputs left before now next stands least part =
    let m : Merged = record { place = place; line = part.line } in
    record {
      merged = stands.merged ++ m ∷ [];
      left = part.after;
      merges = merges_more inputs left part.after stands.merged m stands.merges least part.takes;
      written = subst (λ t. AppendsFront t before next) (sym (text_more numbered stands.merged m))
          (behind (merge_text numbered stands.merged) (merged_text numbered m) before now next stands.written part.written);
    }

pub written_by : (status : MergeStatus) (numbered : Bool) (place : ℕ) (inputs left after : List (List Timed)) (before now next : List ℕ)
    → StandsAfter numbered inputs left before now → IsLeast (heads_of left) place
    → IsStep (Err status) numbered place left after now next → IsWritten status numbered inputs before next
written_by statuses.Done numbered place inputs left after before now next stands least step = absurd step
written_by (statuses.Input faulty) numbered place inputs left after before now next stands least step =
    let more = stands_more numbered place inputs left step.0 before now next stands least step.1 in
    record { merged = more.merged; left = step.0; merges = more.merges; written = more.written }
written_by statuses.Write numbered place inputs left after before now next stands least step =
    merged_in_part numbered place inputs left before now next stands least step

-- why the merge ended, by why its last step did
pub ended_by : {S : Type 0} (s : sources.Ghosts S) (firsts nows news : List (TextReading S)) (a b c : SinkShown) (status : MergeStatus)
    → EachWith (GoesOn s) firsts nows → a.faults ≤ b.faults
    → IsStopped s.tells (inputs_shown s nows news) (record { before = b; now = c }) status
    → IsEnded s.tells (inputs_shown s firsts news) (record { before = a; now = c }) status
ended_by s firsts nows news a b c statuses.Done on later stopped = absurd stopped
ended_by s firsts nows news a b c (statuses.Input faulty) on later stopped = faulty_from s firsts nows news 1 faulty on stopped
ended_by s firsts nows news a b c statuses.Write on later stopped = rose_from s a.faults b.faults c.faults later stopped

-- the same of more inputs' changes
pub ended_from : {S : Type 0} (s : sources.Ghosts S) (firsts nows news : List (TextReading S)) (out : Change SinkShown) (status : MergeStatus)
    → EachWith (GoesOn s) firsts nows → IsEnded s.tells (inputs_shown s nows news) out status
    → IsEnded s.tells (inputs_shown s firsts news) out status
ended_from s firsts nows news out statuses.Done on ended = λ tells. within_from s firsts nows news on tells (ended tells)
ended_from s firsts nows news out (statuses.Input faulty) on ended = faulty_from s firsts nows news 1 faulty on ended
ended_from s firsts nows news out statuses.Write on ended = ended

-- ---- the whole run

-- an input without a fault has none
no_fault : (tells : Bool) (fault : InputFault) (input : InputShown) → IsTrue tells → IsFaultless input → HasFault tells fault input → ⊥
no_fault tells faults.Read input on faultless has = faultless.read has
no_fault tells faults.Cut input on faultless has = let clash : true ≡ false = sym (has on) ∙ faultless.within in cc
no_fault tells faults.Long input on faultless has = faultless.short (has on)

none_faulty : (tells : Bool) (n : ℕ) (faulty : FaultyInput) (inputs : List InputShown) → IsTrue tells → Each IsFaultless inputs
    → IsFaulty tells n faulty inputs → ⊥
none_faulty tells n faulty [] on faultless has = has
none_faulty tells n faulty (input ∷ inputs) on faultless (inl here) = no_fault tells faulty.fault input on faultless.0 here.1
none_faulty tells n faulty (input ∷ inputs) on faultless (inr there) = none_faulty tells (n + 1) faulty inputs on faultless.1 there.1

complete_by : (run : Run) (status : MergeStatus) → IsEnded run.inputs_tell run.inputs run.out status → IsTrue run.inputs_tell → IsUnhindered run
    → status ≡ statuses.Done
complete_by run statuses.Done ended on free = refl
complete_by run (statuses.Input faulty) ended on free = absurd (none_faulty run.inputs_tell 1 faulty run.inputs on free.faultless ended)
complete_by run statuses.Write ended on free = absurd (free.written ended)

caused_by : (run : Run) (status : MergeStatus) → IsEnded run.inputs_tell run.inputs run.out status → IsCausedBy run status
caused_by run statuses.Done ended = ended
caused_by run _ ended = ended

pub ran : (run : Run) → (IsTrue run.inputs_tell → IsTrue run.out_tells
    → IsWritten run.status run.numbered (lines_of run) run.out.before.written run.out.now.written)
    → IsEnded run.inputs_tell run.inputs run.out run.status
    → (IsTrue run.inputs_tell → Each (λ i. LosesNothing i.source) run.inputs) → IsRun run
ran run written ended kept = record {
  written = written;
  caused = caused_by run run.status ended;
  complete = complete_by run run.status ended;
  no_loss = kept;
}
