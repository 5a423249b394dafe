-- Words of private contracts: one line that is passed on.
use Rattle.std.specs.Prelude.{ℕ, ◌≡◌, ◌++◌, Bool, false, List, Result, Ok, Err, IsTrue}
use Rattle.outer_io.specs.Bytes.{AppendsFront}
use Rattle.lists.specs.Each.{Each}
use Rattle.outer_io.specs.Shown.{Change, SinkShown, WriteFailed}
use Rattle.line_reader.specs.Lines.{is_over}
use Rattle.line_merge.specs.declared.status.MergeStatus.{MergeStatus}
use Rattle.line_merge.specs.declared.status.MergeStatus.TheVariants as statuses
use Rattle.line_merge.specs.Merging.{Timed, Merged, Takes, MergesTo}
use Rattle.line_merge.specs.Inputs.{merged_text, merge_text}
use Rattle.line_merge.specs.Run.{InputShown, IsFaulty}

-- the next line of the input at this place was taken and written
pub record Passes (numbered : Bool) (place : ℕ) (inputs after : List (List Timed)) (before now : List ℕ) : Type 0 where
  pub line : Timed
  pub takes : Takes place line inputs after
  pub written : now ≡ before ++ merged_text numbered (record { place = place; line = line })

-- a front of it was written
pub record PassesInPart (numbered : Bool) (place : ℕ) (inputs : List (List Timed)) (before now : List ℕ) : Type 0 where
  pub line : Timed
  pub after : List (List Timed)
  pub takes : Takes place line inputs after
  pub written : AppendsFront (merged_text numbered (record { place = place; line = line })) before now

-- what a step wrote, by its answer
abbrev pub IsStep : Result (Unit {0}) MergeStatus → Bool → ℕ → (inputs after : List (List Timed)) → (before now : List ℕ) → Type 0
IsStep (Ok done) numbered place inputs after before now = Passes numbered place inputs after before now
IsStep (Err (statuses.Input faulty)) numbered place inputs after before now =
    (left : List (List Timed)) × Passes numbered place inputs left before now
IsStep (Err statuses.Write) numbered place inputs after before now = PassesInPart numbered place inputs before now
IsStep (Err statuses.Done) numbered place inputs after before now = ⊥

-- why a step ends the merge
abbrev pub IsStopped : Bool → List InputShown → Change SinkShown → MergeStatus → Type 0
IsStopped tells inputs out statuses.Done = ⊥
IsStopped tells inputs out (statuses.Input faulty) = IsFaulty tells 1 faulty inputs
IsStopped tells inputs out statuses.Write = WriteFailed out

-- the cause by which a merge ended
abbrev pub IsEnded : Bool → List InputShown → Change SinkShown → MergeStatus → Type 0
IsEnded tells inputs out statuses.Done = IsTrue tells → Each (λ i. is_over i.bytes ≡ false) inputs
IsEnded tells inputs out (statuses.Input faulty) = IsFaulty tells 1 faulty inputs
IsEnded tells inputs out statuses.Write = WriteFailed out

-- between two steps: the first lines of the merge were written, and the inputs have these left
pub record StandsAfter (numbered : Bool) (inputs left : List (List Timed)) (before now : List ℕ) : Type 0 where
  pub merged : List Merged
  pub merges : MergesTo inputs merged left
  pub written : now ≡ before ++ merge_text numbered merged
