-- A run that shows the lines of a file.
use Rattle.std.proofs.Common.{◌≡◌, ◌⊎◌, ◌↔◌, ◌++◌, ℕ, List, Bool, true, Option, Some, inl, inr, refl, sym, ap, subst, ◌∙◌, IsTrue}
use Rattle.std.specs.Prelude.{map}
use Rattle.std.specs.List.{concat}
use Rattle.std.proofs.lemmas.List.{append-nil}
use Rattle.outer_io.specs.Shown.{Change, SourceShown, SinkShown, ReadFailed, WriteFailed, LosesNothing, HasText}
use Rattle.line_reader.specs.Lines.{is_over, all_lines}
use Rattle.line_reader.specs.Reader.{IsAtEnd}
use Rattle.frame_inspect_main.specs.declared.item.Item.{Item}
use Rattle.frame_inspect_main.specs.declared.status.InspectStatus.{InspectStatus}
use Rattle.frame_inspect_main.specs.declared.status.InspectStatus.TheVariants as statuses
use Rattle.frame_inspect_main.specs.Items.{item_of}
use Rattle.frame_inspect_main.specs.Layered.{layered_text}
use Rattle.frame_inspect_main.specs.Looks.{shown_from}
use Rattle.frame_inspect_main.specs.Run.{Run, IsRun, IsCausedBy, IsFaultless, IsDone, inspected}
use Rattle.frame_inspect_main.specs.Statuses.{shows_lines, EndsBy, IsEnd, unwritten}

-- what is shown of the items of these lines is their text
pub text_is : (lines : List (List ℕ)) (items lent : List Item) (shown : List (List ℕ)) → items ≡ map item_of lines → lent ≡ items
    → shown ≡ shown_from layered_text 1 lent → concat shown ≡ inspected lines
unfolding inspected
text_is lines items lent shown taken same is = rw (is, same, taken) refl

-- the lines given at the end of a source are all lines of the bytes that it had
all_given : (status : InspectStatus) (taken left bytes : List ℕ) (lines : List (List ℕ)) → status ≡ statuses.Done
    → EndsBy status taken left lines → taken ++ left ≡ bytes → lines ≡ all_lines bytes
all_given status taken left bytes lines done ends same =
    let end : IsAtEnd taken left lines = subst (λ s. EndsBy s taken left lines) done ends in
    end.all ∙ ap all_lines (sym (append-nil taken) ∙ ap (λ t. taken ++ t) (sym end.nothing_left) ∙ same)

-- a file is cut exactly where the bytes taken pass a limit
cut_exact : (status : InspectStatus) (lines : List (List ℕ)) (taken left : List ℕ) → IsTrue (shows_lines status)
    → EndsBy status taken left lines → (status ≡ statuses.Cut) ↔ (is_over taken ≡ true)
cut_exact statuses.Cut lines taken left shows ends = (λ cut. ends.over, λ over. refl)
cut_exact statuses.Words lines taken left shows ends = absurd cc
cut_exact statuses.Memory lines taken left shows ends = absurd cc
cut_exact _ lines taken left shows ends = let within = ends.within in (λ cut. absurd cc, λ over. absurd cc)

-- the statuses by which lines end
by_end : (P : InspectStatus → Type 0) → P statuses.Done → P statuses.Read → P statuses.Cut → (ended : InspectStatus) → IsEnd ended → P ended
by_end P done read cut statuses.Done is = done
by_end P done read cut statuses.Read is = read
by_end P done read cut statuses.Cut is = cut
by_end P done read cut _ is = absurd is

module _ (workers : Option ℕ) (st kt : Bool) (frames : Change SourceShown) (lines : List (List ℕ)) (output : Change SinkShown)
    (result : InspectStatus) where
  abbrev this : Run
  this = record { workers = workers; source_tells = st; sink_tells = kt; frames = frames; lines = lines; output = output; status = result }

  -- the lines ended so, and the output was written or not
  abbrev pub IsFinished : InspectStatus → Type 0
  IsFinished ended = (result ≡ ended) ⊎ ((result ≡ unwritten ended) × WriteFailed output)

  abbrev Ends : InspectStatus → Type 0
  Ends status = EndsBy status frames.now.taken frames.now.left lines

  finished_as : (P : InspectStatus → Type 0) (ended : InspectStatus) → P ended → (WriteFailed output → P (unwritten ended))
      → IsFinished ended → P result
  finished_as P ended one other (inl same) = subst P (sym same) one
  finished_as P ended one other (inr failed) = subst P (sym failed.0) (other failed.1)

  caused : (ended : InspectStatus) → IsEnd ended → (ended ≡ statuses.Read → ReadFailed frames) → (IsTrue st → Ends ended)
      → IsFinished ended → IsCausedBy this result
  caused = by_end (λ e. (e ≡ statuses.Read → ReadFailed frames) → (IsTrue st → Ends e) → IsFinished e → IsCausedBy this result)
      (λ cause ends. finished_as (IsCausedBy this) statuses.Done (λ told. (ends told).nothing_left) (λ failed. failed))
      (λ cause ends. finished_as (IsCausedBy this) statuses.Read (cause refl) (λ failed. cause refl))
      (λ cause ends. finished_as (IsCausedBy this) statuses.Cut (λ told. (ends told).over) (λ failed told. (ends told).over))

  shown : (ended : InspectStatus) → IsEnd ended → IsFinished ended → shows_lines result ≡ true
  shown = by_end (λ e. IsFinished e → shows_lines result ≡ true)
      (finished_as (λ s. shows_lines s ≡ true) statuses.Done refl (λ failed. refl))
      (finished_as (λ s. shows_lines s ≡ true) statuses.Read refl (λ failed. refl))
      (finished_as (λ s. shows_lines s ≡ true) statuses.Cut refl (λ failed. refl))

  ended_so : (ended : InspectStatus) → IsEnd ended → Ends ended → IsFinished ended → Ends result
  ended_so = by_end (λ e. Ends e → IsFinished e → Ends result) (λ ends. finished_as Ends statuses.Done ends (λ failed. ends))
      (λ ends. finished_as Ends statuses.Read ends (λ failed. ends)) (λ ends. finished_as Ends statuses.Cut ends (λ failed. ends))

  completed : (ended : InspectStatus) → IsEnd ended → IsFaultless this → (ended ≡ statuses.Read → ReadFailed frames) → Ends ended
      → LosesNothing frames → IsFinished ended → IsDone result
  completed = by_end
      (λ e. IsFaultless this → (e ≡ statuses.Read → ReadFailed frames) → Ends e → LosesNothing frames → IsFinished e → IsDone result)
      (λ clear cause ends kept. finished_as IsDone statuses.Done (inl refl) (λ failed. absurd (clear.sink_steady failed)))
      (λ clear cause ends kept finished. absurd (clear.source_steady (cause refl)))
      (λ clear cause ends kept finished. let over = ap is_over (sym kept) ∙ ends.source_over in let within = clear.within in absurd cc)

  pub finished_run : (count : ℕ) (ended : InspectStatus) (text : List ℕ) → workers ≡ Some count → IsEnd ended
      → (ended ≡ statuses.Read → ReadFailed frames) → (IsTrue st → Ends ended) → (IsTrue st → LosesNothing frames)
      → IsFinished ended → (IsTrue st → text ≡ inspected lines)
      → (IsTrue kt → HasText text output) → (result ≡ statuses.Done → IsTrue kt → output.now.written ≡ text) → IsRun this
  finished_run count ended text asked is cause ends kept finished same written done = record {
    headline = λ shows told. record {
      ended = ended_so ended is (ends told) finished;
      cut = cut_exact result lines frames.now.taken frames.now.left shows (ended_so ended is (ends told) finished);
      written = λ writes. subst (λ t. HasText t output) (same told) (written writes);
      whole = λ writes all. done all writes ∙ same told
          ∙ ap inspected (all_given result frames.now.taken frames.now.left _ lines all
          (ended_so ended is (ends told) finished) (kept told));
    };
    caused = caused ended is cause ends finished;
    refused = λ none. absurd cc;
    complete = λ told clear. completed ended is clear cause (ends told) (kept told) finished;
    no_loss = kept;
    silent = λ no. let yes = shown ended is finished in absurd cc;
  }
