-- What an input's reader gives, as the lines that are left.
use Rattle.std.proofs.Common.{ℕ, ◌≡◌, ◌+◌, ◌<◌, ◌≤◌, true, false, cond, List, [], ◌∷◌, ◌++◌, length, take, drop, map, Some, None, Ok, arith, sym, ap, subst, ◌∙◌, append_assoc}
use Rattle.std.specs.Prelude.{not, IsTrue}
use Rattle.std.proofs.lemmas.List.{append-nil, drop_all, length_push, take-append-drop}
use Rattle.std.proofs.Math.Seq.{drop-append_seam}
use Rattle.outer_io.specs.declared.sources.Source as sources
use Rattle.line_reader.specs.declared.next.NextText.{NextText}
use Rattle.line_reader.specs.declared.next.NextText.TheVariants as texts
use Rattle.line_reader.specs.Lines.{is_over, all_lines}
use Rattle.line_reader.specs.Reader.{TextReading, GivesText, GivesLongLine, IsAtEnd, IsPastLimit, given, gives_text}
use Rattle.line_merge.specs.Least.{carried}
use Rattle.line_merge.specs.Merging.{Timed, timed}
use Rattle.line_merge.specs.Inputs.{heard, moment_in, lines_behind}
use Rattle.line_merge.specs.Readers.{IsReading, HasGiven}
use Rattle.line_merge.specs.Run.{HasLongLine, bytes_of}

-- ---- lists

-- behind the first so many stands this one
next_of_all : {X : Type 0} (all front : List X) (x : X) (n m : ℕ) → m ≡ n + 1 → length front ≡ n → take m all ≡ front ++ x ∷ []
    → drop n all ≡ x ∷ drop m all
next_of_all all front x n m e long is =
    let whole : all ≡ front ++ x ∷ drop m all =
    sym (take-append-drop m all) ∙ ap (λ t. t ++ drop m all) is ∙ append_assoc front (x ∷ []) (drop m all) in
    subst (λ k. drop k all ≡ x ∷ drop m all) long (ap (drop (length front)) whole ∙ drop-append_seam front (x ∷ drop m all))

-- ---- lines

behind_none : (before : ℕ) (texts : List (List ℕ)) → texts ≡ [] → lines_behind before texts ≡ []
unfolding timed
behind_none before texts e = ap (λ t. timed before (map heard t)) e

behind_some : (before at : ℕ) (texts later : List (List ℕ)) (text : List ℕ) → texts ≡ text ∷ later → at ≡ carried before (moment_in text)
    → record { at = at; bytes = text } ∷ lines_behind at later ≡ lines_behind before texts
unfolding timed
behind_some before at texts later text e is =
    let made : ℕ → List Timed = λ a. record { at = a; bytes = text } ∷ lines_behind a later in
    ap made is ∙ sym (ap (λ t. timed before (map heard t)) e)

module _ {S : Type 0} (s : sources.Ghosts S) (next : NextText) (old new : TextReading S) (reading : IsReading s old)
    (lines : IsTrue s.tells → GivesText (Ok next) old.longest new.text (given s.taken old.reader) (given s.taken new.reader))
    (longest : new.longest ≡ old.longest)
    (number : new.reader.line ≡ old.reader.line + cond (gives_text (Ok next)) 1 0)
    (few : new.reader.line ≤ 131072)
    (done : new.reader.done ≡ not (gives_text (Ok next)))
    (pieces : IsTrue s.tells → given s.taken new.reader ≡ take new.reader.line (all_lines (bytes_of s new)))
    (bytes : IsTrue s.tells → bytes_of s new ≡ bytes_of s old) where
  -- the input gave a line
  pub gave_line : (before at : ℕ) → next ≡ texts.Line → at ≡ carried before (moment_in new.text) → HasGiven s before old new (Some at)
  gave_line before at is at_is =
      let one : new.reader.line ≡ old.reader.line + 1 = number ∙ ap (λ n. old.reader.line + cond (gives_text (Ok n)) 1 0) is in
      let more : IsTrue s.tells → given s.taken new.reader ≡ given s.taken old.reader ++ new.text ∷ [] = λ tells.
      subst (λ n. GivesText (Ok n) old.longest new.text (given s.taken old.reader) (given s.taken new.reader)) is (lines tells) in
      record {
        at_head = record {
          lends = λ some. record {
            longest = longest ∙ reading.longest;
            goes_on = done ∙ ap (λ n. not (gives_text (Ok n))) is;
            counted = λ tells. ap length (more tells) ∙ length_push (given s.taken old.reader) new.text
                ∙ ap (λ n. n + 1) (reading.counted tells)
                ∙ sym one;
          };
          within = λ none. absurd cc;
        };
        rest = λ tells.
            let whole : take new.reader.line (all_lines (bytes_of s new)) ≡ given s.taken old.reader ++ new.text ∷ [] =
            sym (pieces tells) ∙ more tells in
            let here : drop old.reader.line (all_lines (bytes_of s new)) ≡ new.text ∷ drop new.reader.line (all_lines (bytes_of s new)) =
            next_of_all (all_lines (bytes_of s new)) (given s.taken old.reader) new.text old.reader.line new.reader.line one
            (reading.counted tells) whole in
            behind_some before at (drop old.reader.line (all_lines (bytes_of s new))) (drop new.reader.line (all_lines (bytes_of s new)))
            new.text here at_is
            ∙ ap (λ b. lines_behind before (drop old.reader.line (all_lines b))) (bytes tells);
        fewer = omega (arith, one, few);
      }

  -- the input is at its end
  module _ (before : ℕ) (is : next ≡ texts.End)
      (end : IsTrue s.tells → IsAtEnd (s.taken new.reader.source) (s.left new.reader.source) (given s.taken new.reader)) where
    taken_all : IsTrue s.tells → bytes_of s new ≡ s.taken new.reader.source
    taken_all tells = ap (λ l. s.taken new.reader.source ++ l) (end tells).nothing_left ∙ append-nil (s.taken new.reader.source)

    nothing : IsTrue s.tells → drop old.reader.line (all_lines (bytes_of s old)) ≡ []
    nothing tells =
        let same : given s.taken new.reader ≡ given s.taken old.reader =
        subst (λ n. GivesText (Ok n) old.longest new.text (given s.taken old.reader) (given s.taken new.reader)) is (lines tells) in
        let all : all_lines (bytes_of s old) ≡ given s.taken old.reader =
        ap all_lines (sym (bytes tells) ∙ taken_all tells) ∙ sym (end tells).all ∙ same in
        drop_all old.reader.line (all_lines (bytes_of s old)) (omega (arith, ap length all, reading.counted tells))

    pub gave_none : HasGiven s before old new None
    gave_none =
        let none : new.reader.line ≡ old.reader.line + 0 = number ∙ ap (λ n. old.reader.line + cond (gives_text (Ok n)) 1 0) is in
        record {
          at_head = record { lends = λ some. absurd (let clash : false ≡ true = some in cc); within = λ no_head tells. ap is_over (taken_all tells) ∙ (end tells).within };
          rest = λ tells. sym (behind_none before (drop old.reader.line (all_lines (bytes_of s old))) (nothing tells));
          fewer = omega (arith, few, none);
        }

  -- the input's next line is too long
  pub gave_long : next ≡ texts.TooLong → IsTrue s.tells → HasLongLine (bytes_of s old)
  gave_long is tells =
      let long : GivesLongLine old.longest (given s.taken old.reader) (given s.taken new.reader) =
      subst (λ n. GivesText (Ok n) old.longest new.text (given s.taken old.reader) (given s.taken new.reader)) is (lines tells) in
      let all = all_lines (bytes_of s new) in
      let front : take new.reader.line all ≡ given s.taken old.reader ++ long.line ∷ [] = sym (pieces tells) ∙ long.more in
      subst HasLongLine (bytes tells) (record {
        before = given s.taken old.reader;
        line = long.line;
        behind = drop new.reader.line all;
        lines_are = sym (take-append-drop new.reader.line all) ∙ ap (λ t. t ++ drop new.reader.line all) front
            ∙ append_assoc (given s.taken old.reader) (long.line ∷ []) (drop new.reader.line all);
        long = subst (λ n. n < length long.line) reading.longest long.long;
      })

  -- the input goes past a limit
  pub gave_over : (IsTrue s.tells → IsPastLimit (s.taken new.reader.source) (s.left new.reader.source) (given s.taken new.reader))
      → IsTrue s.tells → is_over (bytes_of s old) ≡ true
  gave_over past tells = ap is_over (sym (bytes tells)) ∙ (past tells).source_over
