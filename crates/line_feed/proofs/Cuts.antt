-- Bytes that are finished lines and the open one behind them.
use Rattle.std.proofs.Common.{◌≡◌, ℕ, ◌+◌, ◌<◌, ◌≤◌, Bool, true, false, List, [], ◌∷◌, ◌++◌, length, take, drop, Some, refl, sym, ap, ◌∙◌, subst, append_assoc, arith}
use Rattle.std.specs.Prelude.{position}
use Rattle.std.specs.Str.Lines.{lines, strip_carriage_return}
use Rattle.std.proofs.lemmas.List.{append-nil, length-append, length-take-le, length_push, take-append-drop, take_at}
use Rattle.std.proofs.lemmas.List.Sums.{count_by-le-length}
use Rattle.std.proofs.Math.Seq.{take-append_seam, take-append-add}
use Rattle.line_reader.specs.Keeps.{IsFinished}
use Rattle.line_reader.specs.Lines.{ended_lines}
use Rattle.line_reader.specs.Newlines.{newlines}
use Rattle.line_reader.proofs.LinesLemmas.{ended_alone, ended_behind, lines_more, lines_alone, finished_more}
use Rattle.line_reader.proofs.NewlineLemmas.{is_newline, newlines-append, newlines-both, first_place}
use Rattle.line_teller.specs.Ending.{AreFirst}
use Rattle.line_feed.specs.Opened.{Open, Keeps, StandsAt}
use Rattle.line_feed.specs.Pieces.{IsPlace}

-- ---- first ones of a list

pub first_by : (xs rest all : List (List ℕ)) → all ≡ xs ++ rest → AreFirst xs all
first_by xs rest all is = record { count = length xs; first = sym (ap (take (length xs)) is ∙ take-append_seam xs rest) }

pub first_rest : (xs all : List (List ℕ)) (f : AreFirst xs all) → all ≡ xs ++ drop f.count all
first_rest xs all f = sym (take-append-drop f.count all) ∙ ap (λ t. t ++ drop f.count all) (sym f.first)

-- behind the same front
pub first_behind : (front xs all : List (List ℕ)) → AreFirst xs all → AreFirst (front ++ xs) (front ++ all)
first_behind front xs all f =
    first_by (front ++ xs) (drop f.count all) (front ++ all)
    (ap (λ t. front ++ t) (first_rest xs all f) ∙ sym (append_assoc front xs (drop f.count all)))

-- of more
pub first_more : (xs all more : List (List ℕ)) → AreFirst xs all → AreFirst xs (all ++ more)
first_more xs all more f =
    first_by xs (drop f.count all ++ more) (all ++ more)
    (ap (λ t. t ++ more) (first_rest xs all f) ∙ append_assoc xs (drop f.count all) more)

-- ---- lines with their newlines

pub ended_is : (bytes front line : List ℕ) → bytes ≡ front ++ line → IsFinished front → newlines line ≡ 0 → ended_lines bytes ≡ lines front
ended_is bytes front line cut whole none =
    ap ended_lines cut ∙ ended_alone front line whole none

-- the lines that have their newline are the first ones
pub ended_first : (told : List (List ℕ)) (bytes : List ℕ) → AreFirst told (ended_lines bytes) → AreFirst told (lines bytes)
ended_first told bytes f =
    subst (AreFirst told) (take-append-drop (newlines bytes) (lines bytes))
    (first_more told (ended_lines bytes) (drop (newlines bytes) (lines bytes)) f)

-- ---- where a stream stands

pub ended_at : (bytes : List ℕ) (begun : Open) (s : StandsAt bytes begun) → ended_lines bytes ≡ lines s.front
ended_at bytes begun s = ended_is bytes s.front s.line s.cut s.whole s.alone

pub lines_at : (bytes : List ℕ) (begun : Open) (s : StandsAt bytes begun) → lines bytes ≡ ended_lines bytes ++ lines s.line
lines_at bytes begun s = ap lines s.cut ∙ s.whole.follow s.line ∙ ap (λ t. t ++ lines s.line) (sym (ended_at bytes begun s))

pub count_at : (bytes : List ℕ) (begun : Open) → StandsAt bytes begun → length (ended_lines bytes) ≡ begun.finished
count_at bytes begun s = ap length (ended_at bytes begun s) ∙ s.counted

-- each finished line has a byte
pub few_at : (bytes : List ℕ) (begun : Open) → StandsAt bytes begun → begun.finished ≤ length bytes
few_at bytes begun s =
    let few : newlines s.front ≤ length s.front = count_by-le-length is_newline s.front in
    let all : length bytes ≡ length s.front + length s.line = ap length s.cut ∙ length-append s.front s.line in
    omega (arith, few, all, s.whole.counted, s.counted)

-- before the first byte
pub fresh_at : (begun : Open) → begun.finished ≡ 0 → Keeps begun [] → StandsAt [] begun
fresh_at begun none keeps = record {
  front = [];
  line = [];
  cut = refl;
  whole = record { follow = λ rest. refl; counted = refl };
  counted = sym none;
  alone = refl;
  keeps = keeps;
}

-- bytes that finish no line
pub added_at : (bytes piece : List ℕ) (old new : Open) (s : StandsAt bytes old) → newlines piece ≡ 0 → new.finished ≡ old.finished
    → Keeps new (s.line ++ piece) → StandsAt (bytes ++ piece) new
added_at bytes piece old new s none same keeps = record {
  front = s.front;
  line = s.line ++ piece;
  cut = ap (λ t. t ++ piece) s.cut ∙ append_assoc s.front s.line piece;
  whole = s.whole;
  counted = s.counted ∙ sym same;
  alone = newlines-both s.line piece s.alone none;
  keeps = keeps;
}

pub added_ended : (bytes piece : List ℕ) (old : Open) → StandsAt bytes old → newlines piece ≡ 0 → ended_lines (bytes ++ piece) ≡ ended_lines bytes
added_ended bytes piece old s none =
    ended_is (bytes ++ piece) s.front (s.line ++ piece) (ap (λ t. t ++ piece) s.cut ∙ append_assoc s.front s.line piece) s.whole
    (newlines-both s.line piece s.alone none)
    ∙ sym (ended_at bytes old s)

-- ---- bytes that finish the open line

pub after_cut : (bytes front line piece rest : List ℕ) → bytes ≡ front ++ line
    → bytes ++ (piece ++ 10 ∷ rest) ≡ (front ++ ((line ++ piece) ++ 10 ∷ [])) ++ rest
after_cut bytes front line piece rest cut =
    ap (λ t. t ++ (piece ++ 10 ∷ rest)) cut
    ∙ append_assoc front line (piece ++ 10 ∷ rest)
    ∙ ap (λ t. front ++ t) (sym (append_assoc line piece (10 ∷ rest)) ∙ sym (append_assoc (line ++ piece) (10 ∷ []) rest))
    ∙ sym (append_assoc front ((line ++ piece) ++ 10 ∷ []) rest)

-- the lines that have their newline then
pub ended_after : (bytes piece rest : List ℕ) (old : Open) (s : StandsAt bytes old) → newlines piece ≡ 0
    → ended_lines (bytes ++ (piece ++ 10 ∷ rest)) ≡ (ended_lines bytes ++ strip_carriage_return (s.line ++ piece) ∷ []) ++ ended_lines rest
ended_after bytes piece rest old s none =
    let all : newlines (s.line ++ piece) ≡ 0 = newlines-both s.line piece s.alone none in
    ap ended_lines (after_cut bytes s.front s.line piece rest s.cut)
    ∙ ended_behind (s.front ++ ((s.line ++ piece) ++ 10 ∷ [])) rest (finished_more s.front (s.line ++ piece) s.whole all)
    ∙ ap (λ t. t ++ ended_lines rest) (lines_more s.front (s.line ++ piece) s.whole all
    ∙ ap (λ t. t ++ strip_carriage_return (s.line ++ piece) ∷ []) (sym (ended_at bytes old s)))

pub finished_at : (bytes piece : List ℕ) (old new : Open) (number longest : ℕ) (s : StandsAt bytes old) → newlines piece ≡ 0
    → number ≡ old.finished + 1 → new ≡ record { kept = []; long = false; finished = number; longest = longest }
    → StandsAt (bytes ++ (piece ++ 10 ∷ [])) new
finished_at bytes piece old new number longest s none next is =
    let all : newlines (s.line ++ piece) ≡ 0 = newlines-both s.line piece s.alone none in
    let count : length (lines (s.front ++ ((s.line ++ piece) ++ 10 ∷ []))) ≡ number =
    ap length (lines_more s.front (s.line ++ piece) s.whole all)
    ∙ length_push (lines s.front) (strip_carriage_return (s.line ++ piece))
    ∙ omega (arith, s.counted, next) in
    subst (StandsAt (bytes ++ (piece ++ 10 ∷ []))) (sym is) (record {
      front = s.front ++ ((s.line ++ piece) ++ 10 ∷ []);
      line = [];
      cut = after_cut bytes s.front s.line piece [] s.cut;
      whole = finished_more s.front (s.line ++ piece) s.whole all;
      counted = count;
      alone = refl;
      keeps = (refl, omega arith);
    })

-- ---- the first newline of bytes

cut_at : (read front rest : List ℕ) (at place : ℕ) → at ≤ length read → drop at read ≡ front ++ 10 ∷ rest → newlines front ≡ 0
    → length front ≡ place → take place (drop at read) ≡ front → IsPlace read at place
cut_at read front rest at place within cut alone long piece_is =
    let whole : read ≡ take at read ++ (front ++ 10 ∷ rest) = sym (take-append-drop at read) ∙ ap (λ t. take at read ++ t) cut in
    let parts : read ≡ (take at read ++ (front ++ 10 ∷ [])) ++ rest =
    whole ∙ ap (λ t. take at read ++ t) (sym (append_assoc front (10 ∷ []) rest))
    ∙ sym (append_assoc (take at read) (front ++ 10 ∷ []) rest) in
    let first : length (take at read) ≡ at = length-take-le at read within in
    let second : length (front ++ 10 ∷ []) ≡ length front + 1 = length-append front (10 ∷ []) in
    let both : length (take at read ++ (front ++ 10 ∷ [])) ≡ at + (place + 1) =
    length-append (take at read) (front ++ 10 ∷ []) ∙ omega (arith, first, second, long) in
    let all : length read ≡ length (take at read ++ (front ++ 10 ∷ [])) + length rest =
    ap length parts ∙ length-append (take at read ++ (front ++ 10 ∷ [])) rest in
    record {
      rest = rest;
      alone = ap newlines piece_is ∙ alone;
      whole = whole ∙ ap (λ t. take at read ++ (t ++ 10 ∷ rest)) (sym piece_is);
      within = omega (arith, both, all);
      taken = ap (take (at + (place + 1))) parts
          ∙ take_at (take at read ++ (front ++ 10 ∷ [])) rest (at + (place + 1)) both
          ∙ ap (λ t. take at read ++ (t ++ 10 ∷ [])) (sym piece_is);
    }

-- what stands in front of it behind the first bytes
pub place_at : (read : List ℕ) (at place : ℕ) → at ≤ length read → position is_newline (drop at read) ≡ Some place → IsPlace read at place
place_at read at place within found =
    let line = first_place (drop at read) place found in
    let long : length line.front ≡ place = omega (arith, line.long) in
    cut_at read line.front line.rest at place within line.cut line.alone long
    (ap (take place) line.cut ∙ take_at line.front (10 ∷ line.rest) place long)
