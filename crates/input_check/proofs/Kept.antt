-- Faulty lines that are gathered, a line after another.
use Rattle.std.proofs.Common.{◌≡◌, ℕ, ◌+◌, ◌<◌, ◌≤◌, List, [], ◌∷◌, ◌++◌, length, take, Result, sym, ap, ◌∙◌, append_assoc, arith, subst, length-append, min}
use Rattle.std.proofs.lemmas.List.{append-nil, length-take, take_all, take-append-le}
use Rattle.meter_address.specs.declared.address.Address.{Address}
use Rattle.line_reader.specs.Grammar.{line_of}
use Rattle.line_reader.specs.Reader.{IsAtEnd}
use Rattle.line_reader.specs.declared.line.Line.{Line}
use Rattle.line_reader.specs.declared.line.BadLine.{BadLine}
use Rattle.input_check.specs.declared.faulty.FaultyLine.{FaultyLine}
use Rattle.input_check.specs.declared.faulty.FaultyLines.{FaultyLines}
use Rattle.input_check.specs.Faulty.{numbered, looked_at, faulty_from, faulty_lines, heard_of, heard_in}
use Rattle.input_check.specs.Finding.{Holds, IsFound, AreAllFound}

-- one more line
faulty_more : (n : ℕ) (texts : List (List ℕ)) (text : List ℕ) (line : ℕ) → line ≡ n + length texts
    → faulty_from n (texts ++ text ∷ []) ≡ faulty_from n texts ++ numbered line (looked_at (line_of text))
faulty_more n [] text line is = let same : n ≡ line = omega arith in rw same (append-nil (numbered line (looked_at (line_of text))))
faulty_more n (other ∷ texts) text line is =
    ap (λ others. numbered n (looked_at (line_of other)) ++ others) (faulty_more (n + 1) texts text line (omega arith))
    ∙ sym (append_assoc (numbered n (looked_at (line_of other))) (faulty_from (n + 1) texts) (numbered line (looked_at (line_of text))))

heard_more : (texts : List (List ℕ)) (text : List ℕ) → heard_in (texts ++ text ∷ []) ≡ heard_in texts ++ heard_of (looked_at (line_of text))
heard_more [] text = append-nil (heard_of (looked_at (line_of text)))
heard_more (other ∷ texts) text =
    ap (λ others. heard_of (looked_at (line_of other)) ++ others) (heard_more texts text)
    ∙ sym (append_assoc (heard_of (looked_at (line_of other))) (heard_in texts) (heard_of (looked_at (line_of text))))

-- a line was looked at
pub found_more : (before after : List (List ℕ)) (text : List ℕ) (said : Result Line BadLine) (n line : ℕ) (old new : FaultyLines)
    → after ≡ before ++ text ∷ [] → line_of text ≡ said → line ≡ n + 1
    → ((faults : List FaultyLine) (addresses : List Address) → Holds faults addresses old
    → Holds (faults ++ numbered line (looked_at said)) (addresses ++ heard_of (looked_at said)) new)
    → IsFound before n old → IsFound after line new
found_more before after text said n line old new more says next holds found = record {
  numbered = ap length more ∙ length-append before (text ∷ []) ∙ ap (λ k. k + 1) found.numbered ∙ sym next;
  holds =
      let is : line ≡ 1 + length before = next ∙ ap (λ k. k + 1) (sym found.numbered) ∙ omega arith in
      let faults =
      ap faulty_lines more ∙ faulty_more 1 before text line is ∙ ap (λ s. faulty_lines before ++ numbered line (looked_at s)) says in
      let addresses = ap heard_in more ∙ heard_more before text ∙ ap (λ s. heard_in before ++ heard_of (looked_at s)) says in
      rw (faults, addresses) (holds (faulty_lines before) (heard_in before) found.holds);
}

-- all lines were looked at
pub all_found : (taken left : List ℕ) (lines last : List (List ℕ)) (n : ℕ) (found : FaultyLines) → lines ≡ last → IsAtEnd taken left lines
    → IsFound last n found → AreAllFound taken left found
all_found taken left lines last n found same at_end is = record {
  nothing_left = at_end.nothing_left;
  within = at_end.within;
  holds = subst (λ ls. Holds (faulty_lines ls) (heard_in ls) found) (sym same ∙ at_end.all) is.holds;
}

-- ---- the lines that are held

pub held_room : (faults : List FaultyLine) (addresses : List Address) (x : FaultyLine) (old new : FaultyLines)
    → length old.first.items < 100
    → new.first.items ≡ old.first.items ++ x ∷ [] → new.count ≡ old.count + 1 → new.heard.items ≡ old.heard.items
    → Holds faults addresses old → Holds (faults ++ x ∷ []) (addresses ++ []) new
held_room faults addresses x old new room more counted others holds =
    let taken : length old.first.items ≡ min 100 (length faults) = ap length holds.first ∙ length-take 100 faults in
    let few : length faults < 100 = omega (arith, room, taken) in
    let all : take 100 faults ≡ faults = take_all 100 faults (omega arith) in
    let len : length (faults ++ x ∷ []) ≡ length faults + 1 = length-append faults (x ∷ []) in record {
      first = more ∙ ap (λ fs. fs ++ x ∷ []) (holds.first ∙ all) ∙ sym (take_all 100 (faults ++ x ∷ []) (omega arith));
      count = counted ∙ ap (λ n. n + 1) holds.count ∙ sym len;
      heard = others ∙ holds.heard ∙ sym (append-nil addresses);
    }

pub held_full : (faults : List FaultyLine) (addresses : List Address) (x : FaultyLine) (old new : FaultyLines)
    → 100 ≤ length old.first.items
    → new.first.items ≡ old.first.items → new.count ≡ old.count + 1 → new.heard.items ≡ old.heard.items
    → Holds faults addresses old → Holds (faults ++ x ∷ []) (addresses ++ []) new
held_full faults addresses x old new full same counted others holds =
    let taken : length old.first.items ≡ min 100 (length faults) = ap length holds.first ∙ length-take 100 faults in
    let many : 100 ≤ length faults = omega (arith, full, taken) in record {
      first = same ∙ holds.first ∙ sym (take-append-le 100 faults (x ∷ []) many);
      count = counted ∙ ap (λ n. n + 1) holds.count ∙ sym (length-append faults (x ∷ []));
      heard = others ∙ holds.heard ∙ sym (append-nil addresses);
    }
