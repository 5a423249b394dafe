-- The bytes of a line while its end is sought.
use Rattle.std.proofs.Common.{◌≡◌, ℕ, ◌<◌, ◌≤◌, ◌+◌, ◌-◌, List, [], ◌∷◌, ◌++◌, length, take, drop, refl, ap, sym, subst, ◌∙◌, arith, append_assoc}
use Rattle.std.proofs.lemmas.List.{append-nil, nil_from_length, take-append-drop, take-append-le, drop-append-le, drop-drop, take_all, length-take, length-drop, length-append}
use lib.Seq.{take-append-add}
use Rattle.outer_io.specs.Bytes.{Moves}
use Rattle.line_reader.specs.Newlines.{newlines}
use Rattle.line_reader.specs.Reading.{BeginsWithLine}
use Rattle.line_reader.specs.Search.{IsRestOfLine, IsEndAt, Searches}
use Rattle.line_reader.specs.declared.search.Ending.{Ending}
use Rattle.line_reader.specs.declared.search.Ending.TheVariants.{Line, Source, Limit, Fault}
use Rattle.line_reader.proofs.NewlineLemmas.{newlines-both, newlines-take, newlines-drop, line_behind}

-- what is held of a line, none of whose bytes given up is a newline
pub record IsSearched (longest : ℕ) (line held : List ℕ) (given_up : ℕ) : Type 0 where
  pub rest : IsRestOfLine longest line held given_up
  pub none : newlines (take given_up line) ≡ 0

line_is : {longest : ℕ} {line held : List ℕ} {given_up : ℕ} → IsRestOfLine longest line held given_up → line ≡ take given_up line ++ held
line_is {line} {given_up} part = sym (take-append-drop given_up line) ∙ ap (λ x. take given_up line ++ x) (sym part.rest)

first_len : {longest : ℕ} {line held : List ℕ} {given_up : ℕ} → IsRestOfLine longest line held given_up
    → length (take given_up line) ≡ given_up
first_len part = let within = part.within in simp length-take (omega arith)

length-line : {longest : ℕ} {line held : List ℕ} {given_up : ℕ} → IsRestOfLine longest line held given_up
    → length line ≡ given_up + length held
length-line {line} {given_up} part =
    let within = part.within in
    let rest = ap length part.rest ∙ length-drop given_up line in
    omega arith

pub line_within : {bytes : List ℕ} {count : ℕ} → BeginsWithLine bytes count → (0 < count) × (count ≤ length bytes)
line_within found =
    let long = found.long in
    let whole = ap length found.cut ∙ length-append found.front (10 ∷ found.rest) in
    (omega arith, omega arith)

pub found_line : {longest : ℕ} {line held : List ℕ} {given_up count : ℕ} → IsSearched longest line held given_up → BeginsWithLine held count
    → BeginsWithLine line (given_up + count)
found_line {line} {held} {given_up} {count} state found =
    subst (λ l. BeginsWithLine l (given_up + count)) (sym (line_is state.rest))
    (subst (λ n. BeginsWithLine (take given_up line ++ held) (n + count)) (first_len state.rest)
    (line_behind (take given_up line) held count state.none found))

-- no newline among the first bytes of the line that count
none_within : {longest : ℕ} {line held : List ℕ} {given_up most : ℕ} → IsSearched longest line held given_up → given_up ≤ most
    → newlines (take (most - given_up) held) ≡ 0 → newlines (take most line) ≡ 0
none_within {line} {held} {given_up} {most} state within none =
    let first = first_len state.rest in
    let parts : most ≡ length (take given_up line) + (most - given_up) = omega arith in
    ap (λ x. newlines (take most x)) (line_is state.rest)
    ∙ ap (λ n. newlines (take n (take given_up line ++ held))) parts
    ∙ ap newlines (take-append-add (take given_up line) held (most - given_up))
    ∙ newlines-both (take given_up line) (take (most - given_up) held) state.none none

pub past_limit : {longest : ℕ} {line held : List ℕ} {given_up most : ℕ} → IsSearched longest line held given_up → given_up ≤ most
    → newlines (take (most - given_up) held) ≡ 0 → most - given_up < length held → (most < length line) × (newlines (take most line) ≡ 0)
past_limit state within none long = (let whole = length-line state.rest in omega arith, none_within state within none)

-- a read puts the same bytes behind the line and behind what is held of it
pub held_more : (held held' : List ℕ) → take (length held) held' ≡ held → held' ≡ held ++ drop (length held) held'
held_more held held' kept = sym (take-append-drop (length held) held') ∙ ap (λ x. x ++ drop (length held) held') kept

-- two reads, one after the other
moves_more : {a b taken₀ left₀ taken left taken' left' : List ℕ} → Moves a taken₀ left₀ taken left → Moves b taken left taken' left'
    → Moves (a ++ b) taken₀ left₀ taken' left'
moves_more {a} {b} {taken₀} {left'} one two = record {
  front = one.front ∙ ap (λ x. a ++ x) two.front ∙ sym (append_assoc a b left');
  back = two.back ∙ ap (λ x. x ++ b) one.back ∙ append_assoc taken₀ a b;
}

-- the second of nothing
moves_no_more : {a b taken₀ left₀ taken left taken' left' : List ℕ} → Moves a taken₀ left₀ taken left → Moves b taken left taken' left'
    → b ≡ [] → Moves a taken₀ left₀ taken' left'
moves_no_more {a} {taken₀} {left₀} {taken'} {left'} one two none =
    subst (λ x. Moves x taken₀ left₀ taken' left') (ap (λ x. a ++ x) none ∙ append-nil a) (moves_more one two)

-- what was read since the search began, and the line so far
pub record IsReading (longest : ℕ) (held₀ taken₀ left₀ taken left held : List ℕ) (given_up : ℕ) : Type 0 where
  pub added : List ℕ
  pub moves : Moves added taken₀ left₀ taken left
  pub line : IsSearched longest (held₀ ++ added) held given_up

pub begin : (longest : ℕ) (held taken left : List ℕ) → IsReading longest held taken left taken left held 0
begin longest held taken left = record {
  added = [];
  moves = record { front = refl; back = sym (append-nil taken) };
  line = record { rest = record { within = omega arith; rest = sym (append-nil held); long = λ some. absurd (omega arith) }; none = refl };
}

-- the line before a read: no newline was found, and what made it too long is given up
pub ready : {longest : ℕ} {line held held' : List ℕ} {given_up count most : ℕ} → IsSearched longest line held given_up → given_up ≤ most
    → newlines (take (most - given_up) held) ≡ 0 → length held ≤ most - given_up → held' ≡ drop count held → count ≤ length held
    → (0 < count → longest + 1 < count)
    → (newlines line ≡ 0) × (length line ≤ most) × IsRestOfLine longest line held' (given_up + count)
ready {line} {given_up} {count} {most} state within none short is few long =
    let whole = length-line state.rest in
    let longer = state.rest.long in (
      ap newlines (sym (take_all most line (omega arith))) ∙ none_within state within none,
      omega arith,
      record {
        within = omega arith;
        rest = is ∙ ap (drop count) state.rest.rest ∙ drop-drop count given_up line;
        long = λ some. grind (arith, longer, long);
      },
    )

-- the state after a read
pub read_on : {longest : ℕ} {held₀ taken₀ left₀ taken left held rest bytes held' taken' left' : List ℕ} {given_up given_up' : ℕ}
    (state : IsReading longest held₀ taken₀ left₀ taken left held given_up)
    → newlines (held₀ ++ state.added) ≡ 0 → IsRestOfLine longest (held₀ ++ state.added) rest given_up' → held' ≡ rest ++ bytes
    → Moves bytes taken left taken' left'
    → IsReading longest held₀ taken₀ left₀ taken' left' held' given_up'
read_on {held₀} {bytes} {given_up'} state none part held_is moves =
    let line : List ℕ = held₀ ++ state.added in
    record {
      added = state.added ++ bytes;
      moves = moves_more state.moves moves;
      line = rw (← append_assoc held₀ state.added bytes, held_is) (record {
        rest = record {
          within = omega (arith, part.within, length-append line bytes);
          rest = ap (λ x. x ++ bytes) part.rest ∙ sym (drop-append-le given_up' line bytes part.within);
          long = part.long;
        };
        none = ap newlines (take-append-le given_up' line bytes part.within) ∙ newlines-take given_up' line none;
      });
    }

-- nothing came
pub nothing_came : (held bytes : List ℕ) {held' left left' : List ℕ} → held' ≡ held ++ bytes → length held' ≡ length held → left ≡ bytes ++ left'
    → left ≡ [] → (bytes ≡ []) × (left' ≡ [])
nothing_came held bytes {left'} held_is same front none_left =
    let longer = ap length held_is ∙ length-append held bytes in
    let nothing : bytes ≡ [] = nil_from_length bytes (omega arith) in
    (nothing, sym (ap (λ x. x ++ left') nothing) ∙ sym front ∙ none_left)

-- what was held before a read has no newline
pub alone_after : (held held' held'' : List ℕ) (count most : ℕ) {n : ℕ} → newlines (take most held) ≡ 0 → length held ≤ most
    → held' ≡ drop count held → take (length held') held'' ≡ held' → n ≡ length held' → newlines (take n held'') ≡ 0
alone_after held held' held'' count most none short is kept same =
    ap (λ m. newlines (take m held'')) same ∙ ap newlines (kept ∙ is)
    ∙ newlines-drop count held (ap newlines (sym (take_all most held short)) ∙ none)

-- what a search found at the end, and at a fault
pub ends : {longest most : ℕ} (ending : Ending) {held₀ taken₀ left₀ taken left held held' taken' left' bytes : List ℕ}
    {given_up given_up' : ℕ} (state : IsReading longest held₀ taken₀ left₀ taken left held given_up)
    → newlines (held₀ ++ state.added) ≡ 0 → IsRestOfLine longest (held₀ ++ state.added) held' given_up' → bytes ≡ [] → left' ≡ []
    → Moves bytes taken left taken' left'
    → IsEndAt given_up' (length held') ending → Searches ending longest most held₀ held' taken₀ left₀ taken' left'
ends (Line up rest last) state none part nothing none_left moves is =
    rw (is.0, is.1, is.2) (record {
      added = state.added;
      moves = moves_no_more state.moves moves nothing;
      finds = (part, record { alone = none; nothing_left = none_left; long = sym (length-line part); some = is.3 });
    })
ends Source {held₀} state none part nothing none_left moves is = record {
  added = state.added;
  moves = moves_no_more state.moves moves nothing;
  finds = (nil_from_length (held₀ ++ state.added) (length-line part ∙ is), none_left);
}
ends Limit state none part nothing none_left moves is = absurd is
ends Fault state none part nothing none_left moves is = absurd is

pub faults : {longest most : ℕ} {held₀ taken₀ left₀ taken left held held' taken' left' : List ℕ} {given_up : ℕ}
    (state : IsReading longest held₀ taken₀ left₀ taken left held given_up)
    → newlines (held₀ ++ state.added) ≡ 0 → length (held₀ ++ state.added) ≤ most → Moves [] taken left taken' left'
    → Searches Fault longest most held₀ held' taken₀ left₀ taken' left'
faults state none few moves =
    record { added = state.added; moves = moves_no_more state.moves moves refl; finds = (none, few) }
