-- The lines of bytes that are read page by page.
use Rattle.std.proofs.Common.{◌≡◌, ℕ, suc, ◌<◌, ◌≤◌, ◌+◌, ◌==◌, inl, inr, Bool, true, false, cond, List, [], ◌∷◌, ◌++◌, length, take, drop, get_or, Option, Some, None, refl, sym, ap, ◌∙◌, subst, append_assoc, arith, eqb-true, ⊎_elim, position, min}
use Rattle.std.specs.List.{slice_split, onto_first}
use Rattle.std.specs.Str.Lines.{lines, lines_of_parts, strip_carriage_return}
use Rattle.std.proofs.lemmas.Bool.{cases_lt, false_from_ne_true}
use Rattle.std.proofs.lemmas.List.{length-append, length-take, length-drop, take-append-drop, take-append-le, take-take, take_all, take_at, take_more, get_or-drop}
use Rattle.lists.specs.Each.{EachWith}
use Rattle.memchr.specs.Find.{is_byte, IsLastByte}
use Rattle.line_reader.specs.Keeps.{IsFinished}
use Rattle.line_reader.specs.Newlines.{newlines}
use Rattle.line_reader.proofs.LinesLemmas.{lines_front, lines_alone, no_head, finished_more, length-strip}
use Rattle.line_reader.proofs.NewlineLemmas.{is_newline, newlines-append, newlines-take, newlines-both, no_place, first_place}
use Rattle.reading_list.specs.Said.{said_of}
use Rattle.reading_list.specs.Pages.{IsEnded, EndsAt}
use Rattle.reading_list.proofs.Lines.{long_said}

-- ---- the last newline

none_at : (xs : List ℕ) → ((k : ℕ) → k < length xs → is_newline (get_or xs k 0) ≡ false) → newlines xs ≡ 0
none_at [] none = refl
none_at (x ∷ xs) none =
    newlines-both (x ∷ []) xs (ap (λ b. 0 + cond b 1 0) (none 0 (omega arith))) (none_at xs (λ k within. none (suc k) (omega arith)))

pub ends_nowhere : (bytes : List ℕ) → IsLastByte (is_byte 10) bytes None → EndsAt bytes 0
ends_nowhere bytes h = record {
  ended = inl refl;
  alone = none_at bytes (λ k within. false_from_ne_true _ (h k (omega arith) within));
}

pub ends_behind : (bytes : List ℕ) (place : ℕ) → IsLastByte (is_byte 10) bytes (Some place) → EndsAt bytes (place + 1)
ends_behind bytes place h =
    let within : place < length bytes = h.0.high in
    record {
      ended = inr (take place bytes, take_more bytes place 0 within ∙ ap (λ b. take place bytes ++ b ∷ []) (eqb-true _ _ h.1));
      alone = none_at (drop (place + 1) bytes) (λ k below.
          ap is_newline (get_or-drop (place + 1) bytes k 0)
          ∙ false_from_ne_true _ (h.0.after (place + 1 + k) (omega arith) (omega (arith, below, length-drop (place + 1) bytes))));
    }

-- ---- bytes whose last line ends with a newline

pub finished_none : IsFinished []
finished_none = record { follow = λ rest. refl; counted = refl }

pub finished_both : (a b : List ℕ) → IsFinished a → IsFinished b → IsFinished (a ++ b)
finished_both a b one two = record {
  follow = λ rest.
      ap lines (append_assoc a b rest) ∙ one.follow (b ++ rest) ∙ ap (λ x. lines a ++ x) (two.follow rest)
      ∙ sym (append_assoc (lines a) (lines b) (lines rest)) ∙ ap (λ x. x ++ lines rest) (sym (one.follow b));
  counted =
      let counts = newlines-append a b in
      let more = ap length (one.follow b) ∙ length-append (lines a) (lines b) in
      let before = one.counted in
      let behind = two.counted in
      omega arith;
}

finished_line : (front behind : List ℕ) → newlines front ≡ 0 → IsFinished (front ++ (behind ++ 10 ∷ []))
finished_line front [] none = finished_more [] front finished_none none
finished_line front (x ∷ xs) none =
    by_test (is_newline x) refl (finished_line [] xs refl) (λ alone. finished_line (front ++ x ∷ []) xs alone)
  where
    by_test : (b : Bool) → is_newline x ≡ b → IsFinished (xs ++ 10 ∷ [])
        → (newlines (front ++ x ∷ []) ≡ 0 → IsFinished ((front ++ x ∷ []) ++ (xs ++ 10 ∷ [])))
        → IsFinished (front ++ (x ∷ (xs ++ 10 ∷ [])))
    by_test true is later more =
        subst IsFinished (append_assoc front (10 ∷ []) (xs ++ 10 ∷ []) ∙ ap (λ b. front ++ b ∷ (xs ++ 10 ∷ [])) (sym (eqb-true _ _ is)))
        (finished_both (front ++ 10 ∷ []) (xs ++ 10 ∷ []) (finished_more [] front finished_none none) later)
    by_test false is later more =
        subst IsFinished (append_assoc front (x ∷ []) (xs ++ 10 ∷ []))
        (more (newlines-both front (x ∷ []) none (ap (λ b. 0 + cond b 1 0) is)))

-- where bytes without a newline begin bytes that end with one, the rest of these ends with it
pub record IsSeam (held added front rest : List ℕ) : Type 0 where
  pub more : List ℕ
  pub front_is : front ≡ held ++ more
  pub added_is : added ≡ (more ++ 10 ∷ []) ++ rest

seam : (held added front rest : List ℕ) → newlines held ≡ 0 → held ++ added ≡ (front ++ 10 ∷ []) ++ rest → IsSeam held added front rest
seam [] added front rest none e = record { more = front; front_is = refl; added_is = e }
seam (x ∷ held) added [] rest none e =
    let off = (no_head x held none).0 in
    let is : x ≡ 10 = cc in
    absurd (let on = ap is_newline is in cc)
seam (x ∷ held) added (y ∷ front) rest none e =
    let first : x ≡ y = cc in
    let others : held ++ added ≡ (front ++ 10 ∷ []) ++ rest = cc in
    let later = seam held added front rest (no_head x held none).1 others in
    record {
      more = later.more;
      front_is = ap (λ f. y ∷ f) later.front_is ∙ ap (λ h. h ∷ (held ++ later.more)) (sym first);
      added_is = later.added_is;
    }

-- ---- lines that say the same

abbrev pub Alike : List (List ℕ) → List (List ℕ) → Type 0
Alike xs ys = EachWith (λ x y. said_of x ≡ said_of y) xs ys

pub alike_self : (xs : List (List ℕ)) → Alike xs xs
alike_self [] = tt
alike_self (x ∷ xs) = (refl, alike_self xs)

same_alike : (xs ys : List (List ℕ)) → xs ≡ ys → Alike xs ys
same_alike xs ys is = subst (λ l. Alike xs l) is (alike_self xs)

-- a line of which enough is kept says what the whole line says
long_alike : (kept behind more : List ℕ) → kept ≡ take 8194 behind → newlines behind ≡ 0 → 8194 < length behind
    → Alike (lines (kept ++ more)) (lines (behind ++ more))
long_alike kept behind more is none long = by_place (position is_newline more) refl
  where
    kept_none : newlines kept ≡ 0
    kept_none = ap newlines is ∙ newlines-take 8194 behind none

    kept_len : length kept ≡ 8194
    kept_len = ap length is ∙ (let l = length-take 8194 behind in omega arith)

    both : (a b : List ℕ) → 8192 < length a → 8192 < length b → said_of a ≡ said_of b
    both a b one two = long_said a one ∙ sym (long_said b two)

    by_place : (place : Option ℕ) → position is_newline more ≡ place → Alike (lines (kept ++ more)) (lines (behind ++ more))
    by_place None found =
        let alone = no_place more found in
        let one = length-append kept more in
        let two = length-append behind more in
        let k = kept_len in
        rw (
          lines_alone (kept ++ more) (newlines-both kept more kept_none alone) (omega arith),
          lines_alone (behind ++ more) (newlines-both behind more none alone) (omega arith),
        )
        (both (kept ++ more) (behind ++ more) (omega arith) (omega arith), tt)
    by_place (Some i) found =
        let line = first_place more i found in
        let one = length-append kept line.front in
        let two = length-append behind line.front in
        let strip_one = length-strip (kept ++ line.front) in
        let strip_two = length-strip (behind ++ line.front) in
        let k = kept_len in
        let cut = λ (held : List ℕ) (held_none : newlines held ≡ 0).
        ap (λ m. lines (held ++ m)) line.cut ∙ ap lines (sym (append_assoc held line.front (10 ∷ line.rest)))
        ∙ lines_front (held ++ line.front) line.rest (newlines-both held line.front held_none line.alone) in
        rw (cut kept kept_none, cut behind none) (
          both (strip_carriage_return (kept ++ line.front)) (strip_carriage_return (behind ++ line.front)) (omega arith) (omega arith),
          alike_self (lines line.rest),
        )

pub kept_alike : (kept behind more : List ℕ) → kept ≡ take 8194 behind → newlines behind ≡ 0
    → Alike (lines (kept ++ more)) (lines (behind ++ more))
kept_alike kept behind more is none =
    ⊎_elim (λ long. long_alike kept behind more is none long)
    (λ short. same_alike _ _ (ap (λ k. lines (k ++ more)) (is ∙ take_all 8194 behind short)))
    (cases_lt 8194 (length behind))

-- ---- what was read, cut behind its last newline

-- the bytes behind the lines listed, and those that came: those of the lines that are at their ends, which the page has alike, and the others
pub record IsCut (behind added page rest : List ℕ) : Type 0 where
  pub front : List ℕ
  pub open_bytes : List ℕ
  pub all : behind ++ added ≡ front ++ open_bytes
  pub finished : IsFinished front
  pub alike : Alike (lines page) (lines front)
  pub alone : newlines open_bytes ≡ 0
  pub kept : take 8194 rest ≡ take 8194 open_bytes

newlines_parts : (a b : List ℕ) → newlines (a ++ b) ≡ 0 → newlines b ≡ 0
newlines_parts a b none = let parts = newlines-append a b in omega arith

take_of_kept : (behind added : List ℕ) → take 8194 (take 8194 behind ++ added) ≡ take 8194 (behind ++ added)
take_of_kept behind added = ⊎_elim long (λ short. ap (λ k. take 8194 (k ++ added)) (take_all 8194 behind short)) (cases_lt 8194 (length behind))
  where
    long : 8194 < length behind → take 8194 (take 8194 behind ++ added) ≡ take 8194 (behind ++ added)
    long above =
        let first : length (take 8194 behind) ≡ 8194 = let l = length-take 8194 behind in omega arith in
        take_at (take 8194 behind) added 8194 first ∙ sym (take-append-le 8194 behind added (omega arith))

pub cut_at : (kept behind added : List ℕ) (count : ℕ) → kept ≡ take 8194 behind → newlines behind ≡ 0 → EndsAt (kept ++ added) count
    → IsCut behind added (take count (kept ++ added)) (drop count (kept ++ added))
cut_at kept behind added count is none ends = by_end ends.ended
  where
    page : List ℕ
    page = take count (kept ++ added)

    rest : List ℕ
    rest = drop count (kept ++ added)

    whole : page ++ rest ≡ kept ++ added
    whole = take-append-drop count (kept ++ added)

    by_end : IsEnded page → IsCut behind added page rest
    by_end (inl empty) =
        let rest_is : rest ≡ kept ++ added = ap (λ p. p ++ rest) (sym empty) ∙ whole in
        let added_none : newlines added ≡ 0 = newlines_parts kept added (ap newlines (sym rest_is) ∙ ends.alone) in
        record {
          front = [];
          open_bytes = behind ++ added;
          all = refl;
          finished = finished_none;
          alike = same_alike _ _ (ap lines empty);
          alone = newlines-both behind added none added_none;
          kept = ap (take 8194) rest_is ∙ ap (λ k. take 8194 (k ++ added)) is ∙ take_of_kept behind added;
        }
    by_end (inr (front, ended)) =
        let kept_none : newlines kept ≡ 0 = ap newlines is ∙ newlines-take 8194 behind none in
        let at : IsSeam kept added front rest = seam kept added front rest kept_none (sym whole ∙ ap (λ p. p ++ rest) ended) in
        let page_is : page ≡ kept ++ (at.more ++ 10 ∷ []) =
        ended ∙ ap (λ f. f ++ 10 ∷ []) at.front_is ∙ append_assoc kept at.more (10 ∷ []) in
        record {
          front = behind ++ (at.more ++ 10 ∷ []);
          open_bytes = rest;
          all = ap (λ a. behind ++ a) at.added_is ∙ sym (append_assoc behind (at.more ++ 10 ∷ []) rest);
          finished = finished_line behind at.more none;
          alike = subst (λ p. Alike (lines p) (lines (behind ++ (at.more ++ 10 ∷ [])))) (sym page_is)
              (kept_alike kept behind (at.more ++ 10 ∷ []) is none);
          alone = ends.alone;
          kept = refl;
        }

-- ---- how many lines there are

none_if : (b : Bool) (x : List ℕ) → length (cond b [] (x ∷ [])) ≤ 1
none_if true x = omega arith
none_if false x = omega arith

pub lines_few : (bytes : List ℕ) → length (lines bytes) ≤ length bytes
lines_few [] = omega arith
lines_few (x ∷ bytes) = by_test (is_newline x) (slice_split is_newline bytes) (lines_few bytes)
  where
    by_test : (b : Bool) (parts : List (List ℕ)) → length (lines_of_parts parts) ≤ length bytes
        → length (lines_of_parts (cond b ([] ∷ parts) (onto_first x parts))) ≤ length (x ∷ bytes)
    by_test true [] few = omega arith
    by_test true (part ∷ parts) few = omega arith
    by_test false [] few = omega (arith, none_if (length (x ∷ []) == 0) (x ∷ []))
    by_test false (part ∷ []) few = omega (arith, none_if (length (x ∷ part) == 0) (x ∷ part))
    by_test false (part ∷ next ∷ parts) few = omega arith

-- ---- what is kept of a page

pub kept_front : (xs : List ℕ) (kept room : ℕ) → kept ≡ min 8194 room → take kept xs ≡ take 8194 (take room xs)
kept_front xs kept room is =
    ⊎_elim
    (λ above. ap (λ n. take n xs) (let all : kept ≡ 8194 = omega arith in all) ∙ sym (take-take 8194 room xs (omega arith)))
    (λ below. ap (λ n. take n xs) (let all : kept ≡ room = omega arith in all)
    ∙ sym (take_all 8194 (take room xs) (let l = length-take room xs in omega arith)))
    (cases_lt 8194 room)
