-- Lines of a report that are listed one after another.
use Rattle.std.proofs.Common.{◌≡◌, ℕ, ◌<◌, true, List, [], ◌∷◌, ◌++◌, length, Option, Result, Err, refl, sym, ap, ◌∙◌, append_assoc, nat_lt}
use Rattle.std.proofs.lemmas.Bool.{cond-true, lt-ltb}
use Rattle.paper.specs.Pieces.{text_if}
use Rattle.reading_list.specs.declared.said.LineFault.{LineFault}
use Rattle.reading_list.specs.declared.said.LineFault.TheVariants as faults
use Rattle.reading_list.specs.declared.notes.LineNote.{LineNote}
use Rattle.reading_list.specs.declared.lister.Lister.{Lister}
use Rattle.reading_list.specs.Said.{Said, said_of}
use Rattle.reading_list.specs.Notes.{note_text}
use Rattle.reading_list.specs.Listing.{text_of, note_of, lister_after, listed, lister_behind, ListsLine}

-- ---- one line

-- a line that says this is listed by what is listed of that
pub lists_said : (old new : Lister) (number : ℕ) (line : List ℕ) (said : Result Said LineFault) (found : Option LineNote)
    → said_of line ≡ said → found ≡ note_of old said
    → new ≡ lister_after old said → ListsLine old number line (text_of old said) (text_if (note_text number) found) new
lists_said old new number line said found is note_is new_is = record {
  text_is = ap (text_of old) (sym is);
  note_is = ap (text_if (note_text number)) (note_is ∙ ap (note_of old) (sym is));
  new_is = new_is ∙ ap (lister_after old) (sym is);
}

-- a line that is too long can't be read
pub long_said : (line : List ℕ) → 8192 < length line → said_of line ≡ Err faults.TooLong
unfolding said_of
long_said line long = cond-true (nat_lt 8192 (length line)) _ _ (lt-ltb 8192 (length line) long)

-- ---- all lines

-- the list of lines is a front of that of more lines
pub listed_more : (l : Lister) (xs ys : List (List ℕ)) → listed l (xs ++ ys) ≡ listed l xs ++ listed (lister_behind l xs) ys
listed_more l [] ys = refl
listed_more l (x ∷ xs) ys =
    ap (λ t. text_of l (said_of x) ++ t) (listed_more (lister_after l (said_of x)) xs ys)
    ∙ sym (append_assoc (text_of l (said_of x)) (listed (lister_after l (said_of x)) xs)
    (listed (lister_behind (lister_after l (said_of x)) xs) ys))
