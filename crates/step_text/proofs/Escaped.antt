-- A text that is put inside a string.
use Rattle.std.proofs.Common.{◌≡◌, ℕ, ◌<◌, nat_lt, List, [], ◌∷◌, ◌++◌, refl, sym, ap, ◌∙◌, append_assoc}
use Rattle.std.proofs.lemmas.Bool.{cond-true, lt-ltb}
use Rattle.std.specs.List.{FoldsTo, concat}
use Rattle.json.specs.Print.{escape_letter, escape_byte, escape}
use Rattle.paper.specs.Puts.{Puts}
use Rattle.paper.proofs.Calls.{none, then}
use Rattle.paper.proofs.Items.{is_put}

-- a byte that has a letter is escaped by it
pub short_escape : (byte letter : ℕ) → letter ≡ escape_letter byte → 0 < letter → escape_byte byte ≡ 92 ∷ letter ∷ []
unfolding escape_byte
short_escape byte letter is some =
    cond-true (nat_lt 0 (escape_letter byte)) _ _ (ap (λ n. nat_lt 0 n) (sym is) ∙ lt-ltb 0 letter some) ∙ ap (λ n. 92 ∷ n ∷ []) (sym is)

escape_append : (a b : List ℕ) → escape (a ++ b) ≡ escape a ++ escape b
escape_append [] b = refl
escape_append (x ∷ a) b =
    ap (λ t. escape_byte x ++ t) (escape_append a b) ∙ sym (append_assoc (escape_byte x) (escape a) (escape b))

-- Calls on a paper inside a string are calls on the one around it, which stays the same paper.
folded : {I P N : Type 0} (name : I → N) (around : I → P) (takes : P → List ℕ → P → Type 0) (inside : I → List ℕ → I → Type 0)
    → ((i : I) (bytes : List ℕ) (j : I) → inside i bytes j → (name j ≡ name i) × Puts takes (around i) (escape bytes) (around j))
    → (i : I) (parts : List (List ℕ)) (j : I) → FoldsTo inside i parts j
    → (name j ≡ name i) × Puts takes (around i) (escape (concat parts)) (around j)
folded name around takes inside one i [] j folds = rw folds (refl, none)
folded name around takes inside one i (bytes ∷ parts) j (k, took, folds) =
    let first = one i bytes k took in
    let later = folded name around takes inside one k parts j folds in
    (later.0 ∙ first.0, is_put _ _ (escape_append bytes (concat parts)) (then first.1 later.1))

-- a text that was put inside a string was put around it with its escapes
pub put_inside : {I P N : Type 0} (name : I → N) (around : I → P) (takes : P → List ℕ → P → Type 0)
    (inside : I → List ℕ → I → Type 0)
    → ((i : I) (bytes : List ℕ) (j : I) → inside i bytes j → (name j ≡ name i) × Puts takes (around i) (escape bytes) (around j))
    → (i j : I) (text : List ℕ) → Puts inside i text j → (name j ≡ name i) × Puts takes (around i) (escape text) (around j)
put_inside name around takes inside one i j text puts =
    let all = folded name around takes inside one i puts.calls.parts j puts.calls.calls in
    (all.0, is_put _ _ (ap escape (sym puts.calls.whole)) all.1)
