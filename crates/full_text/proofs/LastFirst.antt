-- Bytes that are put one after another, the last one first.
use Rattle.std.proofs.Common.{◌≡◌, ℕ, ◌+◌, ◌-◌, ◌<◌, ◌≤◌, get_or, List, [], ◌∷◌, ◌++◌, length, take, ap, ◌∙◌, arith, reverse, flat_map}
use Rattle.std.proofs.lemmas.List.{reverse-append, take_more}
use Rattle.paper.specs.Puts.{Puts}
use Rattle.paper.proofs.Calls.{none, two_make}
use Rattle.paper.proofs.Items.{is_put}

-- one byte more stands in front of those that were sent before it
one_more : (text : ℕ → List ℕ) (sent : List ℕ) (i : ℕ) → i < length sent
    → flat_map text (reverse (take (i + 1) sent)) ≡ text (get_or sent i 0) ++ flat_map text (reverse (take i sent))
one_more text sent i within =
    ap (λ bytes. flat_map text (reverse bytes)) (take_more sent i 0 within)
    ∙ ap (flat_map text) (reverse-append (take i sent) (get_or sent i 0 ∷ []))

pub byte_more : {P : Type 0} {takes : P → List ℕ → P → Type 0} {p q r : P} (text : ℕ → List ℕ) (sent : List ℕ) (left : ℕ)
    → 0 < left → left ≤ length sent → Puts takes p (text (get_or sent (left - 1) 0)) q
    → Puts takes q (flat_map text (reverse (take (left - 1) sent))) r
    → Puts takes p (flat_map text (reverse (take left sent))) r
byte_more text sent left some within one later =
    let next : left ≡ left - 1 + 1 = omega arith in
    two_make (flat_map text (reverse (take left sent))) one later
    (ap (λ n. flat_map text (reverse (take n sent))) next ∙ one_more text sent (left - 1) (omega arith))

pub no_bytes : {P : Type 0} {takes : P → List ℕ → P → Type 0} {p : P} (text : ℕ → List ℕ) (sent : List ℕ) (left : ℕ) → left ≡ 0
    → Puts takes p (flat_map text (reverse (take left sent))) p
no_bytes text sent left e = is_put _ _ (ap (λ n. flat_map text (reverse (take n sent))) e) none
