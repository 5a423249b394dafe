-- What several calls put on a paper.
use Rattle.std.proofs.Common.{◌≡◌, refl, sym, subst}
use Rattle.std.specs.Prelude.{ℕ, List, [], ◌∷◌, ◌++◌}
use Rattle.std.specs.List.{FoldsTo, concat}
use Rattle.std.proofs.lemmas.List.{append-nil}
use Rattle.std.proofs.lemmas.List.Folds.{concat-append}
use Rattle.paper.specs.Puts.{Puts}

-- no call
pub none : {P : Type 0} {takes : P → List ℕ → P → Type 0} {p : P} → Puts takes p [] p
none = record { calls = record { parts = []; calls = refl; whole = refl } }

-- one call
pub once : {P : Type 0} {takes : P → List ℕ → P → Type 0} {p q : P} {text : List ℕ} → takes p text q → Puts takes p text q
once {q} {text} took = record { calls = record { parts = text ∷ []; calls = (q, took, refl); whole = append-nil text } }

folds_then : {P : Type 0} (takes : P → List ℕ → P → Type 0) (p q r : P) (xs ys : List (List ℕ)) → FoldsTo takes p xs q
    → FoldsTo takes q ys r → FoldsTo takes p (xs ++ ys) r
folds_then takes p q r [] ys first second = rw first second
folds_then takes p q r (x ∷ xs) ys (j, took, first) second = (j, took, folds_then takes j q r xs ys first second)

joined : (xs ys : List (List ℕ)) (text more : List ℕ) → concat xs ≡ text → concat ys ≡ more → concat (xs ++ ys) ≡ text ++ more
joined xs ys text more first second = rw (sym first) (rw (sym second) (concat-append xs ys))

-- calls, and then more of them
pub then : {P : Type 0} {takes : P → List ℕ → P → Type 0} {p q r : P} {text more : List ℕ} → Puts takes p text q → Puts takes q more r
    → Puts takes p (text ++ more) r
then {P} {takes} {p} {q} {r} {text} {more} first second = record {
  calls = record {
    parts = first.calls.parts ++ second.calls.parts;
    calls = folds_then takes p q r first.calls.parts second.calls.parts first.calls.calls second.calls.calls;
    whole = joined first.calls.parts second.calls.parts text more first.calls.whole second.calls.whole;
  };
}

-- what holds of no call, and of a call in front of others, holds of any calls
pub puts_have : {P : Type 0} (takes R : P → List ℕ → P → Type 0) → ((p : P) → R p [] p)
    → ((p mid q : P) (text more : List ℕ) → takes p text mid → R mid more q → R p (text ++ more) q)
    → (p q : P) (text : List ℕ) → Puts takes p text q → R p text q
puts_have {P} takes R no_call one_more p q text puts =
    subst (λ t. R p t q) puts.calls.whole (all p puts.calls.parts puts.calls.calls)
  where
    all : (p : P) (parts : List (List ℕ)) → FoldsTo takes p parts q → R p (concat parts) q
    all p [] same = subst (λ r. R p [] r) same (no_call p)
    all p (text ∷ parts) (mid, one, rest) = one_more p mid q text (concat parts) one (all mid parts rest)

-- a text in two pieces, and in more
pub two_make : {P : Type 0} {takes : P → List ℕ → P → Type 0} {p q r : P} {a b : List ℕ} (whole : List ℕ) → Puts takes p a q
    → Puts takes q b r → whole ≡ a ++ b → Puts takes p whole r
two_make whole one two e = rw e (then one two)

pub three_make : {P : Type 0} {takes : P → List ℕ → P → Type 0} {p q r s : P} {a b c : List ℕ} (whole : List ℕ) → Puts takes p a q
    → Puts takes q b r → Puts takes r c s → whole ≡ a ++ b ++ c → Puts takes p whole s
three_make whole one two three e = two_make whole (then one two) three e

pub four_make : {P : Type 0} {takes : P → List ℕ → P → Type 0} {p q r s t : P} {a b c d : List ℕ} (whole : List ℕ) → Puts takes p a q
    → Puts takes q b r → Puts takes r c s → Puts takes s d t
    → whole ≡ a ++ b ++ c ++ d → Puts takes p whole t
four_make whole one two three four e = three_make whole (then one two) three four e

pub five_make : {P : Type 0} {takes : P → List ℕ → P → Type 0} {p q r s t u : P} {a b c d e : List ℕ} (whole : List ℕ) → Puts takes p a q
    → Puts takes q b r → Puts takes r c s → Puts takes s d t → Puts takes t e u
    → whole ≡ a ++ b ++ c ++ d ++ e → Puts takes p whole u
five_make whole one two three four five e = four_make whole (then one two) three four five e

pub six_make : {P : Type 0} {takes : P → List ℕ → P → Type 0} {p q r s t u v : P} {a b c d e f : List ℕ} (whole : List ℕ)
    → Puts takes p a q → Puts takes q b r → Puts takes r c s → Puts takes s d t → Puts takes t e u → Puts takes u f v
    → whole ≡ a ++ b ++ c ++ d ++ e ++ f → Puts takes p whole v
six_make whole one two three four five six e = five_make whole (then one two) three four five six e
