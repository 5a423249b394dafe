-- The senders whose fences moved, one after another.
use Rattle.std.proofs.Common.{◌≡◌, ℕ, zero, suc, ◌+◌, ◌≤◌, List, [], ◌∷◌, ◌++◌, length, take, slice_get, Option, Some, None, refl, sym, ap, ap₂, ◌∙◌, append_assoc, arith}
use Rattle.std.proofs.lemmas.List.{append-nil, take_all}
use Rattle.paper.specs.Puts.{Puts}
use Rattle.paper.proofs.Calls.{then}
use Rattle.paper.proofs.Items.{is_put}
use Rattle.line_accept.specs.declared.fence.Fence.{Fence}
use Rattle.line_accept.specs.Senders.{Sender}
use Rattle.line_accept.specs.Answers.{moved_line, moved_both, moved_at, moved_text}

pub put_there : {P : Type 0} {takes : P → List ℕ → P → Type 0} {p q : P} (firsts : List Fence) (senders : List Sender) (place : ℕ)
    (f : Option Fence) (s : Option Sender) → f ≡ slice_get firsts place → s ≡ slice_get senders place → Puts takes p (moved_both f s) q
    → Puts takes p (moved_at firsts senders place) q
put_there firsts senders place f s one two puts =
    is_put (moved_at firsts senders place) (moved_both f s) (ap₂ moved_both (sym one) (sym two)) puts

no_sender : (f : Option Fence) → [] ≡ moved_both f None
no_sender None = refl
no_sender (Some f) = refl

moved_more : (fs : List Fence) (ss : List Sender) (i : ℕ)
    → moved_text (take (suc i) fs) (take (suc i) ss) ≡ moved_text (take i fs) (take i ss) ++ moved_at fs ss i
moved_more [] ss zero = refl
moved_more [] ss (suc i) = refl
moved_more (f ∷ fs) [] zero = refl
moved_more (f ∷ fs) [] (suc i) = no_sender (slice_get fs i)
moved_more (f ∷ fs) (s ∷ ss) zero = append-nil (moved_line f s)
moved_more (f ∷ fs) (s ∷ ss) (suc i) =
    ap (λ (t : List ℕ). moved_line f s ++ t) (moved_more fs ss i)
    ∙ sym (append_assoc (moved_line f s) (moved_text (take i fs) (take i ss)) (moved_at fs ss i))

pub moved_step : {P : Type 0} {takes : P → List ℕ → P → Type 0} {p q r : P} (fs : List Fence) (ss : List Sender) (i : ℕ)
    → Puts takes p (moved_text (take i fs) (take i ss)) q → Puts takes q (moved_at fs ss i) r
    → Puts takes p (moved_text (take (i + 1) fs) (take (i + 1) ss)) r
moved_step fs ss i before one =
    let next : i + 1 ≡ suc i = omega arith in
    is_put _ (moved_text (take i fs) (take i ss) ++ moved_at fs ss i)
    (ap (λ (n : ℕ). moved_text (take n fs) (take n ss)) next ∙ moved_more fs ss i) (then before one)

-- no sender is beyond as many as there are fences
as_many : (fs : List Fence) (ss : List Sender) (n : ℕ) → length fs ≤ n → moved_text fs (take n ss) ≡ moved_text fs ss
as_many [] ss n all = refl
as_many (f ∷ fs) ss zero all = absurd (omega (arith, all))
as_many (f ∷ fs) [] (suc n) all = refl
as_many (f ∷ fs) (s ∷ ss) (suc n) all = ap (λ (t : List ℕ). moved_line f s ++ t) (as_many fs ss n (omega (arith, all)))

pub moved_end : {P : Type 0} {takes : P → List ℕ → P → Type 0} {p q : P} (fs : List Fence) (ss : List Sender) (n : ℕ) → length fs ≤ n
    → Puts takes p (moved_text (take n fs) (take n ss)) q → Puts takes p (moved_text fs ss) q
moved_end fs ss n all puts =
    is_put (moved_text fs ss) _ (sym (ap (λ (xs : List Fence). moved_text xs (take n ss)) (take_all n fs all) ∙ as_many fs ss n all)) puts
