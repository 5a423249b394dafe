-- The answers as relations.
use Rattle.std.proofs.Common.{ℕ, ◌≡◌, ◌+◌, ◌<◌, ◌≤◌, ◌==◌, Bool, true, false, cond, arith, inl, inr, refl, sym, ap, ◌∙◌}
use Rattle.std.specs.Prelude.{◌↔◌, ◌⊎◌, nat_lt, nat_le, ◌&&◌, ◌||◌}
use Rattle.std.proofs.lemmas.Bool.{cases_order}
use Rattle.std.proofs.lemmas.Bool.Decides.{nat_tests}
use Rattle.line_accept.specs.declared.fence.Numbered.{Numbered}
use Rattle.line_accept.specs.declared.fence.Fence.{Fence}
use Rattle.line_accept.specs.declared.fence.Asked.{Asked}
use Rattle.line_accept.specs.declared.fence.Answer.{Answer}
use Rattle.line_accept.specs.declared.fence.Answer.TheVariants.{Taken, Again, Gap}
use Rattle.line_accept.specs.Fences.{IsNext, IsPast, IsBeyond, is_next, is_past, behind, answer_of}

-- the tests on plain numbers: e and n are a message's epoch and number, d and k a fence's
next_by : (b : Bool) (e n d k : ℕ) → (e == d) ≡ b → cond b (n == k + 1) (nat_lt d e && n == 1) ≡ true
    → ((e ≡ d) × (n ≡ k + 1)) ⊎ ((d < e) × (n ≡ 1))
next_by true e n d k h t = inl (grind (arith, nat_tests), grind (arith, nat_tests))
next_by false e n d k h t = inr (grind (arith, nat_tests), grind (arith, nat_tests))

past_by : (e n d k : ℕ) → (nat_lt e d || (e == d && nat_le n k)) ≡ true → (e < d) ⊎ ((e ≡ d) × (n ≤ k))
past_by e n d k h = grind (arith, nat_tests)

-- ---- messages

pub next_is : (f : Fence) (m : Numbered) → is_next f m ≡ true → IsNext f m
unfolding is_next
next_is f m h = next_by (m.epoch == f.epoch) m.epoch m.number f.epoch f.number refl h

is_next_by : (e n d k : ℕ) → (((e ≡ d) × (n ≡ k + 1)) ⊎ ((d < e) × (n ≡ 1)))
    → cond (e == d) (n == k + 1) (nat_lt d e && n == 1) ≡ true
is_next_by e n d k (inl x) =
    let s : (e == d) ≡ true = grind (arith, nat_tests, x.0) in rw s (grind (arith, nat_tests, x.1))
is_next_by e n d k (inr x) =
    let s : (e == d) ≡ false = grind (arith, nat_tests, x.0) in
    let l : nat_lt d e ≡ true = grind (arith, nat_tests, x.0) in rw (s, l) (grind (arith, nat_tests, x.1))

pub is_next_is : (f : Fence) (m : Numbered) → IsNext f m → is_next f m ≡ true
unfolding is_next
is_next_is f m h = is_next_by m.epoch m.number f.epoch f.number h

pub past_is : (f : Fence) (m : Numbered) → is_past f m ≡ true → IsPast f m
unfolding is_past
past_is f m h = past_by m.epoch m.number f.epoch f.number h

pub is_past_is : (f : Fence) (m : Numbered) → IsPast f m → is_past f m ≡ true
unfolding is_past
is_past_is f m past = grind (arith, nat_tests)

-- a message comes before the next one, is it, or comes behind it, and no two of them
next_past : (f : Fence) (m : Numbered) → IsNext f m → IsPast f m → ⊥
next_past f m next past = grind arith

next_beyond : (f : Fence) (m : Numbered) → IsNext f m → IsBeyond f m → ⊥
next_beyond f m next beyond = grind arith

past_beyond : (f : Fence) (m : Numbered) → IsPast f m → IsBeyond f m → ⊥
past_beyond f m past beyond = grind arith

-- what is neither the next one nor before it is behind it
leaves : (f : Fence) (m : Numbered) → (IsNext f m → ⊥) → (IsPast f m → ⊥) → IsBeyond f m
leaves f m next past = elim (cases_order m.epoch f.epoch) [
  | inl same ↦ elim (cases_order m.number (f.number + 1)) [
    | inl is ↦ absurd (next (inl (same, is)))
    | inr (inl below) ↦ absurd (past (inr (same, omega arith)))
    | inr (inr above) ↦ inl (same, above)
  ]
  | inr (inl below) ↦ absurd (past (inl below))
  | inr (inr above) ↦ inr (above, λ first. next (inr (above, first)))
]

-- what is answered, by what the message is
pub data Judged (f : Fence) (m : Numbered) : Type 0 where
  Follows : IsNext f m → answer_of f m ≡ Taken → is_next f m ≡ true → Judged f m
  Came : IsPast f m → answer_of f m ≡ Again → is_next f m ≡ false → Judged f m
  Leaves : IsBeyond f m → answer_of f m ≡ Gap (behind f) → is_next f m ≡ false → Judged f m

judged_by : (a b : Bool) (f : Fence) (m : Numbered) → is_next f m ≡ a → is_past f m ≡ b → Judged f m
unfolding answer_of
judged_by true b f m n p = Follows (next_is f m n) (rw n refl) n
judged_by false true f m n p = Came (past_is f m p) (rw (n, p) refl) n
judged_by false false f m n p =
    Leaves (leaves f m (λ next. let no : true ≡ false = sym (is_next_is f m next) ∙ n in cc)
    (λ past. let no : true ≡ false = sym (is_past_is f m past) ∙ p in cc)) (rw (n, p) refl) n

pub judged : (f : Fence) (m : Numbered) → Judged f m
judged f m = judged_by (is_next f m) (is_past f m) f m refl refl

-- ---- the clauses

pub taken_next : (f : Fence) (m : Numbered) (a : Answer) → a ≡ answer_of f m → (a ≡ Taken) ↔ IsNext f m
taken_next f m a is = elim (judged f m) [
  | Follows x e n ↦ (λ h. x, λ h. is ∙ e)
  | Came x e n ↦ (λ h. absurd (let no : Taken ≡ Again = sym h ∙ is ∙ e in cc), λ h. absurd (next_past f m h x))
  | Leaves x e n ↦ (λ h. absurd (let no : Taken ≡ Gap (behind f) = sym h ∙ is ∙ e in cc), λ h. absurd (next_beyond f m h x))
]

pub again_past : (f : Fence) (m : Numbered) (a : Answer) → a ≡ answer_of f m → (a ≡ Again) ↔ IsPast f m
again_past f m a is = elim (judged f m) [
  | Follows x e n ↦ (λ h. absurd (let no : Again ≡ Taken = sym h ∙ is ∙ e in cc), λ h. absurd (next_past f m x h))
  | Came x e n ↦ (λ h. x, λ h. is ∙ e)
  | Leaves x e n ↦ (λ h. absurd (let no : Again ≡ Gap (behind f) = sym h ∙ is ∙ e in cc), λ h. absurd (past_beyond f m h x))
]

pub gap_beyond : (f : Fence) (m : Numbered) (a : Answer) → a ≡ answer_of f m → (asked : Asked)
    → (a ≡ Gap asked) ↔ (IsBeyond f m × (asked ≡ behind f))
gap_beyond f m a is asked = elim (judged f m) [
  | Follows x e n ↦ (λ h. absurd (let no : Gap asked ≡ Taken = sym h ∙ is ∙ e in cc), λ h. absurd (next_beyond f m x h.0))
  | Came x e n ↦ (λ h. absurd (let no : Gap asked ≡ Again = sym h ∙ is ∙ e in cc), λ h. absurd (past_beyond f m x h.0))
  | Leaves x e n ↦ (λ h. (x, (let same : Gap asked ≡ Gap (behind f) = sym h ∙ is ∙ e in cc)), λ h. is ∙ e ∙ ap Gap (sym h.1))
]
