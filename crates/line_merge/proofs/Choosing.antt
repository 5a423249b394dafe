-- The choice of the next line.
use Rattle.std.proofs.Common.{ℕ, zero, suc, ◌≡◌, ◌+◌, ◌<◌, ◌≤◌, Bool, true, false, cond, List, [], ◌∷◌, length, get_or, Option, Some, None, ⊎_elim, arith, refl, sym, subst, ◌∙◌}
use Rattle.std.specs.Prelude.{nat_lt, IfSome, IfNone}
use Rattle.std.proofs.lemmas.Bool.{cases_lt}
use Rattle.std.proofs.lemmas.Bool.Decides.{nat_tests}
use Rattle.line_merge.specs.Least.{IsLeast, AreDone, HasHead, IsBest, better}

-- what is read at a place is its head
has_read : (heads : List (Option ℕ)) (place : ℕ) (head d : Option ℕ) (at : ℕ) → place < length heads → head ≡ get_or heads place d
    → head ≡ Some at → HasHead heads place at
has_read [] place head d at within read is = absurd (omega (arith, within))
has_read (first ∷ heads) zero head d at within read is = sym read ∙ is
has_read (first ∷ heads) (suc place) head d at within read is = has_read heads place head d at (omega (arith, within)) read is

read_has : (heads : List (Option ℕ)) (place : ℕ) (head d : Option ℕ) (at : ℕ) → head ≡ get_or heads place d → HasHead heads place at
    → head ≡ Some at
read_has [] place head d at read h = absurd h
read_has (first ∷ heads) zero head d at read h = read ∙ h
read_has (first ∷ heads) (suc place) head d at read h = read_has heads place head d at read h

pub within_all : (heads : List (Option ℕ)) (place at : ℕ) → HasHead heads place at → place < length heads
within_all [] place at h = absurd h
within_all (first ∷ heads) zero at h = omega arith
within_all (first ∷ heads) (suc place) at h = omega (arith, within_all heads place at h)

module _ (heads : List (Option ℕ)) (count : ℕ) (head d : Option ℕ) (within : count < length heads) (read : head ≡ get_or heads count d) where
  -- what holds of the moments before a place, and of the one there, holds of all so far
  up_to : (P : ℕ → ℕ → Type 0) → ((other later : ℕ) → HasHead heads other later → other < count → P other later)
      → ((later : ℕ) → head ≡ Some later → P count later)
      → (other later : ℕ) → HasHead heads other later → other < count + 1 → P other later
  up_to P before here other later h below = ⊎_elim (before other later h)
      (λ past. let e : other ≡ count = omega arith in
      rw e (here later (read_has heads count head d later read (subst (λ n. HasHead heads n later) e h))))
      (cases_lt other count)

  none_more : (best : Option (ℕ × ℕ)) → head ≡ None → IsBest heads count best → IsBest heads (count + 1) best
  none_more None is b = up_to (λ other later. ⊥) b (λ later e. absurd cc)
  none_more (Some found) is b = (omega (arith, b.0), b.1, up_to (λ other later. found.1 ≤ later) b.2 (λ later e. absurd cc), b.3)

  here_best : (at : ℕ) → head ≡ Some at → ((other later : ℕ) → HasHead heads other later → other < count → at < later)
      → IsBest heads (count + 1) (Some (count, at))
  here_best at is above = (
    omega arith,
    has_read heads count head d at within read is,
    up_to (λ other later. at ≤ later) (λ other later h less. omega (arith, above other later h less))
        (λ later e. let same : later ≡ at = cc in omega arith),
    above,
  )

  some_more : (found : ℕ × ℕ) (at : ℕ) → head ≡ Some at → IsBest heads count (Some found) → (b : Bool) → nat_lt at found.1 ≡ b
      → IsBest heads (count + 1) (cond b (Some (count, at)) (Some found))
  some_more found at is best true e =
      let less : at < found.1 = grind (arith, nat_tests) in
      here_best at is (λ other later h below. omega (arith, less, best.2 other later h below))
  some_more found at is best false e =
      let most : found.1 ≤ at = grind (arith, nat_tests) in (
        omega (arith, best.0),
        best.1,
        up_to (λ other later. found.1 ≤ later) best.2 (λ later e. let same : later ≡ at = cc in omega arith),
        best.3,
      )

  more_by : (best : Option (ℕ × ℕ)) (o : Option ℕ) → head ≡ o → IsBest heads count best → IsBest heads (count + 1) (better best count o)
  more_by best None is b = none_more best is b
  more_by None (Some at) is b = here_best at is (λ other later h below. absurd (b other later h below))
  more_by (Some found) (Some at) is b = some_more found at is b (nat_lt at found.1) refl

  pub more : (best next : Option (ℕ × ℕ)) → next ≡ better best count head → IsBest heads count best → IsBest heads (count + 1) next
  more best next is b = subst (IsBest heads (count + 1)) (sym is) (more_by best head refl b)

-- ---- all places

none_in : (heads : List (Option ℕ)) → ((other later : ℕ) → HasHead heads other later → ⊥) → AreDone heads
none_in [] h = tt
none_in (None ∷ heads) h = (refl, none_in heads (λ other later x. h (suc other) later x))
none_in (Some at ∷ heads) h = absurd (h 0 at refl)

-- what was found among all places
pub record IsFound (heads : List (Option ℕ)) (best : Option (ℕ × ℕ)) : Type 0 where
  pub least : IfSome best (λ found. IsLeast heads found.0)
  pub at : IfSome best (λ found. HasHead heads found.0 found.1)
  pub none : IfNone best (AreDone heads)

pub all_seen : (heads : List (Option ℕ)) (count : ℕ) (best : Option (ℕ × ℕ)) → count ≡ length heads → IsBest heads count best
    → IsFound heads best
all_seen heads count None all b = record {
  least = tt;
  at = tt;
  none = none_in heads (λ other later h. b other later h (omega (arith, all, within_all heads other later h)));
}
all_seen heads count (Some found) all b = record {
  least = record {
    at = found.1;
    has = b.1;
    least = λ other later h. b.2 other later h (omega (arith, all, within_all heads other later h));
    first = b.3;
  };
  at = b.1;
  none = tt;
}
