-- What holds of merges.
use Rattle.std.proofs.Common.{ℕ, zero, suc, ◌≡◌, ◌<◌, ◌≤◌, ◌==◌, Bool, true, false, List, [], ◌∷◌, ◌++◌, map, Option, Some, None, arith, refl, sym, ap, subst, ◌∙◌}
use Rattle.std.proofs.lemmas.Bool.{eqb-true, eqb-false}
use Rattle.std.proofs.lemmas.Option.{same_Some}
use Rattle.line_merge.specs.Least.{IsLeast, AreDone, HasHead, carried}
use Rattle.line_merge.specs.Merging.{Timed, Merged, head_of, heads_of, Takes, IsMerge, MergesTo, lines_from, input_at, RiseFrom, AllRiseFrom, Heard, timed, OwnRiseFrom}

-- ---- each input's lines

done_none : (input : List Timed) → head_of input ≡ None → input ≡ []
done_none [] h = refl
done_none (line ∷ lines) h = absurd cc

done_at : (inputs : List (List Timed)) (place : ℕ) → AreDone (heads_of inputs) → [] ≡ input_at inputs place
done_at [] place h = refl
done_at (input ∷ inputs) zero h = sym (done_none input h.0)
done_at (input ∷ inputs) (suc place) h = done_at inputs place h.1

-- what holds where the line is taken from the first input, and goes over to one more input in front, holds of each taking
taking : (line : Timed) (P : ℕ → (before after : List (List Timed)) → Type 0)
    → ((left : List Timed) (inputs : List (List Timed)) → P zero ((line ∷ left) ∷ inputs) (left ∷ inputs))
    → ((place : ℕ) (input : List Timed) (before after : List (List Timed)) → P place before after
    → P (suc place) (input ∷ before) (input ∷ after))
    → (place : ℕ) (before after : List (List Timed)) → Takes place line before after → P place before after
taking line P here there zero (input ∷ inputs) (left ∷ later) t = rw (t.0, t.1) (here left inputs)
taking line P here there (suc place) (input ∷ inputs) (left ∷ later) t =
    rw t.0 (there place input inputs later (taking line P here there place inputs later t.1))
taking line P here there _ _ _ t = absurd t

taken_here : (place : ℕ) (line : Timed) (before after : List (List Timed)) → Takes place line before after
    → input_at before place ≡ line ∷ input_at after place
taken_here place line = taking line (λ place before after. input_at before place ≡ line ∷ input_at after place)
    (λ left inputs. refl) (λ place input before after e. e) place

taken_there : (place other : ℕ) (line : Timed) (before after : List (List Timed)) → Takes place line before after
    → (place ≡ other → ⊥) → input_at before other ≡ input_at after other
taken_there zero zero line (input ∷ inputs) (left ∷ later) t unlike = absurd (unlike refl)
taken_there zero (suc other) line (input ∷ inputs) (left ∷ later) t unlike = ap (λ xs. input_at xs other) (sym t.1)
taken_there (suc place) zero line (input ∷ inputs) (left ∷ later) t unlike = sym t.0
taken_there (suc place) (suc other) line (input ∷ inputs) (left ∷ later) t unlike =
    taken_there place other line inputs later t.1 (λ e. unlike (ap suc e))
taken_there _ other line _ _ t unlike = absurd t

keep_by : (b : Bool) (m : Merged) (merged : List Merged) (before after : List (List Timed)) (place : ℕ) → (m.place == place) ≡ b
    → Takes m.place m.line before after → lines_from place merged ≡ input_at after place
    → lines_from place (m ∷ merged) ≡ input_at before place
keep_by true m merged before after place e t later =
    let is : m.place ≡ place = eqb-true m.place place e in
    let here : input_at before place ≡ m.line ∷ input_at after place =
    subst (λ p. input_at before p ≡ m.line ∷ input_at after p) is (taken_here m.place m.line before after t) in
    rw e (ap (λ xs. m.line ∷ xs) later ∙ sym here)
keep_by false m merged before after place e t later =
    rw e (later ∙ sym (taken_there m.place place m.line before after t (eqb-false m.place place e)))

pub keep_each : (inputs : List (List Timed)) (merged : List Merged) → IsMerge inputs merged
    → (place : ℕ) → lines_from place merged ≡ input_at inputs place
keep_each inputs [] h place = done_at inputs place h
keep_each inputs (m ∷ merged) h place =
    keep_by (m.place == place) m merged inputs h.1.0 place refl h.1.1 (keep_each h.1.0 merged h.1.2 place)

-- ---- moments

-- an input whose next line isn't before a moment rises from there
rise_later : (from at : ℕ) (input : List Timed) → RiseFrom from input → ((later : ℕ) → head_of input ≡ Some later → at ≤ later) → RiseFrom at input
rise_later from at [] r h = tt
rise_later from at (line ∷ lines) r h = (h line.at refl, r.1)

all_later : (from at : ℕ) (inputs : List (List Timed)) → AllRiseFrom from inputs
    → ((other later : ℕ) → HasHead (heads_of inputs) other later → at ≤ later) → AllRiseFrom at inputs
all_later from at [] r h = tt
all_later from at (input ∷ inputs) r h =
    (rise_later from at input r.0 (λ later e. h 0 later e), all_later from at inputs r.1 (λ other later x. h (suc other) later x))

-- the line that is taken stands at its input's next moment
taken_at : (place : ℕ) (line : Timed) (before after : List (List Timed)) → Takes place line before after
    → HasHead (heads_of before) place line.at
taken_at place line = taking line (λ place before after. HasHead (heads_of before) place line.at)
    (λ left inputs. refl) (λ place input before after h. h) place

one_head : (heads : List (Option ℕ)) (place a b : ℕ) → HasHead heads place a → HasHead heads place b → a ≡ b
one_head [] place a b h k = absurd h
one_head (head ∷ heads) zero a b h k = same_Some a b (sym h ∙ k)
one_head (head ∷ heads) (suc place) a b h k = one_head heads place a b h k

-- what is left rises from the line that was taken
left_rises : (place : ℕ) (line : Timed) (before after : List (List Timed)) → Takes place line before after
    → AllRiseFrom line.at before → AllRiseFrom line.at after
left_rises place line = taking line (λ place before after. AllRiseFrom line.at before → AllRiseFrom line.at after)
    (λ left inputs r. (r.0.1, r.1)) (λ place input before after rest r. (r.0, rest r.1)) place

-- the moment of a head isn't before that from which all rise
not_before : (from : ℕ) (inputs : List (List Timed)) (place at : ℕ) → AllRiseFrom from inputs → HasHead (heads_of inputs) place at → from ≤ at
not_before from [] place at r h = absurd h
not_before from ([] ∷ inputs) zero at r h = absurd cc
not_before from ((line ∷ lines) ∷ inputs) zero at r h = let same = same_Some line.at at h in omega (arith, r.0.0, same)
not_before from (input ∷ inputs) (suc place) at r h = not_before from inputs place at r.1 h

pub rise : (from : ℕ) (inputs : List (List Timed)) (merged : List Merged) → IsMerge inputs merged → AllRiseFrom from inputs
    → RiseFrom from (map (λ (m : Merged). m.line) merged)
rise from inputs [] h r = tt
rise from inputs (m ∷ merged) h r =
    let has : HasHead (heads_of inputs) m.place m.line.at = taken_at m.place m.line inputs h.1.0 h.1.1 in
    let same : h.0.at ≡ m.line.at = one_head (heads_of inputs) m.place h.0.at m.line.at h.0.has has in
    let least : (other later : ℕ) → HasHead (heads_of inputs) other later → m.line.at ≤ later =
    λ other later x. omega (arith, same, h.0.least other later x) in (
      not_before from inputs m.place m.line.at r has,
      rise m.line.at h.1.0 merged h.1.2 (left_rises m.place m.line inputs h.1.0 h.1.1 (all_later from m.line.at inputs r least)),
    )

-- ---- one merge

one_place : (heads : List (Option ℕ)) (a b : ℕ) → IsLeast heads a → IsLeast heads b → a ≡ b
one_place heads a b x y =
    let ab : a < b → ⊥ = λ less. omega (arith, y.first a x.at x.has less, x.least b y.at y.has) in
    let ba : b < a → ⊥ = λ less. omega (arith, x.first b y.at y.has less, y.least a x.at x.has) in
    grind (arith, ab, ba)

-- inputs give one line at a place, and leave the same
one_taking : (place : ℕ) (a b : Timed) (before c d : List (List Timed)) → Takes place a before c → Takes place b before d
    → (a ≡ b) × (c ≡ d)
one_taking zero a b (input ∷ inputs) (left ∷ later) (left' ∷ later') x y =
    let e : a ∷ left ≡ b ∷ left' = sym x.0 ∙ y.0 in (cc, cc (x.1, y.1))
one_taking (suc place) a b (input ∷ inputs) (left ∷ later) (left' ∷ later') x y =
    let rest = one_taking place a b inputs later later' x.1 y.1 in (rest.0, λ i. (x.0 ∙ sym y.0) i ∷ rest.1 i)
one_taking _ a b (input ∷ inputs) (left ∷ later) [] x y = absurd y
one_taking _ a b _ _ _ x y = absurd x

-- two merges, or beginnings of merges, of the same inputs begin with the same line, and leave the same
record IsOneStep (m n : Merged) (after after' : List (List Timed)) : Type 0 where
  head : m ≡ n
  rest : after ≡ after'

one_step : (inputs after after' : List (List Timed)) (m n : Merged) → IsLeast (heads_of inputs) m.place → Takes m.place m.line inputs after
    → IsLeast (heads_of inputs) n.place → Takes n.place n.line inputs after' → IsOneStep m n after after'
one_step inputs after after' m n x takes y takes' =
    let place : m.place ≡ n.place = one_place (heads_of inputs) m.place n.place x y in
    let one = one_taking m.place m.line n.line inputs after after' takes (subst (λ p. Takes p n.line inputs after') (sym place) takes') in
    record { head = λ i. record { place = place i; line = one.0 i }; rest = one.1 }

done_has : (heads : List (Option ℕ)) (place at : ℕ) → AreDone heads → HasHead heads place at → ⊥
done_has [] place at d h = h
done_has (head ∷ heads) zero at d h = let e : None ≡ Some at = sym d.0 ∙ h in absurd cc
done_has (head ∷ heads) (suc place) at d h = done_has heads place at d.1 h

pub one_merge : (inputs : List (List Timed)) (one other : List Merged) → IsMerge inputs one → IsMerge inputs other → one ≡ other
one_merge inputs [] [] x y = refl
one_merge inputs [] (m ∷ other) x y = absurd (done_has (heads_of inputs) m.place y.0.at x y.0.has)
one_merge inputs (m ∷ one) [] x y = absurd (done_has (heads_of inputs) m.place x.0.at y x.0.has)
one_merge inputs (m ∷ one) (n ∷ other) x y =
    let step = one_step inputs x.1.0 y.1.0 m n x.0 x.1.1 y.0 y.1.1 in
    let later = one_merge x.1.0 one other x.1.2 (subst (λ left. IsMerge left other) (sym step.rest) y.1.2) in
    (λ i. step.head i ∷ later i)

-- ---- fronts of a merge

pub fronts : (inputs left : List (List Timed)) (front merged : List Merged) → MergesTo inputs front left → IsMerge inputs merged
    → (rest : List Merged) × (merged ≡ front ++ rest) × IsMerge left rest
fronts inputs left [] merged x y = (merged, refl, subst (λ i. IsMerge i merged) (sym x) y)
fronts inputs left (m ∷ front) [] x y = absurd (done_has (heads_of inputs) m.place x.0.at y x.0.has)
fronts inputs left (m ∷ front) (n ∷ merged) x y =
    let step = one_step inputs x.1.0 y.1.0 m n x.0 x.1.1 y.0 y.1.1 in
    let later = fronts x.1.0 left front merged x.1.2 (subst (λ i. IsMerge i merged) (sym step.rest) y.1.2) in
    (later.0, (λ i. sym step.head i ∷ later.1 i), later.2)

-- one more line comes next
pub merges_more : (inputs left after : List (List Timed)) (front : List Merged) (m : Merged) → MergesTo inputs front left
    → IsLeast (heads_of left) m.place → Takes m.place m.line left after → MergesTo inputs (front ++ m ∷ []) after
merges_more inputs left after [] m x least takes =
    (subst (λ i. IsLeast (heads_of i) m.place) x least, (after, subst (λ i. Takes m.place m.line i after) x takes, refl))
merges_more inputs left after (n ∷ front) m x least takes =
    (x.0, (x.1.0, x.1.1, merges_more x.1.0 left after front m x.1.2 least takes))

-- nothing comes next
pub merges_all : (inputs left : List (List Timed)) (front : List Merged) → MergesTo inputs front left → AreDone (heads_of left)
    → IsMerge inputs front
merges_all inputs left [] x done = subst (λ i. AreDone (heads_of i)) x done
merges_all inputs left (n ∷ front) x done = (x.0, (x.1.0, x.1.1, merges_all x.1.0 left front x.1.2 done))

-- ---- lines without a moment

pub carry : (before : ℕ) (lines : List Heard) → OwnRiseFrom before lines → RiseFrom before (timed before lines)
unfolding timed
carry before [] h = tt
carry before (line ∷ lines) h = (h.0, carry (carried before line.own) lines h.1)
