-- Strangers by how often addresses were counted.
use Rattle.std.proofs.Common.{◌≡◌, ◌≤◌, ◌==◌, ◌&&◌, ℕ, Bool, true, false, cond, List, [], ◌∷◌, ◌++◌, map, filter, take, reverse, Some, refl, sym, ap, ap₂, ◌∙◌, subst, arith, nat_lt, nat_le, All, Contains, IsPermutation, IsSorted, IsTrue, unwrap_or, nat_cmp, Less}
use mathlib.Core.Path.{fun_ext}
use Rattle.std.specs.List.{AllByRecursion}
use Rattle.std.specs.List.Sorted.{IsStrictlySortedBy}
use Rattle.std.specs.Map.{lookup}
use Rattle.std.specs.BTreeMap.{is_at}
use Rattle.std.proofs.lemmas.Bool.{cond_both}
use Rattle.std.proofs.lemmas.Bool.Decides.{nat_tests}
use Rattle.std.proofs.lemmas.List.Elements.{All-from_recursion, recursion_from_All, Contains-append_right}
use Rattle.meter_address.specs.declared.address.Address.{Address}
use Rattle.meter_address.specs.Commission.{Commissioned}
use Rattle.input_check.specs.declared.hints.Note.{Note}
use Rattle.input_check.specs.Counting.{AreCounts, counted_at, was_counted, is_often, strangers_in}
use Rattle.input_check.specs.Noticing.{times, is_among, is_stranger, AreStrangers, rank_cmp, stranger_note, addresses, notes_on_unheard, AreHearingNotes}

-- ---- entries of addresses and counts

-- each entry behind its count
abbrev swapped : ℕ × ℕ → ℕ × ℕ
swapped e = (e.1, e.0)

abbrev counts_first : List (ℕ × ℕ) → List (ℕ × ℕ)
counts_first es = map swapped es

abbrev firsts : List (ℕ × ℕ) → List ℕ
firsts es = map (λ (e : ℕ × ℕ). e.0) es

abbrev seconds : List (ℕ × ℕ) → List ℕ
seconds es = map (λ (e : ℕ × ℕ). e.1) es

module _ (p : ℕ × ℕ → Bool) where
  below_kept : (P : ℕ → Type 0) (es : List (ℕ × ℕ)) → AllByRecursion P (firsts es)
      → AllByRecursion P (seconds (counts_first (filter p es)))
  below_kept P [] all = tt
  below_kept P (e ∷ es) all =
      let rest = below_kept P es all.1 in
      cond_both (p e) (e ∷ filter p es) (filter p es) (λ xs. AllByRecursion P (seconds (counts_first xs))) (λ _. (all.0, rest)) (λ _. rest)

  sorted_kept : (es : List (ℕ × ℕ)) → IsStrictlySortedBy nat_cmp (firsts es) → IsStrictlySortedBy nat_cmp (seconds (counts_first (filter p es)))
  unfolding IsStrictlySortedBy
  sorted_kept [] sorted = tt
  sorted_kept (e ∷ es) sorted =
      let rest = sorted_kept es sorted.1 in
      cond_both (p e) (e ∷ filter p es) (filter p es) (λ xs. IsStrictlySortedBy nat_cmp (seconds (counts_first xs)))
      (λ _. (below_kept (λ k. nat_cmp e.0 k ≡ Less) es sorted.0, rest)) (λ _. rest)

  each_kept : (P Q : ℕ × ℕ → Type 0) → ((e : ℕ × ℕ) → p e ≡ true → P e → Q (swapped e)) → (es : List (ℕ × ℕ)) → AllByRecursion P es
      → AllByRecursion Q (counts_first (filter p es))
  each_kept P Q gives [] all = tt
  each_kept P Q gives (e ∷ es) all =
      let rest = each_kept P Q gives es all.1 in
      cond_both (p e) (e ∷ filter p es) (filter p es) (λ xs. AllByRecursion Q (counts_first xs)) (λ passes. (gives e passes all.0, rest))
      (λ _. rest)

  -- an entry that is found, and passes, is kept
  module _ (a v : ℕ) (passes : p (a, v) ≡ true) (some : 1 ≤ v) where
    kept_here : (b : Bool) (e : ℕ × ℕ) (es : List (ℕ × ℕ)) → b ≡ true → e ≡ (a, v) → Contains (counts_first (cond b (e ∷ es) es)) (v, a)
    kept_here true e es passed is = (0, omega arith, ap swapped is)
    kept_here false e es never is = absurd cc

    key_is : (k : ℕ) → is_at (nat_cmp a) k ≡ true → k ≡ a
    key_is k same = grind (arith, nat_tests, same)

    by_test : (b : Bool) (e : ℕ × ℕ) (es : List (ℕ × ℕ)) → is_at (nat_cmp a) e.0 ≡ b
        → unwrap_or (cond b (Some e.1) (lookup (is_at (nat_cmp a)) es)) 0 ≡ v
        → (unwrap_or (lookup (is_at (nat_cmp a)) es) 0 ≡ v → Contains (counts_first (filter p es)) (v, a))
        → Contains (counts_first (cond (p e) (e ∷ filter p es) (filter p es))) (v, a)
    by_test true e es same found later =
        let is : e ≡ (a, v) = ap₂ (λ (x y : ℕ). (x, y)) (key_is e.0 same) found in
        kept_here (p e) e (filter p es) (ap p is ∙ passes) is
    by_test false e es other found later =
        cond_both (p e) (e ∷ filter p es) (filter p es) (λ xs. Contains (counts_first xs) (v, a))
        (λ _. Contains-append_right (swapped e ∷ []) (counts_first (filter p es)) (v, a) (later found)) (λ _. later found)

    found_kept : (es : List (ℕ × ℕ)) → counted_at es a ≡ v → Contains (counts_first (filter p es)) (v, a)
    found_kept [] found = absurd (omega (arith, found, some))
    found_kept (e ∷ es) found = by_test (is_at (nat_cmp a) e.0) e es refl found (found_kept es)

-- ---- strangers

module _ (heard meters : List Address) (hs ks : List (ℕ × ℕ)) (h : AreCounts heard hs) (k : AreCounts meters ks) where
  same_test : (a n : ℕ) → n ≡ times heard a → is_often ks (a, n) ≡ is_stranger heard meters a
  same_test a n is = ap₂ (λ (x y : ℕ). nat_le 3 x && y == 0) is (k a)

  at_least : (a : ℕ) → IsTrue (is_stranger heard meters a) → 1 ≤ times heard a
  at_least a stranger = grind (arith, nat_tests, stranger)

  pub are_strangers : IsStrictlySortedBy nat_cmp (firsts hs) → All (λ (e : ℕ × ℕ). lookup (is_at (nat_cmp e.0)) hs ≡ Some e.1) hs
      → AreStrangers heard meters (strangers_in hs ks)
  are_strangers sorted all = record {
    rising = sorted_kept (is_often ks) hs sorted;
    each = All-from_recursion (λ (s : ℕ × ℕ). IsTrue (is_stranger heard meters s.1) × (s.0 ≡ times heard s.1)) (strangers_in hs ks)
        (each_kept (is_often ks) (λ (e : ℕ × ℕ). lookup (is_at (nat_cmp e.0)) hs ≡ Some e.1)
        (λ (s : ℕ × ℕ). IsTrue (is_stranger heard meters s.1) × (s.0 ≡ times heard s.1))
        (λ e passes found.
        let is : e.1 ≡ times heard e.0 = sym (ap (λ o. unwrap_or o 0) found) ∙ h e.0 in (sym (same_test e.0 e.1 is) ∙ passes, is))
        hs (recursion_from_All (λ (e : ℕ × ℕ). lookup (is_at (nat_cmp e.0)) hs ≡ Some e.1) hs all));
    all = λ a stranger.
        found_kept (is_often ks) a (times heard a) (same_test a (times heard a) refl ∙ stranger) (at_least a stranger) hs (h a);
  }

-- what was counted is what is among the addresses
counted_so : (addresses : List Address) (entries : List (ℕ × ℕ)) → AreCounts addresses entries → was_counted entries ≡ is_among addresses
counted_so addresses entries counts = fun_ext (λ a. ap (λ n. nat_lt 0 n) (counts a.0))

-- the notes on what was heard, of what is made in turn
pub hearing_noted : (heard known : List Address) (meters : List Commissioned) (hs ks : List (ℕ × ℕ)) (unheard notes : List Note)
    (strangers ranked named : List (ℕ × ℕ)) → known ≡ addresses meters → AreCounts known ks → AreCounts heard hs
    → unheard ≡ notes_on_unheard (was_counted hs) (was_counted ks) meters
    → strangers ≡ strangers_in hs ks → IsStrictlySortedBy nat_cmp (firsts hs)
    → All (λ (e : ℕ × ℕ). lookup (is_at (nat_cmp e.0)) hs ≡ Some e.1) hs
    → IsPermutation strangers ranked → IsSorted rank_cmp ranked → named ≡ reverse ranked
    → notes ≡ unheard ++ map stranger_note (take 20 named) → AreHearingNotes heard meters notes
hearing_noted heard known meters hs ks unheard notes strangers ranked named known_are k h unheard_are strangers_are sorted found same rising
    named_are notes_are =
    let k' : AreCounts (addresses meters) ks = subst (λ all. AreCounts all ks) known_are k in record {
      strangers = strangers_in hs ks;
      ranked = ranked;
      are_strangers = are_strangers heard (addresses meters) hs ks h k' sorted found;
      same = subst (λ ss. IsPermutation ss ranked) strangers_are same;
      rising = rising;
      notes_are = notes_are ∙ ap₂ (λ (us : List Note) (ns : List (ℕ × ℕ)). us ++ map stranger_note (take 20 ns))
          (unheard_are ∙ ap₂ (λ (p q : Address → Bool). notes_on_unheard p q meters) (counted_so heard hs h) (counted_so (addresses meters) ks k'))
          named_are;
    }
