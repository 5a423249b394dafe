-- A number handed out by all roots.
use Rattle.std.proofs.Common.{◌≡◌, ℕ, ◌+◌, ◌<◌, ◌≤◌, ◌==◌, ◌||◌, false, ◌^◌, Fits, w32, List, [], ◌∷◌, ◌++◌, length, refl, sym, ap, ◌∙◌, subst, arith, map, append_assoc, length-append}
use Rattle.std.proofs.lemmas.Bool.Decides.{nat_tests}
use Rattle.meter_address.specs.declared.address.Address.{Address}
use Rattle.meter_slots.specs.declared.entry.Event.{Event}
use Rattle.meter_slots.specs.declared.entry.Outcome.{Outcome}
use Rattle.lists.specs.Each.{Each}
use Rattle.book_cells.specs.Acts.{Shown, CellShown, IsPassOf, is_among, HasHanded, IsSplitOff}
use Rattle.lists.proofs.Members.{each_map, each_append}
use Rattle.receivers.specs.Passes.{Crew, ArePassesOf}
use Rattle.receivers.specs.Roots.{CanHand, Handing}
use Rattle.receivers.specs.Crews.{IsFreshPass, IsRoot, IsCrew, AreCrews, AreRoots}

not_above : (n : ℕ) (most : ℕ) (ks : List ℕ) → Each (λ k. (n < k) × (k ≤ most)) ks → is_among n ks ≡ false
not_above n most [] h = refl
not_above n most (k ∷ ks) h = let less = h.0.0 in
    let t : (k == n) ≡ false = grind (arith, nat_tests) in ap (λ b. b || is_among n ks) t ∙ not_above n most ks h.1

module _ {O C R : Type 0} where
  pub can_hand : (source most : ℕ) (p : Shown O C R) → 0 < source → IsRoot source most p → CanHand source p
  can_hand source most p some h = record {
    is_first = h.is_first;
    unused = let t : (p.number == source) ≡ false = (let z = h.number in grind (arith, nat_tests)) in
        ap (λ b. b || is_among source p.handed) t ∙ not_above source most p.handed h.handed;
  }

  pub still_root : (least source most : ℕ) (p q : Shown O C R) → least + 1 ≡ source → source ≤ most → IsRoot source most p
      → HasHanded source p q → IsRoot least most q
  still_root least source most p q next inside h handed = record {
    number = handed.same.2 ∙ h.number;
    is_first = handed.same.3 ∙ h.is_first;
    own = handed.own ∙ h.own;
    joined = handed.joined ∙ h.joined;
    handed = subst (Each (λ n. (least < n) × (n ≤ most))) (sym handed.handed)
        (each_append (λ (n : ℕ). (least < n) × (n ≤ most)) p.handed (source ∷ [])
        (each_map (λ (n : ℕ). (source < n) × (n ≤ most)) (λ (n : ℕ). (least < n) × (n ≤ most))
        (λ n t. (let a = t.0 in omega arith, t.1)) p.handed h.handed) ((omega arith, inside), tt));
  }

  pub fresh_pass : (source : ℕ) (p q : Shown O C R) → IsSplitOff source p q → IsFreshPass source q
  fresh_pass source p q h = record { number = h.number; not_first = h.not_first; own = h.own; joined = h.joined }

module _ {O P : Type 0} (cells : List (CellShown O)) (strangers : CellShown P) (source : ℕ)
    (roots roots' passes : List (Shown O Event Outcome)) (s s' t : Shown P Address Unit) (h : Handing source roots roots' passes)
    (many : length passes ≡ length roots) where
  pub still_roots : (least most : ℕ) → least + 1 ≡ source → source ≤ most → ArePassesOf cells roots' → IsPassOf strangers s'
      → HasHanded source s s' → AreRoots cells strangers source most roots s → AreRoots cells strangers least most roots' s'
  still_roots least most next inside of sof handed r = record {
    each_cell = of;
    strangers_cell = sof;
    each = λ k d l. let as_many =
        h.as_many in still_root least source most _ _ next inside (r.each k d (omega arith)) (h.handed k d (omega arith));
    stranger = still_root least source most s s' next inside r.stranger handed;
  }

-- one more receiver is taken from the end, and its passes stand before the others'
module _ {W X O P : Type 0} (cells : List (CellShown O)) (strangers : CellShown P) (crew_of : W → Crew O P) (receiver_of : W
    → X) (w : W) (old new : List W) (new_is : new ≡ w ∷ old) where
  pub hires_crews : (n n' source : ℕ) → n ≡ n' + 1 → source ≡ n' + 1 → IsCrew cells strangers source (crew_of w)
      → AreCrews cells strangers (n + 1) (map crew_of old) → AreCrews cells strangers (n' + 1) (map crew_of new)
  hires_crews n n' source e f is others = subst (λ (l : List W). AreCrews cells strangers (n' + 1) (map crew_of l)) (sym new_is) (
    subst (λ (k : ℕ). IsCrew cells strangers k (crew_of w)) f is,
    subst (λ (k : ℕ). AreCrews cells strangers (k + 1) (map crew_of old)) e others,
  )

  pub hires_receivers : (all left left' : List X) (x : X) → left ≡ left' ++ x ∷ [] → receiver_of w ≡ x → all ≡ left ++ map receiver_of old
      → all ≡ left' ++ map receiver_of new
  hires_receivers all left left' x left_is is h =
      h ∙ (ap (λ l. l ++ map receiver_of old) left_is ∙ (append_assoc left' (x ∷ []) (map receiver_of old)
      ∙ ((λ i. left' ++ sym is i ∷ map receiver_of old) ∙ ap (λ (l : List W). left' ++ map receiver_of l) (sym new_is))))

-- where few were taken, the place of one that is left fits 32 bits, and its number does
pub few_left : {X : Type 0} (all left rest : List X) (many place : ℕ) → all ≡ left ++ rest → many ≡ length all → many < 2 ^ 32
    → length left ≡ place + 1 → Fits w32 place × Fits w32 (place + 1)
few_left all left rest many place is m few n =
    let l = ap length is in let p = length-append left rest in (omega arith, omega arith)
