-- The numbers of a session's receivers and lines fit 32 bits, so that the text of its report tells its order.
use Rattle.std.proofs.Common.{◌≡◌, ◌⊎◌, ◌==◌, ℕ, ◌+◌, ◌<◌, ◌≤◌, ◌^◌, Bool, true, false, cond, List, [], ◌∷◌, map, filter, length, Option, Some, None, inl, inr, ⊎_elim, refl, sym, ap, ◌∙◌, subst, arith}
use Rattle.std.specs.List.{All, filter_map, cons_option, enumerate_from}
use Rattle.std.proofs.Common.{eq-eqb}
use Rattle.std.proofs.lemmas.Bool.{eqb-true}
use Rattle.std.proofs.lemmas.List.Elements.{All-nil, All-cons}
use Rattle.lists.specs.Each.{Each, EachWith}
use Rattle.lists.proofs.Choices.{some_if}
use Rattle.lists.proofs.Members.{with_fold}
use Rattle.meter_address.specs.declared.address.Address.{Address}
use Rattle.meter_slots.specs.declared.entry.Entry.{Entry}
use Rattle.meter_slots.specs.declared.entry.Event.{Event}
use Rattle.meter_slots.specs.Journal.{Start, SlotView}
use Rattle.meter_slots.specs.World.{WorldView, is_commissioned}
use Rattle.stranger_ring.specs.declared.strangers.Heard.{Heard}
use Rattle.receivers.specs.declared.told.Told.{Told}
use Rattle.receivers.specs.declared.told.Told.TheVariants as told
use Rattle.receivers.specs.Session.{heard_from, heard_by, event_at, lines_for, stranger_at, lines_of_strangers, IsMetersSlot, IsSession}
use Rattle.report_text.specs.declared.lent.ReceiverEnd.{ReceiverEnd}
use Rattle.report_text.specs.Orders.{orders}
use Rattle.report_text.specs.OrdersLaw.{IsCounted, order_of, orders_of, place_of_step, place_of_stranger}
use Rattle.report_text.specs.Report.{report_text}
use Rattle.report_text.proofs.LineReport.{report_orders}

-- ---- items that each receiver's part has

-- what two lists have in common with a third one
pub with_meet : {A B C : Type 0} (P : A → B → Type 0) (Q : A → C → Type 0) (xs : List A) (ys : List B) (zs : List C) → EachWith P xs ys
    → EachWith Q xs zs → EachWith (λ y z. (x : A) × P x y × Q x z) ys zs
with_meet P Q [] [] [] one two = tt
with_meet P Q [] (y ∷ ys) zs one two = absurd one
with_meet P Q (x ∷ xs) [] zs one two = absurd one
with_meet P Q (x ∷ xs) (y ∷ ys) (z ∷ zs) one two = ((x, one.0, two.0), with_meet P Q xs ys zs one.1 two.1)
with_meet P Q _ _ _ one two = absurd two

module _ {X Y : Type 0} (source line : X → ℕ) (what : X → Y) where
  abbrev pub part : ℕ → List X → List X
  part w xs = filter (λ x. source x == w) xs

  abbrev pub pair_of : X → ℕ × Y
  pair_of x = (line x, what x)

  abbrev told_so : ℕ → List X → List (ℕ × Y)
  told_so w xs = map pair_of (part w xs)

  abbrev Fits : X → Type 0
  Fits x = (source x < 2 ^ 32) × (line x < 2 ^ 32)

  cut_first : (P : X → Type 0) (x : X) (rest : List X) (b : Bool) → Each P (cond b (x ∷ rest) rest) → (b ≡ true → P x) × Each P rest
  cut_first P x rest true h = (λ e. h.0, h.1)
  cut_first P x rest false h = (λ e. absurd cc, h)

  pub from_parts : (P : X → Type 0) (xs : List X) → ((w : ℕ) → Each P (part w xs)) → Each P xs
  from_parts P [] h = tt
  from_parts P (x ∷ xs) h = (
    (cut_first P x (part (source x) xs) (source x == source x) (h (source x))).0 (eq-eqb (source x) (source x) refl),
    from_parts P xs (λ w. (cut_first P x (part w xs) (source x == w) (h w)).1),
  )

  pub of_source : (w : ℕ) (xs : List X) → Each (λ x. source x ≡ w) (part w xs)
  of_source w [] = tt
  of_source w (x ∷ xs) = at (source x == w) refl (of_source w xs)
    where
      at : (b : Bool) → (source x == w) ≡ b → Each (λ y. source y ≡ w) (part w xs)
          → Each (λ y. source y ≡ w) (cond b (x ∷ part w xs) (part w xs))
      at true e rest = (eqb-true (source x) w e, rest)
      at false e rest = rest

  fit_together : (w : ℕ) → w < 2 ^ 32 → (xs : List X) → Each (λ x. source x ≡ w) xs → Each (λ (p : ℕ × Y). p.0 < 2 ^ 32) (map pair_of xs)
      → Each Fits xs
  fit_together w small [] from few = tt
  fit_together w small (x ∷ xs) from few = ((omega (arith, from.0), few.0), fit_together w small xs from.1 few.1)

  pub none_mapped : (xs : List X) → map pair_of xs ≡ [] → xs ≡ []
  none_mapped [] e = refl
  none_mapped (x ∷ xs) e = absurd cc

  part_fits : (w : ℕ) (xs : List X) (lines : List (ℕ × Y)) → told_so w xs ≡ lines → Each (λ (p : ℕ × Y). p.0 < 2 ^ 32) lines
      → (w < 2 ^ 32) ⊎ (lines ≡ []) → Each Fits (part w xs)
  part_fits w xs lines is few known =
      ⊎_elim (λ small. fit_together w small (part w xs) (of_source w xs) (subst (Each (λ (p : ℕ × Y). p.0 < 2 ^ 32)) (sym is) few))
      (λ none. subst (Each Fits) (sym (none_mapped (part w xs) (is ∙ none))) tt) known

  all_fit : (lines : ℕ → List (ℕ × Y)) (xs : List X) → ((w : ℕ) → told_so w xs ≡ lines w)
      → ((w : ℕ) → Each (λ (p : ℕ × Y). p.0 < 2 ^ 32) (lines w))
      → ((w : ℕ) → (w < 2 ^ 32) ⊎ (lines w ≡ [])) → Each Fits xs
  all_fit lines xs is few known = from_parts Fits xs (λ w. part_fits w xs (lines w) (is w) (few w) (known w))

-- ---- numbers of lines

module _ {Y : Type 0} (f : ℕ × Told → Option (ℕ × Y)) (keeps : (l : ℕ × Told) (p : ℕ × Y) → f l ≡ Some p → p.0 ≡ l.0) where
  few_lines : (n : ℕ) (heard : List Told) → n + length heard ≤ 2 ^ 32
      → Each (λ (p : ℕ × Y). p.0 < 2 ^ 32) (filter_map f (enumerate_from n heard))
  few_lines n [] few = tt
  few_lines n (t ∷ heard) few = at (f (n, t)) refl (few_lines (n + 1) heard (omega arith))
    where
      at : (o : Option (ℕ × Y)) → f (n, t) ≡ o → Each (λ (p : ℕ × Y). p.0 < 2 ^ 32) (filter_map f (enumerate_from (n + 1) heard))
          → Each (λ (p : ℕ × Y). p.0 < 2 ^ 32) (cons_option o (filter_map f (enumerate_from (n + 1) heard)))
      at None e later = later
      at (Some p) e later = let same = keeps (n, t) p e in (omega (arith, same), later)

if_some : {Y : Type 0} (b : Bool) (line : ℕ) (y : Y) (p : ℕ × Y) → cond b (Some (line, y)) None ≡ Some p → p.0 ≡ line
if_some b line y p e = sym (ap (λ (q : ℕ × _). q.0) (some_if b (line, y) p e).1)

if_none : {Y : Type 0} (b : Bool) (line : ℕ) (y : Y) (p : ℕ × Y) → cond b None (Some (line, y)) ≡ Some p → p.0 ≡ line
if_none true line y p e = absurd cc
if_none false line y p e = if_some true line y p e

keeps_event : (a : Address) (l : ℕ × Told) (p : ℕ × Event) → event_at a l.0 l.1 ≡ Some p → p.0 ≡ l.0
keeps_event a (line, told.Event address event) p e = if_some (a.0 == address.0) line event p e
keeps_event a (line, _) p e = absurd cc

keeps_stranger : (cs : List Start) (l : ℕ × Told) (p : ℕ × Address) → stranger_at cs l.0 l.1 ≡ Some p → p.0 ≡ l.0
keeps_stranger cs (line, told.Event address event) p e = if_none (is_commissioned cs address) line address p e
keeps_stranger cs (line, _) p e = absurd cc

-- ---- numbers of receivers

no_receiver : (n w : ℕ) (all : List (List Told)) → n + length all ≤ 2 ^ 32 → (w < 2 ^ 32) ⊎ (heard_from n w all ≡ [])
no_receiver n w [] few = inr refl
no_receiver n w (heard ∷ all) few = at (n == w) refl (no_receiver (n + 1) w all (omega arith))
  where
    at : (b : Bool) → (n == w) ≡ b → (w < 2 ^ 32) ⊎ (heard_from (n + 1) w all ≡ [])
        → (w < 2 ^ 32) ⊎ (cond b heard (heard_from (n + 1) w all) ≡ [])
    at true e later = inl (let same = eqb-true n w e in omega (arith, same))
    at false e later = later

few_of : (n w : ℕ) (all : List (List Told)) → Each (λ heard. length heard < 2 ^ 32) all → length (heard_from n w all) < 2 ^ 32
few_of n w [] few = omega arith
few_of n w (heard ∷ all) few = at (n == w) (few_of (n + 1) w all few.1)
  where
    at : (b : Bool) → length (heard_from (n + 1) w all) < 2 ^ 32 → length (cond b heard (heard_from (n + 1) w all)) < 2 ^ 32
    at true later = few.0
    at false later = later

-- ---- the session

each_placed : {X : Type 0} (place : X → ℕ × ℕ) (xs : List X) → Each (λ x. IsCounted (place x)) xs → All IsCounted (map place xs)
each_placed place [] h = All-nil IsCounted
each_placed place (x ∷ xs) h = All-cons IsCounted (place x) (map place xs) h.0 (each_placed place xs h.1)

module _ (own : Address) (all : List (List Told)) (few : length all < 2 ^ 32) (short : Each (λ heard. length heard < 2 ^ 32) all) where
  none_there : {Y : Type 0} (f : ℕ × Told → Option (ℕ × Y)) (w : ℕ) → (w < 2 ^ 32) ⊎ (filter_map f (enumerate_from 1 (heard_by w all)) ≡ [])
  none_there f w = ⊎_elim (λ small. inl small) (λ none. inr (ap (λ h. filter_map f (enumerate_from 1 h)) none))
      (no_receiver 1 w all (omega arith))

  slot_counted : (c : Start) (b : SlotView) → IsMetersSlot own all c b → All IsCounted (order_of b)
  slot_counted c b slot =
      each_placed place_of_step b.journal
      (all_fit (λ (x : Entry). x.source) (λ (x : Entry). x.line) (λ (x : Entry). x.event) (λ w. lines_for c.address (heard_by w all))
      b.journal slot.lines
      (λ w. few_lines (λ l. event_at c.address l.0 l.1) (keeps_event c.address) 1 (heard_by w all) (omega (arith, few_of 1 w all short)))
      (none_there (λ l. event_at c.address l.0 l.1)))

  pub slots_counted : (cs : List Start) (slots : List SlotView) → EachWith (IsMetersSlot own all) cs slots
      → All (λ order. All IsCounted order) (map order_of slots)
  slots_counted = with_fold (IsMetersSlot own all) (λ cs slots. All (λ order. All IsCounted order) (map order_of slots))
      (All-nil (λ order. All IsCounted order))
      (λ c b cs slots slot each later. All-cons (λ order. All IsCounted order) (order_of b) (map order_of slots) (slot_counted c b slot) later)

  pub strangers_counted : (cs : List Start) (world : WorldView) → IsSession own cs all world
      → All IsCounted (map place_of_stranger world.strangers)
  strangers_counted cs world session =
      each_placed place_of_stranger world.strangers
      (all_fit (λ (h : Heard). h.source) (λ (h : Heard). h.line) (λ (h : Heard). h.address) (λ w. lines_of_strangers cs (heard_by w all))
      world.strangers session.strangers
      (λ w. few_lines (λ l. stranger_at cs l.0 l.1) (keeps_stranger cs) 1 (heard_by w all) (omega (arith, few_of 1 w all short)))
      (none_there (λ l. stranger_at cs l.0 l.1)))

  -- the text of a session's report tells the session's order
  pub order_is_told : (cs : List Start) (world : WorldView) (ends : List ReceiverEnd) → IsSession own cs all world
      → orders (report_text ends world.slots world.strangers) ≡ orders_of world.slots world.strangers
  order_is_told cs world ends session =
      report_orders ends world.slots world.strangers (slots_counted cs world.slots session.meters) (strangers_counted cs world session)
