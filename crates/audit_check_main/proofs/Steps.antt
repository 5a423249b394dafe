-- A slot, and the strangers' list, stepped in the order of a printed list.
use Rattle.std.proofs.Common.{◌≡◌, ◌==◌, ℕ, zero, suc, ◌+◌, ◌-◌, ◌<◌, Bool, true, false, cond, List, [], ◌∷◌, ◌++◌, map, filter, reverse, length, take, drop, get_or, Option, Some, None, refl, sym, ap, ◌∙◌, subst, arith, append_assoc, length-append}
use Rattle.std.specs.List.{slice_get, filter_map, cons_option, enumerate_from}
use Rattle.std.proofs.lemmas.Bool.{eq-eqb, eqb-true, ne_eqb}
use Rattle.std.proofs.lemmas.List.{get_or-map, take_more, length-map}
use Rattle.std.proofs.Math.Seq.{take-length, split_at}
use Rattle.lists.specs.Each.{Each}
use Rattle.meter_address.specs.declared.address.Address.{Address}
use Rattle.meter_slots.specs.declared.entry.Entry.{Entry}
use Rattle.meter_slots.specs.declared.entry.Event.{Event}
use Rattle.meter_slots.specs.Journal.{Start, SlotView, Legal, outcome}
use Rattle.meter_slots.proofs.JournalLaws.{judged_at}
use Rattle.receivers.specs.declared.told.Told.{Told}
use Rattle.receivers.specs.declared.told.Told.TheVariants as told
use Rattle.receivers.specs.Orders.{IsOrderedSlot}
use Rattle.receivers.specs.Session.{heard_from, heard_by, event_at, lines_for}
use Rattle.receivers.specs.Told.{told_of}
use Rattle.audit_check_main.specs.Hearing.{HeardInput, tells, no_input, input_of, told_by_text, told_at}
use Rattle.audit_check_main.proofs.Compared.{get-there}

-- ---- receivers by their numbers

-- what the receiver with a number heard stands at its place
pub heard_at : (n v : ℕ) (all : List (List Told)) → heard_from n (n + v) all ≡ get_or all v []
heard_at n v [] = refl
heard_at n zero (heard ∷ all) = rw (eq-eqb n (n + 0) (omega arith)) refl
heard_at n (suc v) (heard ∷ all) =
    rw (ne_eqb n (n + suc v) (λ e. omega arith))
    (ap (λ w. heard_from (n + 1) w all) (let e : n + suc v ≡ n + 1 + v = omega arith in e) ∙ heard_at (n + 1) v all)

pub heard_none : (n : ℕ) (all : List (List Told)) → heard_from (suc n) 0 all ≡ []
heard_none n [] = refl
heard_none n (heard ∷ all) =
    rw (ne_eqb (suc n) 0 (λ e. omega arith))
    (ap (λ m. heard_from m 0 all) (let e : suc n + 1 ≡ suc (suc n) = omega arith in e) ∙ heard_none (suc n) all)

pub heard_suc : (v : ℕ) (all : List (List Told)) → heard_by (suc v) all ≡ get_or all v []
heard_suc v all = ap (λ w. heard_from 1 w all) (let e : suc v ≡ 1 + v = omega arith in e) ∙ heard_at 1 v all

tells_at : (heard : List HeardInput) (v : ℕ) → get_or (map tells heard) v [] ≡ tells (get_or heard v no_input)
tells_at [] v = refl
tells_at (h ∷ heard) zero = refl
tells_at (h ∷ heard) (suc v) = tells_at heard v

-- what a receiver's input tells
pub tells_of : (heard : List HeardInput) (w : ℕ) → heard_by w (map tells heard) ≡ tells (input_of heard w)
tells_of heard zero = heard_none 0 (map tells heard)
tells_of heard (suc v) = heard_suc v (map tells heard) ∙ tells_at heard v

-- ---- what the lines of a list tell

module _ {Y : Type 0} (f : ℕ × Told → Option (ℕ × Y)) (Fits : Told → Y → Type 0) (fits : (line : ℕ) (t : Told) (p : ℕ × Y)
    → f (line, t) ≡ Some p → (p.0 ≡ line) × Fits t p.1) where
  -- the line with this number tells what fits
  abbrev pub IsTold : List (List ℕ) → ℕ × Y → Type 0
  IsTold lines p = Fits (told_by_text (slice_get lines (p.0 - 1))) p.1

  each_line : (front rest : List (List ℕ)) (n : ℕ) → n ≡ length front + 1
      → Each (IsTold (front ++ rest)) (filter_map f (enumerate_from n (map told_of rest)))
  each_line front [] n e = tt
  each_line front (x ∷ rest) n e = at (f (n, told_of x)) refl
      (subst (λ l. Each (IsTold l) (filter_map f (enumerate_from (n + 1) (map told_of rest)))) (append_assoc front (x ∷ []) rest)
      (each_line (front ++ x ∷ []) rest (n + 1) (let l = length-append front (x ∷ []) in omega arith)))
    where
      at : (o : Option (ℕ × Y)) → f (n, told_of x) ≡ o
          → Each (IsTold (front ++ x ∷ rest)) (filter_map f (enumerate_from (n + 1) (map told_of rest)))
          → Each (IsTold (front ++ x ∷ rest)) (cons_option o (filter_map f (enumerate_from (n + 1) (map told_of rest))))
      at None e' later = later
      at (Some p) e' later =
          let h = fits n (told_of x) p e' in
          let place : p.0 - 1 ≡ length front = let s = h.0 in omega arith in
          (subst (λ o. Fits (told_by_text o) p.1) (sym (get-there front x rest (p.0 - 1) place)) h.1, later)

  pub all_lines_told : (lines : List (List ℕ)) → Each (IsTold lines) (filter_map f (enumerate_from 1 (map told_of lines)))
  all_lines_told lines = each_line [] lines 1 refl

-- ---- facts on all items of a list, from the parts of its receivers

module _ {X Y : Type 0} (source : X → ℕ) (pair : X → ℕ × Y) (P : ℕ → ℕ × Y → Type 0) where
  abbrev pub part : ℕ → List X → List (ℕ × Y)
  part w xs = map pair (filter (λ x. source x == w) xs)

  first_of : (x : X) (xs : List X) (w : ℕ) (b : Bool) → b ≡ true
      → Each (P w) (map pair (cond b (x ∷ filter (λ y. source y == w) xs) (filter (λ y. source y == w) xs))) → P w (pair x)
  first_of x xs w true e h = h.0
  first_of x xs w false e h = absurd cc

  rest_of : (x : X) (xs : List X) (w : ℕ) (b : Bool)
      → Each (P w) (map pair (cond b (x ∷ filter (λ y. source y == w) xs) (filter (λ y. source y == w) xs))) → Each (P w) (part w xs)
  rest_of x xs w true h = h.1
  rest_of x xs w false h = h

  pub of_all : (xs : List X) → ((w : ℕ) → Each (P w) (part w xs)) → Each (λ x. P (source x) (pair x)) xs
  of_all [] h = tt
  of_all (x ∷ xs) h = (
    first_of x xs (source x) (source x == source x) (eq-eqb (source x) (source x) refl) (h (source x)),
    of_all xs (λ w. rest_of x xs w (source x == w) (h w)),
  )

pub each_at : {X : Type 0} (P : X → Type 0) (xs : List X) (i : ℕ) (d : X) → i < length xs → Each P xs → P (get_or xs i d)
each_at P [] i d h all = absurd (omega arith)
each_at P (x ∷ xs) zero d h all = all.0
each_at P (x ∷ xs) (suc i) d h all = each_at P xs i d (omega arith) all.1

item_at : {X : Type 0} (i : ℕ) (xs : List X) → i < length xs → (x : X) × (x ≡ get_or xs i x)
item_at i [] h = absurd (omega arith)
item_at zero (x ∷ xs) h = (x, refl)
item_at (suc i) (x ∷ xs) h = item_at i xs (omega arith)

-- ---- items in a printed order, each of which its line tells

module _ {X Y : Type 0} (pair : X → ℕ × ℕ) (what : X → Y) (heard : List HeardInput) (Fits : Told → Y → Type 0)
    (order : List (ℕ × ℕ)) (target : List X) (in_order : map pair target ≡ order)
    (told : Each (λ x. Fits (told_at heard (pair x).0 (pair x).1) (what x)) target) where
  -- the item at a place, whose pair stands there in the order
  pub record StandsAt (i : ℕ) (p : ℕ × ℕ) : Type 0 where
    pub item : X
    pub item_is : item ≡ get_or target i item
    pub inside : i < length target
    pub pair_is : p ≡ pair item
    pub told_is : Fits (told_at heard p.0 p.1) (what item)

  pub as_long : length order ≡ length target
  as_long = sym (ap length in_order) ∙ length-map target pair

  pub stands_at : (i : ℕ) (p : ℕ × ℕ) → i < length order → p ≡ get_or order i (0, 0) → StandsAt i p
  stands_at i p inside is =
      let long = as_long in
      let within : i < length target = omega arith in
      let found = item_at i target within in
      let same : p ≡ pair found.0 = is ∙ (ap (λ o. get_or o i (0, 0)) (sym in_order)
      ∙ (get_or-map pair target i found.0 (0, 0) within ∙ ap pair (sym found.1))) in
      record {
        item = found.0;
        item_is = found.1;
        inside = within;
        pair_is = same;
        told_is = subst (λ q. Fits (told_at heard q.0 q.1) (what found.0)) (sym same)
            (subst (λ x. Fits (told_at heard (pair x).0 (pair x).1) (what x)) (sym found.1)
            (each_at (λ x. Fits (told_at heard (pair x).0 (pair x).1) (what x)) target i found.0 within told));
      }

  -- one item more
  pub taken_next : (i : ℕ) (p : ℕ × ℕ) (at : StandsAt i p) (x : X) → x ≡ at.item → take i target ++ x ∷ [] ≡ take (i + 1) target
  taken_next i p at x is = ap (λ y. take i target ++ y ∷ []) (is ∙ at.item_is) ∙ sym (take_more target i at.item at.inside)

-- ---- a meter's slot

-- a line tells this for an address
abbrev pub HasEvent : Address → Told → Event → Type 0
HasEvent a t event = (address : Address) × ((t ≡ told.Event address event) × (a.0 ≡ address.0))

event_if : (a : Address) (b : Bool) (line : ℕ) (address : Address) (event : Event) (p : ℕ × Event) → (a.0 == address.0) ≡ b
    → cond b (Some (line, event)) None ≡ Some p → (p.0 ≡ line) × HasEvent a (told.Event address event) p.1
event_if a true line address event p is e =
    let same : (line, event) ≡ p = cc in (
      sym (ap (λ (q : ℕ × Event). q.0) same),
      (address, (ap (told.Event address) (ap (λ (q : ℕ × Event). q.1) same), eqb-true a.0 address.0 is)),
    )
event_if a false line address event p is e = absurd cc

event_fits : (a : Address) (line : ℕ) (t : Told) (p : ℕ × Event) → event_at a line t ≡ Some p → (p.0 ≡ line) × HasEvent a t p.1
event_fits a line (told.Event address event) p e = event_if a (a.0 == address.0) line address event p refl e
event_fits a line _ p e = absurd cc

-- what an entry's line is, and what it tells
abbrev pub entry_pair : Entry → ℕ × ℕ
entry_pair x = (x.source, x.line)

module _ (own : Address) (heard : List HeardInput) (c : Start) (order : List (ℕ × ℕ)) (target : SlotView)
    (h : IsOrderedSlot own (map tells heard) c order target) where
  pub entry_told : Each (λ (x : Entry). HasEvent c.address (told_at heard x.source x.line) x.event) target.journal
  entry_told =
      of_all (λ (x : Entry). x.source) (λ (x : Entry). (x.line, x.event)) (λ w p. HasEvent c.address (told_at heard w p.0) p.1)
      target.journal
      (λ w. subst (Each (λ (p : ℕ × Event). HasEvent c.address (told_at heard w p.0) p.1))
      (sym (h.meters.lines w ∙ ap (lines_for c.address) (tells_of heard w)))
      (all_lines_told (λ l. event_at c.address l.0 l.1) (HasEvent c.address) (event_fits c.address) (input_of heard w).lines))

  pub step_told : (i : ℕ) (pair : ℕ × ℕ) → i < length order → pair ≡ get_or order i (0, 0)
      → StandsAt entry_pair (λ (x : Entry). x.event) heard (HasEvent c.address) order target.journal h.in_order entry_told i pair
  step_told = stands_at entry_pair (λ (x : Entry). x.event) heard (HasEvent c.address) order target.journal h.in_order entry_told

  pub step_more : (i : ℕ) (pair : ℕ × ℕ) (address : Address) (event : Event) → i < length order → pair ≡ get_or order i (0, 0)
      → told_at heard pair.0 pair.1 ≡ told.Event address event
      → take i target.journal
      ++ record { source = pair.0; line = pair.1; event = event; outcome = outcome c own (reverse (take i target.journal)) event } ∷ []
      ≡ take (i + 1) target.journal
  step_more i pair address event inside is tells_event =
      let at = step_told i pair inside is in
      let both : told.Event address event ≡ told.Event at.told_is.0 at.item.event = sym tells_event ∙ at.told_is.1.0 in
      let event_is : event ≡ at.item.event = cc in
      let cut : target.journal ≡ take i target.journal ++ at.item ∷ drop (suc i) target.journal =
      split_at target.journal i at.item at.inside ∙ ap (λ x. take i target.journal ++ x ∷ drop (suc i) target.journal) (sym at.item_is) in
      let legal = judged_at c own (take i target.journal) at.item (drop (suc i) target.journal) (subst (Legal c own) cut h.meters.legal) in
      taken_next entry_pair (λ (x : Entry). x.event) heard (HasEvent c.address) order target.journal h.in_order entry_told i pair at _
      (λ j. record {
        source = (at.pair_is j).0;
        line = (at.pair_is j).1;
        event = event_is j;
        outcome = (ap (outcome c own (reverse (take i target.journal))) event_is ∙ sym legal.0) j;
      })

  -- all entries are those of the slot
  pub all_stepped : (n : ℕ) → n ≡ length order → record { own = own; start = c; journal = take n target.journal } ≡ target
  all_stepped n e = λ i. record {
    own = sym h.meters.own_is i;
    start = sym h.meters.commission_is i;
    journal = (ap (λ m. take m target.journal) (e ∙ (sym (ap length h.in_order) ∙ length-map target.journal entry_pair))
        ∙ take-length target.journal) i;
  }
