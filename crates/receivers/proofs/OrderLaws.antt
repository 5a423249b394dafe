-- The order of a journal fixes it, and each order of a meter's own lines has a journal; the same of the strangers' list.
use Rattle.std.proofs.Common.{◌≡◌, ◌==◌, ℕ, List, [], ◌∷◌, map, filter, Bool, true, false, cond, if◌then◌else◌, refl, sym, ap, ◌∙◌, eq-eqb}
use Rattle.std.proofs.lemmas.Bool.{eqb-true}
use Rattle.std.proofs.lemmas.List.{map-id}
use Rattle.std.proofs.lemmas.Simd.{map-map}
use Rattle.lists.proofs.Places.{head_is, tail_is}
use Rattle.meter_address.specs.declared.address.Address.{Address}
use Rattle.meter_slots.specs.declared.entry.Entry.{Entry}
use Rattle.meter_slots.specs.declared.entry.Event.{Event}
use Rattle.meter_slots.specs.Journal.{Start, SlotView}
use Rattle.meter_slots.specs.Laws.{call_in}
use Rattle.meter_slots.specs.World.{Call, journal_of}
use Rattle.meter_slots.proofs.JournalLaws.{journal_is, journal_of_legal}
use Rattle.stranger_ring.specs.declared.strangers.Heard.{Heard}
use Rattle.receivers.specs.declared.told.Told.{Told}
use Rattle.receivers.specs.Orders.{order_of, numbers_by, IsOrderOf, IsOrderedSlot, order_of_strangers, IsOrderOfStrangers, AreOrderedStrangers}
use Rattle.receivers.specs.Session.{heard_by, lines_for, lines_of_strangers, entries_by, steps_by, notes_by, IsMetersSlot}
use Rattle.receivers.proofs.OneSession.{journal_calls}
use Rattle.receivers.proofs.Picked.{map_if, filter-map}

-- ---- numbered things of receivers: a receiver, a number, and what it is

module _ {E : Type 0} where
  abbrev in_order_of : List (ℕ × ℕ × E) → List (ℕ × ℕ)
  in_order_of things = map (λ t. (t.0, t.1)) things

  -- those of one receiver
  abbrev by_one : ℕ → List (ℕ × ℕ × E) → List (ℕ × E)
  by_one w things = map (λ t. (t.1, t.2)) (filter (λ t. t.0 == w) things)

  first_by : (w : ℕ) (t : ℕ × ℕ × E) (ts : List (ℕ × ℕ × E)) (b : Bool) → (t.0 == w) ≡ b
      → by_one w (t ∷ ts) ≡ cond b ((t.1, t.2) ∷ by_one w ts) (by_one w ts)
  first_by w t ts b e = map_if (λ (s : ℕ × ℕ × E). (s.1, s.2)) (t.0 == w) t (filter (λ (s : ℕ × ℕ × E). s.0 == w) ts)
      ∙ ap (λ c. cond c ((t.1, t.2) ∷ by_one w ts) (by_one w ts)) e

  -- those of one receiver, of what is made of a list
  pub by_made : {A : Type 0} (f : A → ℕ × ℕ × E) (w : ℕ) (xs : List A)
      → by_one w (map f xs) ≡ map (λ x. ((f x).1, (f x).2)) (filter (λ x. (f x).0 == w) xs)
  by_made f w xs = ap (map (λ (s : ℕ × ℕ × E). (s.1, s.2))) (filter-map (λ (s : ℕ × ℕ × E). s.0 == w) f xs)
      ∙ map-map (λ (s : ℕ × ℕ × E). (s.1, s.2)) f (filter (λ x. (f x).0 == w) xs)

  -- an order, and what each receiver has, fix the list
  one_list : (xs ys : List (ℕ × ℕ × E)) → in_order_of xs ≡ in_order_of ys → ((w : ℕ) → by_one w xs ≡ by_one w ys) → xs ≡ ys
  one_list [] [] same parts = refl
  one_list (x ∷ xs) (y ∷ ys) same parts =
      let pair : (x.0, x.1) ≡ (y.0, y.1) = head_is _ _ _ _ same in
      let source : x.0 ≡ y.0 = ap (λ (p : ℕ × ℕ). p.0) pair in
      let line : x.1 ≡ y.1 = ap (λ (p : ℕ × ℕ). p.1) pair in
      let here = sym (first_by x.0 x xs true (eq-eqb x.0 x.0 refl))
      ∙ (parts x.0 ∙ first_by x.0 y ys true (ap (λ s. s == x.0) (sym source) ∙ eq-eqb x.0 x.0 refl)) in
      let what : x.2 ≡ y.2 = ap (λ (p : ℕ × E). p.1) (head_is _ _ _ _ here) in
      let head : x ≡ y = (λ i. (source i, line i, what i)) in
      (λ i. head i ∷ one_list xs ys (tail_is _ _ _ _ same) (λ w. rest_of w (x.0 == w) refl source) i)
    where
      rest_of : (w : ℕ) (b : Bool) → (x.0 == w) ≡ b → x.0 ≡ y.0 → by_one w xs ≡ by_one w ys
      rest_of w true e source =
          tail_is _ _ _ _ (sym (first_by w x xs true e) ∙ (parts w ∙ first_by w y ys true (ap (λ s. s == w) (sym source) ∙ e)))
      rest_of w false e source = sym (first_by w x xs false e) ∙ (parts w ∙ first_by w y ys false (ap (λ s. s == w) (sym source) ∙ e))
  one_list _ _ same parts = absurd cc

  -- what all receivers have, but of w this rest
  abbrev with_rest : (ℕ → List (ℕ × E)) → ℕ → List (ℕ × E) → ℕ → List (ℕ × E)
  with_rest lists w rest v = if w == v then rest else lists v

  record IsListOf (order : List (ℕ × ℕ)) (lists : ℕ → List (ℕ × E)) (things : List (ℕ × ℕ × E)) : Type 0 where
    in_order : in_order_of things ≡ order
    parts : (w : ℕ) → by_one w things ≡ lists w

  -- an order of what the receivers have has a list
  list_exists : (order : List (ℕ × ℕ)) (lists : ℕ → List (ℕ × E)) → ((w : ℕ) → numbers_by w order ≡ map (λ (l : ℕ × E). l.0) (lists w))
      → (things : List (ℕ × ℕ × E)) × IsListOf order lists things
  list_exists [] lists fits = ([], record { in_order = refl; parts = λ w. sym (nothing (lists w) (sym (fits w))) })
    where
      nothing : (l : List (ℕ × E)) → map (λ (x : ℕ × E). x.0) l ≡ [] → l ≡ []
      nothing [] e = refl
      nothing (x ∷ xs) e = absurd cc
  list_exists (p ∷ order) lists fits = first (list_exists order) (lists p.0) refl
    where
      numbers : (w : ℕ) (b : Bool) → (p.0 == w) ≡ b → numbers_by w (p ∷ order) ≡ cond b (p.1 ∷ numbers_by w order) (numbers_by w order)
      numbers w b e = map_if (λ (q : ℕ × ℕ). q.1) (p.0 == w) p (filter (λ (q : ℕ × ℕ). q.0 == w) order)
          ∙ ap (λ c. cond c (p.1 ∷ numbers_by w order) (numbers_by w order)) e

      here : numbers_by p.0 (p ∷ order) ≡ p.1 ∷ numbers_by p.0 order
      here = numbers p.0 true (eq-eqb p.0 p.0 refl)

      first : ((ls : ℕ → List (ℕ × E)) → ((w : ℕ) → numbers_by w order ≡ map (λ (l : ℕ × E). l.0) (ls w))
          → (things : List (ℕ × ℕ × E)) × IsListOf order ls things)
          → (l : List (ℕ × E)) → lists p.0 ≡ l → (things : List (ℕ × ℕ × E)) × IsListOf (p ∷ order) lists things
      first go [] is = absurd (let none = sym here ∙ (fits p.0 ∙ ap (map (λ (x : ℕ × E). x.0)) is) in cc)
      first go (x ∷ xs) is =
          let all : p.1 ∷ numbers_by p.0 order ≡ x.0 ∷ map (λ (y : ℕ × E). y.0) xs =
          sym here ∙ (fits p.0 ∙ ap (map (λ (y : ℕ × E). y.0)) is) in
          let rest = go (with_rest lists p.0 xs) (λ w. rest_fits xs all w (p.0 == w) refl) in
          let t : ℕ × ℕ × E = (p.0, p.1, x.1) in (
            t ∷ rest.0,
            record {
              in_order = ap (λ l. p ∷ l) rest.1.in_order;
              parts = λ w. part x xs is (head_is _ _ _ _ all) rest.0 rest.1.parts w (p.0 == w) refl;
            },
          )
        where
          rest_fits : (xs : List (ℕ × E)) → p.1 ∷ numbers_by p.0 order ≡ x.0 ∷ map (λ (y : ℕ × E). y.0) xs → (w : ℕ) (b : Bool)
              → (p.0 == w) ≡ b → numbers_by w order ≡ map (λ (y : ℕ × E). y.0) (with_rest lists p.0 xs w)
          rest_fits xs all w true e =
              let same : p.0 ≡ w = eqb-true p.0 w e in
              ap (λ v. numbers_by v order) (sym same)
              ∙ (tail_is _ _ _ _ all ∙ ap (λ b. map (λ (y : ℕ × E). y.0) (cond b xs (lists w))) (sym e))
          rest_fits xs all w false e = sym (numbers w false e) ∙ (fits w ∙ ap (λ b. map (λ (y : ℕ × E). y.0) (cond b xs (lists w))) (sym e))

          part : (x : ℕ × E) (xs : List (ℕ × E)) → lists p.0 ≡ x ∷ xs → p.1 ≡ x.0 → (things : List (ℕ × ℕ × E))
              → ((w : ℕ) → by_one w things ≡ with_rest lists p.0 xs w) → (w : ℕ) (b : Bool) → (p.0 == w) ≡ b
              → by_one w ((p.0, p.1, x.1) ∷ things) ≡ lists w
          part x xs is number things parts w true e =
              first_by w (p.0, p.1, x.1) things true e
              ∙ ((λ i. (number i, x.1) ∷ (parts w ∙ ap (λ b. cond b xs (lists w)) e) i) ∙ (sym is ∙ ap lists (eqb-true p.0 w e)))
          part x xs is number things parts w false e =
              first_by w (p.0, p.1, x.1) things false e ∙ (parts w ∙ ap (λ b. cond b xs (lists w)) e)

-- ---- journals

abbrev thing_of : Call → ℕ × ℕ × Event
thing_of k = (k.source, k.line, k.event)

abbrev call_with : ℕ × ℕ × Event → Call
call_with t = record { source = t.0; line = t.1; event = t.2 }

abbrev thing_in : Entry → ℕ × ℕ × Event
thing_in x = (x.source, x.line, x.event)

abbrev line_of : Entry → ℕ × Event
line_of x = (x.line, x.event)

order_is : (journal : List Entry) → in_order_of (map thing_in journal) ≡ order_of journal
order_is journal = map-map (λ (t : ℕ × ℕ × Event). (t.0, t.1)) thing_in journal

-- a meter's slot is fixed by its own lines and the order of its journal
pub one_slot : (own : Address) (c : Start) (all all' : List (List Told)) (s s' : SlotView) → IsMetersSlot own all c s
    → IsMetersSlot own all' c s'
    → ((w : ℕ) → lines_for c.address (heard_by w all) ≡ lines_for c.address (heard_by w all')) → order_of s.journal ≡ order_of s'.journal
    → s ≡ s'
one_slot own c all all' s s' h h' lines order =
    let things =
    one_list (map thing_in s.journal) (map thing_in s'.journal) (order_is s.journal ∙ (order ∙ sym (order_is s'.journal)))
    (λ w. by_made thing_in w s.journal ∙ (h.lines w ∙ (lines w ∙ (sym (h'.lines w) ∙ sym (by_made thing_in w s'.journal))))) in
    let calls : map call_in s.journal ≡ map call_in s'.journal =
    sym (map-map call_with thing_in s.journal) ∙ (ap (map call_with) things ∙ map-map call_with thing_in s'.journal) in
    let journal : s.journal ≡ s'.journal =
    journal_is c own s.journal h.legal ∙ (ap (journal_of c own) calls ∙ sym (journal_is c own s'.journal h'.legal)) in
    (λ i. record { own = (h.own_is ∙ sym h'.own_is) i; start = (h.commission_is ∙ sym h'.commission_is) i; journal = journal i })

-- each order of a meter's own lines has a slot with a journal in that order
pub slot_exists : (own : Address) (c : Start) (all : List (List Told)) (order : List (ℕ × ℕ)) → IsOrderOf c.address all order
    → (slot : SlotView) × IsOrderedSlot own all c order slot
slot_exists own c all order fits =
    let made = list_exists order (λ w. lines_for c.address (heard_by w all)) fits in
    let journal = journal_of c own (map call_with made.0) in
    let things : map thing_in journal ≡ made.0 =
    sym (map-map thing_of call_in journal) ∙ (ap (map thing_of) (journal_calls c own (map call_with made.0))
    ∙ (map-map thing_of call_with made.0 ∙ map-id made.0)) in (
      record { own = own; start = c; journal = journal },
      record {
        meters = record {
          own_is = refl;
          commission_is = refl;
          legal = journal_of_legal c own (map call_with made.0);
          lines = λ w. sym (by_made thing_in w journal) ∙ (ap (by_one w) things ∙ made.1.parts w);
        };
        in_order = sym (order_is journal) ∙ (ap in_order_of things ∙ made.1.in_order);
      },
    )

-- the order of a journal is one of its meter's own lines
pub in_order : (own : Address) (c : Start) (all : List (List Told)) (slot : SlotView) → IsMetersSlot own all c slot
    → IsOrderOf c.address all (order_of slot.journal)
in_order own c all slot h = λ w. numbers_of w slot.journal ∙ ap (map (λ (l : ℕ × Event). l.0)) (h.lines w)
  where
    numbers_of : (w : ℕ) (journal : List Entry) → numbers_by w (order_of journal) ≡ map (λ (l : ℕ × Event). l.0) (steps_by w journal)
    numbers_of w journal =
        ap (map (λ (p : ℕ × ℕ). p.1)) (filter-map (λ (p : ℕ × ℕ). p.0 == w) (λ (x : Entry). (x.source, x.line)) journal)
        ∙ (map-map (λ (p : ℕ × ℕ). p.1) (λ (x : Entry). (x.source, x.line)) (entries_by w journal)
        ∙ sym (map-map (λ (l : ℕ × Event). l.0) line_of (entries_by w journal)))

-- ---- strangers

abbrev note_thing : Heard → ℕ × ℕ × Address
note_thing h = (h.source, h.line, h.address)

abbrev note_with : ℕ × ℕ × Address → Heard
note_with t = record { source = t.0; line = t.1; address = t.2 }

notes_back : (heard : List Heard) → map note_with (map note_thing heard) ≡ heard
notes_back heard = map-map note_with note_thing heard ∙ map-id heard

order_of_notes : (heard : List Heard) → in_order_of (map note_thing heard) ≡ order_of_strangers heard
order_of_notes heard = map-map (λ (t : ℕ × ℕ × Address). (t.0, t.1)) note_thing heard

-- the strangers' list is fixed by their lines and its order
pub one_strangers : (lines : ℕ → List (ℕ × Address)) (xs ys : List Heard) → ((w : ℕ) → notes_by w xs ≡ lines w)
    → ((w : ℕ) → notes_by w ys ≡ lines w) → order_of_strangers xs ≡ order_of_strangers ys → xs ≡ ys
one_strangers lines xs ys x y order =
    sym (notes_back xs)
    ∙ (ap (map note_with) (one_list (map note_thing xs) (map note_thing ys) (order_of_notes xs
    ∙ (order ∙ sym (order_of_notes ys))) (λ w. by_made note_thing w xs ∙ (x w ∙ (sym (y w) ∙ sym (by_made note_thing w ys))))) ∙ notes_back ys)

-- each order of the strangers' lines has a list
pub strangers_exist : (commissions : List Start) (all : List (List Told)) (order : List (ℕ × ℕ))
    → IsOrderOfStrangers commissions all order → (heard : List Heard) × AreOrderedStrangers commissions all order heard
strangers_exist commissions all order fits =
    let made = list_exists order (λ w. lines_of_strangers commissions (heard_by w all)) fits in
    let things = map-map note_thing note_with made.0 ∙ map-id made.0 in (
      map note_with made.0,
      record {
        lines = λ w. sym (by_made note_thing w (map note_with made.0)) ∙ (ap (by_one w) things ∙ made.1.parts w);
        in_order = sym (order_of_notes (map note_with made.0)) ∙ (ap in_order_of things ∙ made.1.in_order);
      },
    )
