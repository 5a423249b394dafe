-- The lines of one receiver fix the session.
use Rattle.std.proofs.Common.{◌≡◌, ◌==◌, ℕ, Bool, true, false, cond, List, [], ◌∷◌, map, refl, sym, ap, ap₂, ◌∙◌, subst}
use Rattle.std.proofs.lemmas.Bool.{eqb-true}
use Rattle.lists.specs.Each.{Each, EachWith}
use Rattle.lists.proofs.Members.{with_fold}
use Rattle.meter_address.specs.declared.address.Address.{Address}
use Rattle.meter_slots.specs.declared.entry.Entry.{Entry}
use Rattle.meter_slots.specs.declared.entry.Event.{Event}
use Rattle.meter_slots.specs.Journal.{Start, SlotView}
use Rattle.meter_slots.specs.World.{WorldView, world_of}
use Rattle.stranger_ring.specs.declared.strangers.Heard.{Heard}
use Rattle.receivers.specs.declared.told.Told.{Told}
use Rattle.receivers.specs.Alone.{steps_of}
use Rattle.receivers.specs.Orders.{order_of}
use Rattle.receivers.specs.Session.{heard_by, lines_for, lines_of_strangers, notes_by, IsMetersSlot, IsSession}
use Rattle.receivers.proofs.OneSession.{session_alone}
use Rattle.receivers.proofs.OrderLaws.{one_slot}
use Rattle.collector_main.proofs.Orders.{with_meet, part, from_parts, of_source, none_mapped}

-- ---- items of one source

module _ {X Y : Type 0} (source line : X → ℕ) (what : X → Y) where
  -- each item is of the source 1, where no other source has one
  all_first : (lines : ℕ → List (ℕ × Y)) (xs : List X) → ((w : ℕ) → map (λ x. (line x, what x)) (part source line what w xs) ≡ lines w)
      → ((w : ℕ) → (1 == w) ≡ false → lines w ≡ []) → Each (λ x. source x ≡ 1) xs
  all_first lines xs is none = from_parts source line what (λ x. source x ≡ 1) xs (λ w. at w (1 == w) refl)
    where
      at : (w : ℕ) (b : Bool) → (1 == w) ≡ b → Each (λ x. source x ≡ 1) (part source line what w xs)
      at w true e = subst (λ (n : ℕ). Each (λ x. source x ≡ n) (part source line what w xs)) (sym (eqb-true 1 w e))
          (of_source source line what w xs)
      at w false e = subst (Each (λ x. source x ≡ 1)) (sym (none_mapped source line what (part source line what w xs) (is w ∙ none w e))) tt

  -- then its part is all of them
  all_of_it : (xs : List X) → Each (λ x. source x ≡ 1) xs → part source line what 1 xs ≡ xs
  all_of_it [] h = refl
  all_of_it (x ∷ xs) h = ap (λ n. cond (n == 1) (x ∷ part source line what 1 xs) (part source line what 1 xs)) h.0
      ∙ ap (λ ys. x ∷ ys) (all_of_it xs h.1)

-- what a receiver of another number is told of one receiver's lines
others : {X : Type 0} (f : List Told → List X) (heard : List Told) (w : ℕ) → f [] ≡ [] → (1 == w) ≡ false → f (heard_by w (heard ∷ [])) ≡ []
others f heard w none e = ap (λ b. f (cond b heard [])) e ∙ none

-- ---- a slot

abbrev placed : ℕ × Event → ℕ × ℕ
placed l = (1, l.0)

order_is : (journal : List Entry) → Each (λ (x : Entry). x.source ≡ 1) journal
    → order_of journal ≡ map placed (map (λ (x : Entry). (x.line, x.event)) journal)
order_is [] h = refl
order_is (x ∷ xs) h = ap (λ n. (n, x.line) ∷ order_of xs) h.0 ∙ ap (λ t. (1, x.line) ∷ t) (order_is xs h.1)

order_alone : (own : Address) (c : Start) (heard : List Told) (slot : SlotView) → IsMetersSlot own (heard ∷ []) c slot
    → order_of slot.journal ≡ map placed (lines_for c.address heard)
order_alone own c heard slot h =
    let first = all_first (λ (x : Entry). x.source) (λ (x : Entry). x.line) (λ (x : Entry). x.event)
    (λ w. lines_for c.address (heard_by w (heard ∷ []))) slot.journal h.lines
    (λ w e. others (lines_for c.address) heard w refl e) in
    order_is slot.journal first
    ∙ ap (λ j. map placed (map (λ (x : Entry). (x.line, x.event)) j))
    (sym (all_of_it (λ (x : Entry). x.source) (λ (x : Entry). x.line) (λ (x : Entry). x.event) slot.journal first))
    ∙ ap (map placed) (h.lines 1)

slots_one : (own : Address) (heard : List Told) (cs : List Start) (slots again : List SlotView)
    → EachWith (IsMetersSlot own (heard ∷ [])) cs slots
    → EachWith (IsMetersSlot own (heard ∷ [])) cs again → slots ≡ again
slots_one own heard cs slots again one two =
    with_fold (λ s b. (c : Start) × IsMetersSlot own (heard ∷ []) c s × IsMetersSlot own (heard ∷ []) c b) (λ slots again. slots ≡ again) refl
    (λ s b slots again both each later. ap₂ (λ (x : SlotView) xs. x ∷ xs)
    (one_slot own both.0 (heard ∷ []) (heard ∷ []) s b both.1 both.2 (λ w. refl) (order_alone own both.0 heard s both.1
    ∙ sym (order_alone own both.0 heard b both.2))) later) slots again
    (with_meet (IsMetersSlot own (heard ∷ [])) (IsMetersSlot own (heard ∷ [])) cs slots again one two)

-- ---- the strangers

abbrev noted : ℕ × Address → Heard
noted l = record { source = 1; line = l.0; address = l.1 }

notes_are : (notes : List Heard) → Each (λ (h : Heard). h.source ≡ 1) notes
    → notes ≡ map noted (map (λ (h : Heard). (h.line, h.address)) notes)
notes_are [] h = refl
notes_are (x ∷ xs) h =
    ap (λ n. let y : Heard = record { source = n; line = x.line; address = x.address } in y ∷ xs) h.0
    ∙ ap (λ t. noted (x.line, x.address) ∷ t) (notes_are xs h.1)

notes_alone : (cs : List Start) (heard : List Told) (notes : List Heard)
    → ((w : ℕ) → notes_by w notes ≡ lines_of_strangers cs (heard_by w (heard ∷ [])))
    → notes ≡ map noted (lines_of_strangers cs heard)
notes_alone cs heard notes h =
    let first = all_first (λ (x : Heard). x.source) (λ (x : Heard). x.line) (λ (x : Heard). x.address)
    (λ w. lines_of_strangers cs (heard_by w (heard ∷ []))) notes h
    (λ w e. others (lines_of_strangers cs) heard w refl e) in
    notes_are notes first
    ∙ ap (λ j. map noted (map (λ (x : Heard). (x.line, x.address)) j))
    (sym (all_of_it (λ (x : Heard). x.source) (λ (x : Heard). x.line) (λ (x : Heard). x.address) notes first))
    ∙ ap (map noted) (h 1)

-- ---- the session

abbrev world_with : List SlotView → List Heard → WorldView
world_with slots strangers = record { slots = slots; strangers = strangers }

two_are_one : (own : Address) (cs : List Start) (heard : List Told) (world again : WorldView) → IsSession own cs (heard ∷ []) world
    → IsSession own cs (heard ∷ []) again → world ≡ again
two_are_one own cs heard world again one two =
    ap₂ world_with (slots_one own heard cs world.slots again.slots one.meters two.meters)
    (notes_alone cs heard world.strangers one.strangers ∙ sym (notes_alone cs heard again.strangers two.strangers))

pub session_fixed : (own : Address) (cs : List Start) (heard : List Told) (world : WorldView) → IsSession own cs (heard ∷ []) world
    → world ≡ world_of own cs (steps_of 1 heard)
session_fixed own cs heard world session =
    two_are_one own cs heard world (world_of own cs (steps_of 1 heard)) session (session_alone own cs heard)
