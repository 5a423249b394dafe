-- The world of some steps and one more.
use Rattle.std.proofs.Common.{◌≡◌, ℕ, ◌==◌, Bool, true, false, not, ◌||◌, cond, List, [], ◌∷◌, ◌++◌}
use Rattle.std.proofs.Common.{get_or, reverse, map, filter, refl, ap, sym, ◌∙◌, arith}
use Rattle.std.proofs.lemmas.Bool.{cond_both}
use Rattle.std.specs.List.{list_any, All}
use Rattle.std.proofs.lemmas.Bool.Decides.{nat_tests}
use Rattle.std.proofs.lemmas.List.{reverse-append, reverse-reverse, map-append, append-nil}
use Rattle.std.proofs.lemmas.List.Elements.{filter-append, All-map}
use Rattle.std.proofs.lemmas.Simd.{map-map}
use Rattle.meter_address.specs.declared.address.Address.{Address}
use Rattle.meter_slots.specs.declared.entry.Entry.{Entry}
use Rattle.meter_slots.specs.declared.step.Step.{Step}
use Rattle.meter_slots.specs.Journal.{Start, SlotView, outcome}
use Rattle.meter_slots.specs.Laws.{IsLegal}
use Rattle.meter_slots.specs.World.{Call, call_of, judged_journal, journal_of, is_for, calls_of, slot_of, is_commissioned, heard_of}
use Rattle.meter_slots.specs.World.{strangers_of, world_of, stepped_slot, slot_after}
use Rattle.meter_slots.specs.World.{strangers_after, after_step, address_of_slot}
use Rattle.meter_slots.proofs.JournalLaws.{journal_of_legal}

pub eqb_swap : (a b : ℕ) → (a == b) ≡ (b == a)
eqb_swap a b = grind (arith, nat_tests)

-- ---- the slot of a meter after one more step

-- whether a slot has the address of this number
abbrev pub has_number : ℕ → SlotView → Bool
has_number n b = b.start.address.0 == n

pub journal_of-push : (c : Start) (own : Address) (calls : List Call) (s : Call)
    → journal_of c own (calls ++ s ∷ []) ≡ journal_of c own calls ++ record
    { source = s.source; line = s.line; event = s.event; outcome = outcome c own (reverse (journal_of c own calls)) s.event } ∷ []
journal_of-push c own calls s =
    let before = judged_journal c own (reverse calls) in
    ap (λ cs. reverse (judged_journal c own cs)) (reverse-append calls (s ∷ []))
    ∙ reverse-append (record { source = s.source; line = s.line; event = s.event; outcome = outcome c own before s.event } ∷ []) before
    ∙ ap (λ (e : List Entry). reverse before ++ record
    { source = s.source; line = s.line; event = s.event; outcome = outcome c own e s.event } ∷ []) (sym (reverse-reverse before))

slot_cond : (b : Bool) (own : Address) (c : Start) (steps : List Step) (s : Step)
    → record { own = own; start = c; journal = journal_of c own (map call_of (filter (is_for c.address) steps ++ cond b (s ∷ []) [])) }
    ≡ cond b (stepped_slot s (slot_of own steps c)) (slot_of own steps c)
slot_cond true own c steps s =
    ap (λ j. record { own = own; start = c; journal = j })
    (ap (journal_of c own) (map-append call_of (filter (is_for c.address) steps) (s ∷ [])) ∙ journal_of-push c own
    (calls_of c.address steps) (call_of s))
slot_cond false own c steps s =
    ap (λ xs. record { own = own; start = c; journal = journal_of c own (map call_of xs) })
    (append-nil (filter (is_for c.address) steps))

slot_of-push : (own : Address) (c : Start) (steps : List Step) (s : Step)
    → slot_of own (steps ++ s ∷ []) c ≡ slot_after s (slot_of own steps c)
slot_of-push own c steps s =
    ap (λ xs. record { own = own; start = c; journal = journal_of c own (map call_of xs) })
    (filter-append (is_for c.address) steps (s ∷ []))
    ∙ slot_cond (is_for c.address s) own c steps s
    ∙ ap (λ b. cond b (stepped_slot s (slot_of own steps c)) (slot_of own steps c)) (eqb_swap s.address.0 c.address.0)

slots-push : (own : Address) (cs : List Start) (steps : List Step) (s : Step)
    → map (slot_of own (steps ++ s ∷ [])) cs ≡ map (slot_after s) (map (slot_of own steps) cs)
slots-push own cs steps s = (λ i. map (λ c. slot_of-push own c steps s i) cs) ∙ sym (map-map (slot_after s) (slot_of own steps) cs)

-- ---- a step at the one place

pub any-map : {X Y : Type 0} (p : Y → Bool) (f : X → Y) (xs : List X) → list_any p (map f xs) ≡ list_any (λ x. p (f x)) xs
any-map p f [] = refl
any-map p f (x ∷ xs) = ap (λ t. p (f x) || t) (any-map p f xs)

-- ---- the addresses stay

pub addresses_stay : (s : Step) (bs : List SlotView) → map address_of_slot (map (slot_after s) bs) ≡ map address_of_slot bs
addresses_stay s bs = map-map address_of_slot (slot_after s) bs ∙ (λ i. map (λ b. stays b i) bs)
  where
    stays : (b : SlotView) → address_of_slot (slot_after s b) ≡ address_of_slot b
    stays b = cond_both (has_number s.address.0 b) (stepped_slot s b) b (λ x. address_of_slot x ≡ address_of_slot b) (λ _. refl) (λ _. refl)

-- ---- strangers

strangers-push : (cs : List Start) (steps : List Step) (s : Step) (t : Bool) → is_commissioned cs s.address ≡ t
    → strangers_of cs (steps ++ s ∷ []) ≡ strangers_of cs steps ++ cond t [] (heard_of s ∷ [])
strangers-push cs steps s t h =
    let strange : Step → Bool = λ x. not (is_commissioned cs x.address) in
    ap (map heard_of) (filter-append strange steps (s ∷ [])) ∙ map-append heard_of (filter strange steps) (filter strange (s ∷ []))
    ∙ ap (λ xs. map heard_of (filter strange steps) ++ xs) (last_one t h)
  where
    last_one : (t : Bool) → is_commissioned cs s.address ≡ t
        → map heard_of (filter (λ x. not (is_commissioned cs x.address)) (s ∷ [])) ≡ cond t [] (heard_of s ∷ [])
    last_one true e = ap (λ u. map heard_of (cond (not u) (s ∷ []) [])) e
    last_one false e = ap (λ u. map heard_of (cond (not u) (s ∷ []) [])) e

-- ---- a world after one more step

-- the world of some steps and one more is that of these steps after this one
pub after_push : (own : Address) (cs : List Start) (steps : List Step) (s : Step)
    → after_step (world_of own cs steps) s ≡ world_of own cs (steps ++ s ∷ [])
unfolding world_of
after_push own cs steps s =
    ap (λ bs. record { slots = bs; strangers = strangers_after (world_of own cs steps) s }) (sym (slots-push own cs steps s))
    ∙ ap (λ ts. record { slots = map (slot_of own (steps ++ s ∷ [])) cs; strangers = ts }) strangers
  where
    choice : {X : Type 0} (t : Bool) (xs ys : List X) → cond t xs (xs ++ ys) ≡ xs ++ cond t [] ys
    choice true xs ys = sym (append-nil xs)
    choice false xs ys = refl

    strangers : strangers_after (world_of own cs steps) s ≡ strangers_of cs (steps ++ s ∷ [])
    strangers =
        ap (λ t. cond t (strangers_of cs steps) (strangers_of cs steps ++ heard_of s ∷ [])) (any-map (has_number s.address.0) (slot_of own steps) cs)
        ∙ choice (is_commissioned cs s.address) (strangers_of cs steps) (heard_of s ∷ [])
        ∙ sym (strangers-push cs steps s (is_commissioned cs s.address) refl)

-- ---- every slot is legal

pub world_legal : (own : Address) (cs : List Start) (steps : List Step) → All IsLegal (world_of own cs steps).slots
unfolding world_of
world_legal own cs steps =
    All-map IsLegal (slot_of own steps) cs (λ k d within.
    let c = get_or cs k d in
    journal_of_legal c own (calls_of c.address steps))
