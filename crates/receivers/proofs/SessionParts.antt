-- A session of some meters over the lines that are for them.
use Rattle.std.proofs.Common.{◌≡◌, ℕ, ◌+◌, ◌≤◌, ◌==◌, Bool, true, false, not, cond, List, [], ◌∷◌, map, Option, Some, None, refl, ap, ap₂, sym, ◌∙◌, arith, eq-eqb, ne_eqb}
use Rattle.std.specs.Prelude.{option_map}
use Rattle.std.specs.List.{filter_map, enumerate_from, cons_option}
use Rattle.std.proofs.lemmas.Bool.{both_ways, eqb-true}
use Rattle.receivers.proofs.Picked.{cons_map, made_by_source}
use Rattle.lists.specs.Each.{EachWith}
use Rattle.meter_address.specs.declared.address.Address.{Address}
use Rattle.meter_slots.specs.declared.entry.Entry.{Entry}
use Rattle.meter_slots.specs.declared.entry.Event.{Event}
use Rattle.meter_slots.specs.Journal.{Start, SlotView}
use Rattle.meter_slots.proofs.Renumbering.{legal_renumbered, resumed_renumbered}
use Rattle.receivers.specs.declared.told.Told.{Told}
use Rattle.receivers.specs.declared.told.Told.TheVariants as told
use Rattle.receivers.specs.Session.{heard_by, event_at, lines_for, steps_by, IsMetersSlot}
use Rattle.receivers.specs.Parts.{is_mine, part_of, numbers_from, number_in, whole_number, ArePart, is_in, starts_in, entry_in, slot_in}
use Rattle.receivers.specs.Parts.{slots_in, together, PartsAreOfTheWhole, PartsMakeTheWhole, PartsLeaveTheSame}

-- ---- numbers of lines

abbrev on : {E : Type 0} → (ℕ → ℕ) → ℕ × E → ℕ × E
on g p = (g p.0, p.1)

module _ (a : Address) where
  abbrev lines : ℕ → List Told → List (ℕ × Event)
  lines m h = filter_map (λ l. event_at a l.0 l.1) (enumerate_from m h)

  on_if : (g : ℕ → ℕ) (j m : ℕ) (event : Event) (b : Bool) → g j ≡ m
      → cond b (Some (m, event)) None ≡ option_map (on g) (cond b (Some (j, event)) None)
  on_if g j m event true e = ap (λ n. Some (n, event)) (sym e)
  on_if g j m event false e = refl

  event_on : (g : ℕ → ℕ) (j m : ℕ) (t : Told) → g j ≡ m → event_at a m t ≡ option_map (on g) (event_at a j t)
  event_on g j m (told.Event address event) e = on_if g j m event (a.0 == address.0) e
  event_on g j m _ e = refl

  -- lines from a number on are told alike by numberings that agree from there on
  agree : (f g : ℕ → ℕ) (j : ℕ) (h : List Told) → ((n : ℕ) → j ≤ n → f n ≡ g n) → map (on f) (lines j h) ≡ map (on g) (lines j h)
  agree f g j [] e = refl
  agree f g j (t ∷ h) e =
      let fj : option_map (on f) (event_at a j t) ≡ option_map (on g) (event_at a j t) =
      sym (event_on f j (f j) t refl) ∙ event_on g j (f j) t (sym (e j (omega arith))) in
      cons_map (on f) (event_at a j t) (lines (j + 1) h)
      ∙ ap₂ (λ (o : Option (ℕ × Event)) (ls : List (ℕ × Event)). cons_option o ls) fj
      (agree f g (j + 1) h (λ n above. e n (omega (arith, above))))
      ∙ sym (cons_map (on g) (event_at a j t) (lines (j + 1) h))

  not_for : (mine : ℕ → Bool) → mine a.0 ≡ true → (m : ℕ) (event : Event) (n : ℕ) → mine n ≡ false → (b : Bool) → (a.0 == n) ≡ b
      → cond {A = Option (ℕ × Event)} b (Some (m, event)) None ≡ None
  not_for mine own m event n other true e =
      absurd (both_ways (mine n) other (ap mine (sym (eqb-true a.0 n e)) ∙ own))
  not_for mine own m event n other false e = refl

  not_mine : (mine : ℕ → Bool) → mine a.0 ≡ true → (m : ℕ) (t : Told) → is_mine mine t ≡ false → event_at a m t ≡ None
  not_mine mine own m (told.Event address event) e = not_for mine own m event address.0 e (a.0 == address.0) refl
  not_mine mine own m _ e = refl

  kept_by : (b : Bool) (mine : ℕ → Bool) → mine a.0 ≡ true → (m j : ℕ) (t : Told) (h : List Told) → is_mine mine t ≡ b
      → ((k i : ℕ) → lines k h ≡ map (on (number_in i (numbers_from mine k h))) (lines i (part_of mine h)))
      → lines m (t ∷ h) ≡ map (on (number_in j (numbers_from mine m (t ∷ h)))) (lines j (part_of mine (t ∷ h)))
  kept_by true mine own m j t h e later =
      let ks = numbers_from mine (m + 1) h in
      let p = part_of mine h in
      let first : number_in j (m ∷ ks) j ≡ m = (let here : (j == j) ≡ true = eq-eqb j j refl in rw here refl) in
      let same : (n : ℕ) → j + 1 ≤ n → number_in (j + 1) ks n ≡ number_in j (m ∷ ks) n = λ n above. (
      let ne : (n == j) ≡ false = ne_eqb n j (λ e. omega (arith, above, e)) in rw ne refl) in
      let all : lines m (t ∷ h) ≡ map (on (number_in j (m ∷ ks))) (lines j (t ∷ p)) =
      ap₂ (λ (o : Option (ℕ × Event)) (ls : List (ℕ × Event)). cons_option o ls) (event_on (number_in j (m ∷ ks)) j m t first)
      (later (m + 1) (j + 1) ∙ agree (number_in (j + 1) ks) (number_in j (m ∷ ks)) (j + 1) p same)
      ∙ sym (cons_map (on (number_in j (m ∷ ks))) (event_at a j t) (lines (j + 1) p)) in
      rw e all
  kept_by false mine own m j t h e later =
      let gone : lines m (t ∷ h) ≡ lines (m + 1) h =
      ap (λ (o : Option (ℕ × Event)). cons_option o (lines (m + 1) h)) (not_mine mine own m t e) in
      let all : lines m (t ∷ h) ≡ map (on (number_in j (numbers_from mine (m + 1) h))) (lines j (part_of mine h)) = gone ∙ later (m + 1) j in
      rw e all

  kept_lines : (mine : ℕ → Bool) → mine a.0 ≡ true → (m j : ℕ) (h : List Told)
      → lines m h ≡ map (on (number_in j (numbers_from mine m h))) (lines j (part_of mine h))
  kept_lines mine own m j [] = refl
  kept_lines mine own m j (t ∷ h) = kept_by (is_mine mine t) mine own m j t h refl (λ k i. kept_lines mine own k i h)

-- ---- a receiver's part of a journal

module _ (mine : ℕ → Bool) (all : List (List Told)) (w : ℕ) where
  abbrev number : ℕ → ℕ
  number = whole_number mine (heard_by w all)

  steps_in : (journal : List Entry) → steps_by w (map (entry_in mine all) journal) ≡ map (on number) (steps_by w journal)
  steps_in journal = made_by_source (λ (x : Entry). x.source) (λ (x : Entry). (x.line, x.event)) (entry_in mine all)
      (λ v. on (whole_number mine (heard_by v all))) (λ x. refl) (λ x. refl) w journal

-- ---- meters

module _ (own : Address) (mine : ℕ → Bool) (all part : List (List Told)) (are : ArePart mine all part) where
  slot_whole : (c : Start) (b : SlotView) → mine c.address.0 ≡ true → IsMetersSlot own part c b → IsMetersSlot own all c (slot_in mine all b)
  slot_whole c b is h = record {
    own_is = h.own_is;
    commission_is = h.commission_is;
    legal = legal_renumbered (entry_in mine all) (λ x. refl) (λ x. refl) c own b.journal h.legal;
    lines = λ w.
        steps_in mine all w b.journal
        ∙ ap (map (on (whole_number mine (heard_by w all)))) (h.lines w ∙ ap (lines_for c.address) (are w))
        ∙ sym (kept_lines c.address mine is 1 1 (heard_by w all));
  }

  slots_by : (b : Bool) (c : Start) (starts : List Start) (slots : List SlotView) → is_in mine c ≡ b
      → ((later : List SlotView) → EachWith (IsMetersSlot own part) (starts_in mine starts) later
      → EachWith (IsMetersSlot own all) (starts_in mine starts) (slots_in mine all later))
      → EachWith (IsMetersSlot own part) (cond b (c ∷ starts_in mine starts) (starts_in mine starts)) slots
      → EachWith (IsMetersSlot own all) (cond b (c ∷ starts_in mine starts) (starts_in mine starts)) (slots_in mine all slots)
  slots_by true c starts [] e later h = absurd h
  slots_by true c starts (b ∷ slots) e later h = (slot_whole c b e h.0, later slots h.1)
  slots_by false c starts slots e later h = later slots h

  slots_whole : (starts : List Start) (slots : List SlotView) → EachWith (IsMetersSlot own part) (starts_in mine starts) slots
      → EachWith (IsMetersSlot own all) (starts_in mine starts) (slots_in mine all slots)
  slots_whole [] [] h = tt
  slots_whole [] (b ∷ slots) h = absurd h
  slots_whole (c ∷ starts) slots h =
      slots_by (is_in mine c) c starts slots refl (λ later g. slots_whole starts later g) h

pub parts_are : PartsAreOfTheWhole
parts_are own starts mine all part w are session = slots_whole own mine all part are starts w.slots session.meters

-- ---- put together

module _ (P : Start → SlotView → Type 0) (mine : ℕ → Bool) where
  abbrev others : ℕ → Bool
  others n = not (mine n)

  joined_by : (b : Bool) (c : Start) (starts : List Start) (ours theirs : List SlotView) → is_in mine c ≡ b
      → ((os ts : List SlotView) → EachWith P (starts_in mine starts) os → EachWith P (starts_in others starts) ts
      → EachWith P starts (together mine starts os ts))
      → EachWith P (cond b (c ∷ starts_in mine starts) (starts_in mine starts)) ours
      → EachWith P (cond (not b) (c ∷ starts_in others starts) (starts_in others starts)) theirs
      → EachWith P (c ∷ starts) (together mine (c ∷ starts) ours theirs)
  joined_by true c starts [] theirs e later x y = absurd x
  joined_by true c starts (b ∷ ours) [] e later x y = rw e (x.0, later ours [] x.1 y)
  joined_by true c starts (b ∷ ours) (d ∷ theirs) e later x y = rw e (x.0, later ours (d ∷ theirs) x.1 y)
  joined_by false c starts ours [] e later x y = absurd y
  joined_by false c starts [] (d ∷ theirs) e later x y = rw e (y.0, later [] theirs x y.1)
  joined_by false c starts (b ∷ ours) (d ∷ theirs) e later x y = rw e (y.0, later (b ∷ ours) theirs x y.1)

  joined : (starts : List Start) (ours theirs : List SlotView) → EachWith P (starts_in mine starts) ours
      → EachWith P (starts_in others starts) theirs → EachWith P starts (together mine starts ours theirs)
  joined [] ours theirs x y = tt
  joined (c ∷ starts) ours theirs x y =
      joined_by (is_in mine c) c starts ours theirs refl (λ os ts p q. joined starts os ts p q) x y

pub parts_make : PartsMakeTheWhole
parts_make own starts mine all part rest w v are left one other =
    joined (IsMetersSlot own all) mine starts (slots_in mine all w.slots) (slots_in (λ n. not (mine n)) all v.slots)
    (parts_are own starts mine all part w are one) (parts_are own starts (λ n. not (mine n)) all rest v left other)

-- ---- what is known behind a part

pub parts_leave : PartsLeaveTheSame
parts_leave mine all [] = refl
parts_leave mine all (b ∷ slots) =
    ap₂ (λ (c : Start) (cs : List Start). c ∷ cs) (resumed_renumbered (entry_in mine all) (λ x. refl) (λ x. refl) b.start b.journal)
    (parts_leave mine all slots)
