-- A receiver's lines at one place, and its part of a journal.
use Rattle.std.proofs.Common.{◌≡◌, ℕ, zero, suc, ◌<◌, ◌==◌, nat_lt, List, [], ◌∷◌, Bool, true, false, cond, if◌then◌else◌, map, filter, length, get_or, Option, Some, None, refl, ap, sym, subst, ◌∙◌, arith, eq-eqb, ⊎_elim}
use Rattle.std.specs.Prelude.{option_map, position}
use Rattle.std.specs.List.{filter_map, cons_option, enumerate_from, position_or_len}
use Rattle.std.proofs.lemmas.Bool.{both_ways, false_from_ne_true, eqb-true, cases_order}
use Rattle.std.proofs.lemmas.List.Quantifiers.{position-Some}
use Rattle.std.proofs.lemmas.Simd.{map-map}
use Rattle.lists.proofs.Choices.{none_if}
use Rattle.lists.proofs.Places.{any_there}
use Rattle.meter_address.specs.declared.address.Address.{Address}
use Rattle.meter_slots.specs.declared.entry.Entry.{Entry}
use Rattle.meter_slots.specs.declared.entry.Event.{Event}
use Rattle.meter_slots.specs.declared.entry.Outcome.{Outcome}
use Rattle.meter_address.specs.Address.{AreApart}
use Rattle.meter_slots.specs.Journal.{Start, SlotView, Legal}
use Rattle.stranger_ring.specs.declared.strangers.Heard.{Heard}
use Rattle.book_cells.specs.declared.act.Act.{Act}
use Rattle.book_cells.specs.Acts.{acts_by}
use Rattle.meter_slots.specs.Acting.{Opening, opening_of, act_of, entry_of, IsLegalJournal}
use Rattle.stranger_ring.specs.Ring.{note_of}
use Rattle.meter_slots.proofs.Entries.{entries_back}
use Rattle.meter_directory.proofs.Places.{none_at}
use Rattle.meter_slots.proofs.Worlds.{any-map}
use Rattle.receivers.proofs.Picked.{filter-map, cons_map}
use Rattle.receivers.specs.declared.told.Told.{Told}
use Rattle.receivers.specs.declared.told.Told.TheVariants as told
use Rattle.receivers.specs.Classes.{OwnLine, StrangeLine, place_of, own_at, own_by, own_of, own_lines, strange_at, strange_by, strange_of, strange_lines}
use Rattle.receivers.specs.Passes.{Answered, act_by, acts_at, note_by}
use Rattle.receivers.specs.Collected.{entry_by, entries_at}
use Rattle.receivers.specs.Session.{heard_by, event_at, lines_for, stranger_at, lines_of_strangers, entries_by, steps_by, notes_by, IsMetersSlot}

-- ---- places

-- two addresses of a list whose addresses differ
apart_at : (xs : List Address) (i j : ℕ) (d : Address) → AreApart xs → i < j → j < length xs
    → ((get_or xs j d).0 == (get_or xs i d).0) ≡ false
apart_at (x ∷ xs) zero (suc j) d apart less within = none_at (λ (b : Address). b.0 == x.0) xs j d apart.0 (omega arith)
apart_at (x ∷ xs) (suc i) (suc j) d apart less within = apart_at xs i j d apart.1 (omega arith) (omega arith)
apart_at _ i _ d apart less within = absurd (omega arith)

abbrev is_at : ℕ → Option ℕ → Bool
is_at k None = false
is_at k (Some j) = j == k

-- an address stands at one place
one_place : (xs : List Address) (i j : ℕ) (d : Address) → AreApart xs → i < length xs → j < length xs
    → (get_or xs i d).0 ≡ (get_or xs j d).0 → i ≡ j
one_place xs i j d apart inside within same = ⊎_elim (λ e. e)
    (⊎_elim (λ l. absurd (both_ways _ (apart_at xs i j d apart l within) (eq-eqb _ _ (sym same))))
    (λ l. absurd (both_ways _ (apart_at xs j i d apart l inside) (eq-eqb _ _ same)))) (cases_order i j)

same_test : (a b : Bool) → (a ≡ true → b ≡ true) → (b ≡ true → a ≡ true) → a ≡ b
same_test true b there back = sym (there refl)
same_test false b there back = sym (false_from_ne_true b (λ e. both_ways false refl (back e)))

place_test : (xs : List Address) (k : ℕ) (d : Address) (n : ℕ) → AreApart xs → k < length xs
    → is_at k (position (λ a. a.0 == n) xs) ≡ ((get_or xs k d).0 == n)
place_test xs k d n apart within = at (position (λ (a : Address). a.0 == n) xs) refl
  where
    at : (o : Option ℕ) → position (λ (a : Address). a.0 == n) xs ≡ o
        → is_at k (position (λ (a : Address). a.0 == n) xs) ≡ ((get_or xs k d).0 == n)
    at None is = ap (is_at k) is ∙ sym (none_at (λ (a : Address). a.0 == n) xs k d (sym (any_there (λ (a : Address). a.0 == n) xs)
        ∙ none_if (nat_lt (position_or_len (λ (a : Address). a.0 == n) xs) (length xs)) _ is) within)
    at (Some j) is = let p = position-Some (λ (a : Address). a.0 == n) xs j d is in
        ap (is_at k) is ∙ same_test (j == k) ((get_or xs k d).0 == n)
        (λ e. ap (λ (i : ℕ). (get_or xs i d).0 == n) (sym (eqb-true j k e)) ∙ p.1)
        (λ e. eq-eqb j k (one_place xs j k d apart p.0 within (eqb-true _ n p.1 ∙ sym (eqb-true _ n e))))

-- ---- lines

abbrev step_in : OwnLine → ℕ × Event
step_in o = (o.line, o.event)

abbrev kept : ℕ → Option OwnLine → Option (ℕ × Event)
kept k None = None
kept k (Some o) = if o.place == k then Some (o.line, o.event) else None

kept_at : (k line : ℕ) (event : Event) (o : Option ℕ) → kept k (own_at line event o) ≡ (if is_at k o then Some (line, event) else None)
kept_at k line event None = refl
kept_at k line event (Some j) = refl

kept_head : (k : ℕ) (o : Option OwnLine) (rest : List OwnLine)
    → map step_in (filter (λ (x : OwnLine). x.place == k) (cons_option o rest)) ≡ cons_option (kept k o)
    (map step_in (filter (λ (x : OwnLine). x.place == k) rest))
kept_head k None rest = refl
kept_head k (Some o) rest = at (o.place == k)
  where
    at : (b : Bool)
        → map step_in (cond b (o ∷ filter (λ (x : OwnLine). x.place == k) rest) (filter (λ (x : OwnLine). x.place == k) rest)) ≡ cons_option
        (cond b (Some (o.line, o.event)) None) (map step_in (filter (λ (x : OwnLine). x.place == k) rest))
    at true = refl
    at false = refl

pub lines_at : (addresses : List Address) (k : ℕ) (d : Address) (ls : List (ℕ × Told)) → AreApart addresses → k < length addresses
    → map step_in (filter (λ (x : OwnLine). x.place == k) (own_lines addresses ls)) ≡ filter_map
    (λ l. event_at (get_or addresses k d) l.0 l.1) ls
unfolding own_lines
lines_at addresses k d [] apart within = refl
lines_at addresses k d (l ∷ ls) apart within =
    kept_head k (own_of addresses l) (filter_map (own_of addresses) ls)
    ∙ ((λ i. cons_option (head l.1 i) (map step_in (filter (λ (x : OwnLine). x.place == k) (filter_map (own_of addresses) ls))))
    ∙ ap (cons_option (event_at (get_or addresses k d) l.0 l.1)) (lines_at addresses k d ls apart within))
  where
    head : (t : Told) → kept k (own_by addresses l.0 t) ≡ event_at (get_or addresses k d) l.0 t
    head (told.Event address event) = kept_at k l.0 event (place_of addresses address)
        ∙ ap (λ b. cond b (Some (l.0, event)) None) (place_test addresses k d address.0 apart within)
    head _ = refl

-- ---- strangers' lines

abbrev note_in : StrangeLine → ℕ × Address
note_in s = (s.line, s.address)

pub strange_at_all : (cs : List Start) (ls : List (ℕ × Told))
    → map note_in (strange_lines (map (λ c. c.address) cs) ls) ≡ filter_map (λ l. stranger_at cs l.0 l.1) ls
unfolding strange_lines
strange_at_all cs [] = refl
strange_at_all cs (l ∷ ls) =
    cons_map note_in (strange_of (map (λ c. c.address) cs) l) (filter_map (strange_of (map (λ c. c.address) cs)) ls)
    ∙ ((λ i. cons_option (head l.1 i) (map note_in (filter_map (strange_of (map (λ c. c.address) cs)) ls)))
    ∙ ap (cons_option (stranger_at cs l.0 l.1)) (strange_at_all cs ls))
  where
    by_test : (address : Address) (b : Bool) (j : ℕ)
        → option_map note_in (strange_at l.0 address (cond b (Some j) None)) ≡ cond b None (Some (l.0, address))
    by_test address true j = refl
    by_test address false j = refl

    head : (t : Told) → option_map note_in (strange_by (map (λ c. c.address) cs) l.0 t) ≡ stranger_at cs l.0 t
    head (told.Event address event) =
        by_test address (nat_lt (position_or_len (λ (a : Address). a.0 == address.0) (map (λ c. c.address) cs))
        (length (map (λ (c : Start). c.address) cs)))
        (position_or_len (λ (a : Address). a.0 == address.0) (map (λ c. c.address) cs))
        ∙ ap (λ b. cond b None (Some (l.0, address))) (any_there (λ (a : Address). a.0 == address.0) (map (λ c. c.address) cs)
        ∙ any-map (λ (a : Address). a.0 == address.0) (λ (c : Start). c.address) cs)
    head _ = refl

-- ---- journals

-- of a closed cell's journal, the part of a receiver is what that one's own lines were answered at the cell's place
pub entries_made : (w k : ℕ) (journal : List Entry) (did : List Answered) → acts_by w (map act_of journal) ≡ acts_at w k did
    → entries_by w journal ≡ entries_at w k did
entries_made w k journal did made =
    sym (entries_back (entries_by w journal))
    ∙ (ap (map entry_of) (sym (filter-map (λ (a : Act Event Outcome). a.source == w) act_of journal) ∙ made)
    ∙ map-map entry_of (act_by w) (filter (λ (d : Answered). d.own.place == k) did))

pub steps_made : (addresses : List Address) (w k : ℕ) (d : Address) (journal : List Entry) (did : List Answered) (heard : List Told)
    → AreApart addresses → k < length addresses
    → acts_by w (map act_of journal) ≡ acts_at w k did → map (λ (x : Answered). x.own) did ≡ own_lines addresses (enumerate_from 1 heard)
    → steps_by w journal ≡ lines_for (get_or addresses k d) heard
steps_made addresses w k d journal did heard apart within made asked =
    let mine = filter (λ (x : Answered). x.own.place == k) did in
    ap (map (λ (x : Entry). (x.line, x.event))) (entries_made w k journal did made)
    ∙ (map-map (λ (x : Entry). (x.line, x.event)) (entry_by w) mine ∙ sym (map-map step_in (λ (x : Answered). x.own) mine)
    ∙ (ap (map step_in) (sym (filter-map (λ (o : OwnLine). o.place == k) (λ (x : Answered). x.own) did)
    ∙ ap (filter (λ (o : OwnLine). o.place == k)) asked) ∙ lines_at addresses k d (enumerate_from 1 heard) apart within))

-- a closed cell's slot is its meter's part of the session
pub meters_part : (own : Address) (all : List (List Told)) (did : ℕ
    → List Answered) (addresses : List Address) (k : ℕ) (d : Address) (c : Start) (b : SlotView) → AreApart addresses
    → k < length addresses → get_or addresses k d ≡ c.address
    → opening_of b ≡ record { own = own; start = c } → IsLegalJournal (record { own = own; start = c }) (map act_of b.journal)
    → ((w : ℕ) → acts_by w (map act_of b.journal) ≡ acts_at w k (did w))
    → ((w : ℕ) → map (λ (x : Answered). x.own) (did w) ≡ own_lines addresses (enumerate_from 1 (heard_by w all)))
    → IsMetersSlot own all c b
meters_part own all did addresses k d c b apart within is opening legal made asked = record {
  own_is = ap (λ (o : Opening). o.own) opening;
  commission_is = ap (λ (o : Opening). o.start) opening;
  legal = subst (Legal c own) (entries_back b.journal) legal;
  lines = λ w. steps_made addresses w k d b.journal (did w) (heard_by w all) apart within (made w) (asked w)
      ∙ ap (λ (a : Address). lines_for a (heard_by w all)) is;
}

-- ---- the book of strangers

abbrev pair_of : Act Address Unit → ℕ × Address
pair_of a = (a.line, a.call)

pub notes_made : (cs : List Start) (w : ℕ) (strangers : List Heard) (heard : List Told)
    → acts_by w (map note_of strangers) ≡ map (note_by w) (strange_lines (map (λ c. c.address) cs) (enumerate_from 1 heard))
    → notes_by w strangers ≡ lines_of_strangers cs heard
notes_made cs w strangers heard made =
    sym (map-map pair_of note_of (filter (λ (h : Heard). h.source == w) strangers))
    ∙ (ap (map pair_of) (sym (filter-map (λ (a : Act Address Unit). a.source == w) note_of strangers) ∙ made)
    ∙ (map-map pair_of (note_by w) (strange_lines (map (λ c. c.address) cs) (enumerate_from 1 heard))
    ∙ strange_at_all cs (enumerate_from 1 heard)))
