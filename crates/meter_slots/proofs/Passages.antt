-- A slot that keeps no journal, after one step more.
use Rattle.std.proofs.Common.{◌≡◌, ℕ, List, [], ◌∷◌, ◌++◌, reverse, Option, Some, None, refl, ap, sym, ◌∙◌, subst}
use Rattle.std.specs.Prelude.{option_to_list}
use Rattle.meter_address.specs.declared.address.Address.{Address}
use Rattle.meter_address.specs.Commission.{Commissioned}
use Rattle.afl_fragments.specs.Held.{Told, StandsFor}
use Rattle.afl_fragments.specs.Short.{cut_down, told_of}
use Rattle.meter_slots.specs.declared.entry.Entry.{Entry}
use Rattle.meter_slots.specs.declared.entry.Event.{Event}
use Rattle.meter_slots.specs.declared.entry.Outcome.{Outcome}
use Rattle.meter_slots.specs.declared.reading.Reading.{Reading}
use Rattle.meter_slots.specs.Journal.{Start, commission_of, told}
use Rattle.meter_slots.specs.Journal.{answer, outcome, stored, reading_of, readings}
use Rattle.meter_slots.specs.Keeping.{Kept, Keeps, Moves, StoresInRange, standing_for}
use Rattle.meter_slots.specs.Laws.{PutsPayload}
use Rattle.meter_slots.specs.Passing.{Passing, IsAfter, StandsAfterSome, known_with}
use Rattle.meter_slots.specs.Resuming.{last_of, later_of, resumed}
use Rattle.meter_slots.proofs.Journals.{answer_kept, kept_after}
use Rattle.meter_slots.proofs.Starting.{told_is}

module _ (v : Passing) (own : Address) (c : Start) (k k' : Kept) (event : Event) (given : Outcome) (reading : Option Reading)
    (view_is : record { own = own; start = c; kept = k } ≡ v)
    (answered : (t : List Told) → StandsFor k.parts t → given ≡ answer k.commission own (standing_for k t) event) where
  judged : (journal : List Entry) → IsAfter journal v → given ≡ outcome c own (reverse journal) event
  judged journal h =
      answer_kept c own journal k (readings c journal) event given (subst (IsAfter journal) (sym view_is) h) answered

  pub passing_answer : (journal : List Entry) → IsAfter journal v → given ≡ outcome v.start v.own (reverse journal) event
  passing_answer journal h = judged journal h ∙ ap (λ (w : Passing). outcome w.start w.own (reverse journal) event) view_is

  module _ (puts : PutsPayload event) (fits : StoresInRange k.commission.mode given)
      (reads : (t : List Told) → StandsFor k.parts t
      → option_to_list reading ≡ reading_of event (stored k.commission (standing_for k t) event))
      (moves : (t : List Told) → StandsFor k.parts t → Moves k k' t event given) where
    abbrev pub entry : ℕ → ℕ → Entry
    entry source line = record { source = source; line = line; event = event; outcome = given }

    keeps : (journal : List Entry) (source line : ℕ) → IsAfter journal v
        → Keeps c own (journal ++ entry source line ∷ []) k' (readings c journal ++ option_to_list reading)
    keeps journal source line h =
        kept_after c own journal k (readings c journal) (entry source line) k' (option_to_list reading)
        (subst (IsAfter journal) (sym view_is) h) puts (judged journal h) fits reads moves

    pub passing_after : (journal : List Entry) (source line : ℕ) → IsAfter journal v
        → Keeps c own (journal ++ entry source line ∷ []) k' (readings c (journal ++ entry source line ∷ []))
    passing_after journal source line h =
        let kept = keeps journal source line h in subst (Keeps c own (journal ++ entry source line ∷ []) k') kept.readings_are kept

    pub passing_reading : (journal : List Entry) (source line : ℕ) → IsAfter journal v
        → readings v.start (journal ++ entry source line ∷ []) ≡ readings v.start journal ++ option_to_list reading
    passing_reading journal source line h =
        subst (λ (w : Passing). readings w.start (journal ++ entry source line ∷ []) ≡ readings w.start journal ++ option_to_list reading)
        view_is (sym (keeps journal source line h).readings_are)

-- ---- what is known of its meter

later_last : (before : Option Reading) (x : Reading) (rs : List Reading) → later_of before (last_of (Some x) rs) ≡ last_of (Some x) rs
later_last before x [] = refl
later_last before x (y ∷ rs) = later_last before y rs

-- the last of some readings, or the one before them
pub last_known_is : (before : Option Reading) (rs : List Reading) → later_of before (last_of None rs) ≡ last_of before rs
last_known_is before [] = refl
last_known_is before (x ∷ rs) = later_last before x rs

-- what is known by what is kept and the last reading is what is known behind the journal
pub passing_known : (v : Passing) (last : Option Reading) (journal : List Entry) → IsAfter journal v
    → last ≡ last_of None (readings v.start journal) → known_with v last ≡ resumed v.start journal
passing_known v last journal after last_is =
    let other = ap (λ (m : Commissioned). m.other) after.commission_is in
    let history = told_is v.kept.parts (told v.start (reverse journal)) after.parts_are in
    let reads = ap (later_of v.start.reading) last_is ∙ last_known_is v.start.reading (readings v.start journal) in
    cc (after.last_is, after.orders_are)

-- a meter that is known by its commission with these numbers, its fragments and its commands is known by what is kept
pub passing_now : (v : Passing) (own : Address) (c : Start) (k : Kept) (known : Start) (last shown : Option Reading)
    → record { own = own; start = c; kept = k } ≡ v → StandsAfterSome c own k
    → ((t : List Told) → StandsFor k.parts t → known.told ≡ cut_down t)
    → commission_of known ≡ record k.commission { last = k.last; down = k.orders.down; ids = k.orders.queue.ids }
    → known.orders ≡ k.orders → known.reading ≡ shown → shown ≡ later_of v.start.reading last → known ≡ known_with v last
passing_now v own c k known last shown view_is some tells commission commands reading shown_is =
    let keeps = some.keeps in
    let earlier = reverse some.journal in
    let history : known.told ≡ told_of k.parts =
    tells (told c earlier) keeps.parts_are ∙ sym (told_is k.parts (told c earlier) keeps.parts_are) in
    let reads : known.reading ≡ later_of c.reading last =
    reading ∙ shown_is ∙ ap (λ (w : Passing). later_of w.start.reading last) (sym view_is) in
    let address = ap (λ (m : Commissioned). m.address) commission ∙ ap (λ (m : Commissioned). m.address) keeps.commission_is in
    let mode = ap (λ (m : Commissioned). m.mode) commission ∙ ap (λ (m : Commissioned). m.mode) keeps.commission_is in
    let key = ap (λ (m : Commissioned). m.key) commission ∙ ap (λ (m : Commissioned). m.key) keeps.commission_is in
    let other = ap (λ (m : Commissioned). m.other) commission in
    let number = ap (λ (m : Commissioned). m.last) commission in
    let fields : record {
      address = known.address;
      mode = known.mode;
      key = known.key;
      other = known.other;
      last = known.last;
      told = known.told;
      orders = known.orders;
      reading = known.reading;
    } ≡ known_with (record { own = own; start = c; kept = k }) last = cc in
    subst (λ (w : Passing). known ≡ known_with w last) view_is fields
