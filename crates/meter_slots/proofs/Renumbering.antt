-- The numbers of receivers and lines make no difference to what is answered.
use mathlib.Core.Path.{fun_ext}
use Rattle.std.proofs.Common.{◌≡◌, ℕ, List, [], ◌∷◌, ◌++◌, map, reverse, Option, refl, ap, ap₂, sym, ◌∙◌, subst}
use Rattle.lists.proofs.Places.{map-reverse}
use Rattle.meter_address.specs.declared.address.Address.{Address}
use Rattle.afl_fragments.specs.Held.{Told}
use Rattle.meter_slots.specs.Hearing.{received, brought}
use Rattle.meter_slots.specs.declared.entry.Entry.{Entry}
use Rattle.meter_slots.specs.declared.entry.Event.{Event}
use Rattle.meter_slots.specs.declared.entry.Event.TheVariants.{Hear}
use Rattle.meter_slots.specs.declared.entry.Outcome.{Outcome}
use Rattle.meter_slots.specs.Journal.{Start, commission_of, told, told_by, other_after, other_key, rekeyed, genuine_in, genuine, counters}
use Rattle.meter_slots.specs.Journal.{last_counter, access_at, orders_after, orders, standing, Standing, answer}
use Rattle.meter_slots.specs.Journal.{outcome, IsJudged, Legal, stored, reading_of, readings_back, readings}
use Rattle.meter_slots.specs.Resuming.{last_of, resumed}
use Rattle.meter_slots.specs.declared.reading.Reading.{Reading}
use Rattle.afl_fragments.specs.Short.{cut_down}

-- both lists of entries come to the same
record IsSame (c : Start) (xs ys : List Entry) : Type 0 where
  pub other : other_key c xs ≡ other_key c ys
  pub told_is : told c xs ≡ told c ys
  pub counters_are : counters c xs ≡ counters c ys
  pub orders_are : orders c xs ≡ orders c ys
  pub readings_are : readings_back c xs ≡ readings_back c ys

module _ (c : Start) (xs ys : List Entry) (s : IsSame c xs ys) where
  genuine_same : (event : Event) → genuine c xs event ≡ genuine c ys event
  genuine_same (Hear format at t) =
      ap₂ (λ (o : Option (List ℕ)) (ts : List Told). genuine_in (rekeyed (commission_of c) o) (brought ts t (received c.mode t))) s.other s.told_is
  genuine_same _ = refl

  standing_same : standing c xs ≡ standing c ys
  unfolding last_counter
  standing_same = cc (s.other, s.told_is, s.counters_are, s.orders_are)

  same_more : (source line : ℕ) (x : Entry)
      → IsSame c (record { source = source; line = line; event = x.event; outcome = x.outcome } ∷ xs) (x ∷ ys)
  unfolding told
  same_more source line x = record {
    other = ap (other_after c.mode x.event) s.other;
    told_is = ap (λ (ts : List Told). told_by (commission_of c) x.event x.outcome ++ ts) s.told_is;
    counters_are = let g = genuine_same x.event in cc (s.counters_are);
    orders_are = ap (λ (t : Standing). orders_after t.orders (access_at (commission_of c) t x.event) x.event x.outcome) standing_same;
    readings_are = ap₂ (λ (rs : List Reading) (t : Standing). rs ++ reading_of x.event (stored (commission_of c) t x.event)) s.readings_are
        standing_same;
  }

module _ (source line : Entry → ℕ) (c : Start) where
  abbrev renumbered : Entry → Entry
  renumbered x = record { source = source x; line = line x; event = x.event; outcome = x.outcome }

  map_same : (es : List Entry) → IsSame c (map renumbered es) es
  map_same [] = record { other = refl; told_is = refl; counters_are = refl; orders_are = refl; readings_are = refl }
  map_same (x ∷ es) = same_more c (map renumbered es) es (map_same es) (source x) (line x) x

  judged_same : (own : Address) (es : List Entry) → IsJudged c own es → IsJudged c own (map renumbered es)
  unfolding outcome
  judged_same own [] j = tt
  judged_same own (x ∷ es) j = (
    j.0 ∙ ap (λ (s : Standing). answer (commission_of c) own s x.event) (sym (standing_same c (map renumbered es) es (map_same es))),
    judged_same own es j.1,
  )

  -- what is known behind a standing and some readings
  abbrev known : Standing → List Reading → Start
  known s rs = record {
    address = c.address;
    mode = c.mode;
    key = c.key;
    other = s.other;
    last = s.last;
    told = cut_down s.told;
    orders = s.orders;
    reading = last_of c.reading rs;
  }

  resumed_same : (journal : List Entry) → resumed c (map renumbered journal) ≡ resumed c journal
  unfolding readings
  resumed_same journal =
      let s : IsSame c (reverse (map renumbered journal)) (reverse journal) =
      subst (λ (es : List Entry). IsSame c es (reverse journal)) (map-reverse renumbered journal) (map_same (reverse journal)) in
      ap₂ known (standing_same c (reverse (map renumbered journal)) (reverse journal) s) s.readings_are

module _ (f : Entry → Entry) (event_is : (x : Entry) → (f x).event ≡ x.event) (outcome_is : (x : Entry) → (f x).outcome ≡ x.outcome) where
  f_is : (c : Start) → f ≡ renumbered (λ x. (f x).source) (λ x. (f x).line) c
  f_is c = fun_ext (λ x. ap₂ (λ (e : Event) (o : Outcome). record { source = (f x).source; line = (f x).line; event = e; outcome = o })
      (event_is x) (outcome_is x))

  pub resumed_renumbered : (c : Start) (journal : List Entry) → resumed c (map f journal) ≡ resumed c journal
  resumed_renumbered c journal =
      ap (λ (g : Entry → Entry). resumed c (map g journal)) (f_is c) ∙ resumed_same (λ x. (f x).source) (λ x. (f x).line) c journal

  pub legal_renumbered : (c : Start) (own : Address) (journal : List Entry) → Legal c own journal → Legal c own (map f journal)
  legal_renumbered c own journal j =
      subst (IsJudged c own) (ap (λ (g : Entry → Entry). map g (reverse journal)) (sym (f_is c)) ∙ map-reverse f journal)
      (judged_same (λ x. (f x).source) (λ x. (f x).line) c own (reverse journal) j)
