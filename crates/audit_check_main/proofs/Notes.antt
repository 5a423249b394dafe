-- The strangers' list, noted in the order of a printed list.
use Rattle.std.proofs.Common.{◌≡◌, ℕ, ◌+◌, ◌<◌, Bool, true, false, cond, List, [], ◌∷◌, ◌++◌, map, length, take, get_or, Some, None, refl, sym, ap, ◌∙◌, subst}
use Rattle.std.proofs.lemmas.List.{length-map}
use Rattle.std.proofs.Math.Seq.{take-length}
use Rattle.lists.specs.Each.{Each}
use Rattle.meter_address.specs.declared.address.Address.{Address}
use Rattle.meter_slots.specs.Journal.{Start}
use Rattle.meter_slots.specs.declared.entry.Event.{Event}
use Rattle.meter_slots.specs.World.{is_commissioned}
use Rattle.stranger_ring.specs.declared.strangers.Heard.{Heard}
use Rattle.receivers.specs.declared.told.Told.{Told}
use Rattle.receivers.specs.declared.told.Told.TheVariants as told
use Rattle.receivers.specs.Orders.{AreOrderedStrangers}
use Rattle.receivers.specs.Session.{stranger_at, lines_of_strangers}
use Rattle.audit_check_main.specs.Hearing.{HeardInput, tells, input_of, told_at}
use Rattle.audit_check_main.proofs.Steps.{tells_of, all_lines_told, of_all, StandsAt, stands_at, taken_next}

-- a line tells something for an address that no meter has
abbrev pub HasAddress : List Start → Told → Address → Type 0
HasAddress cs t address = (event : Event) × ((t ≡ told.Event address event) × (is_commissioned cs address ≡ false))

address_if : (cs : List Start) (b : Bool) (line : ℕ) (address : Address) (event : Event) (p : ℕ × Address)
    → is_commissioned cs address ≡ b → cond b None (Some (line, address)) ≡ Some p
    → (p.0 ≡ line) × HasAddress cs (told.Event address event) p.1
address_if cs true line address event p is e = absurd cc
address_if cs false line address event p is e =
    let same : (line, address) ≡ p = cc in
    let address_is = ap (λ (q : ℕ × Address). q.1) same in (
      sym (ap (λ (q : ℕ × Address). q.0) same),
      (event, (ap (λ a. told.Event a event) address_is, sym (ap (is_commissioned cs) address_is) ∙ is)),
    )

address_fits : (cs : List Start) (line : ℕ) (t : Told) (p : ℕ × Address) → stranger_at cs line t ≡ Some p → (p.0 ≡ line)
    × HasAddress cs t p.1
address_fits cs line (told.Event address event) p e = address_if cs (is_commissioned cs address) line address event p refl e
address_fits cs line _ p e = absurd cc

abbrev pub note_pair : Heard → ℕ × ℕ
note_pair x = (x.source, x.line)

module _ (heard : List HeardInput) (cs : List Start) (order : List (ℕ × ℕ)) (target : List Heard)
    (h : AreOrderedStrangers cs (map tells heard) order target) where
  pub note_told : Each (λ (x : Heard). HasAddress cs (told_at heard x.source x.line) x.address) target
  note_told = of_all (λ (x : Heard). x.source) (λ (x : Heard). (x.line, x.address)) (λ w p. HasAddress cs (told_at heard w p.0) p.1) target
      (λ w. subst (Each (λ (p : ℕ × Address). HasAddress cs (told_at heard w p.0) p.1))
      (sym (h.lines w ∙ ap (lines_of_strangers cs) (tells_of heard w)))
      (all_lines_told (λ l. stranger_at cs l.0 l.1) (HasAddress cs) (address_fits cs) (input_of heard w).lines))

  pub noted_told : (i : ℕ) (pair : ℕ × ℕ) → i < length order → pair ≡ get_or order i (0, 0)
      → StandsAt note_pair (λ (x : Heard). x.address) heard (HasAddress cs) order target h.in_order note_told i pair
  noted_told = stands_at note_pair (λ (x : Heard). x.address) heard (HasAddress cs) order target h.in_order note_told

  pub note_more : (i : ℕ) (pair : ℕ × ℕ) (address : Address) (event : Event) (heard_so : List Heard) → i < length order
      → pair ≡ get_or order i (0, 0) → heard_so ≡ take i target → told_at heard pair.0 pair.1 ≡ told.Event address event
      → heard_so ++ record { source = pair.0; line = pair.1; address = address } ∷ [] ≡ take (i + 1) target
  note_more i pair address event heard_so inside is so tells_event =
      let at = noted_told i pair inside is in
      let both : told.Event address event ≡ told.Event at.item.address at.told_is.0 = sym tells_event ∙ at.told_is.1.0 in
      let address_is : address ≡ at.item.address = cc in
      ap (λ l. l ++ record { source = pair.0; line = pair.1; address = address } ∷ []) so
      ∙ taken_next note_pair (λ (x : Heard). x.address) heard (HasAddress cs) order target h.in_order note_told i pair at _
      (λ j. record { source = (at.pair_is j).0; line = (at.pair_is j).1; address = address_is j })

  pub all_noted : (strangers : List Heard) (n : ℕ) → n ≡ length order → strangers ≡ take n target
      → AreOrderedStrangers cs (map tells heard) order strangers
  all_noted strangers n e so =
      let long = sym (ap length h.in_order) ∙ length-map target note_pair in
      subst (AreOrderedStrangers cs (map tells heard) order)
      (sym (so ∙ (ap (λ m. take m target) (e ∙ long) ∙ take-length target))) h
