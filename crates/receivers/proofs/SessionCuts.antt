-- Two sessions, of which the second goes on where the first one ended, are one session.
use Rattle.std.proofs.Common.{◌≡◌, ℕ, ◌+◌, ◌==◌, ◌||◌, Bool, true, false, cond, List, [], ◌∷◌, ◌++◌, length, map, filter, Option, Some, None, refl, ap, sym, ◌∙◌, arith, subst}
use Rattle.std.specs.Prelude.{option_map}
use Rattle.std.specs.List.{filter_map, enumerate_from, cons_option}
use Rattle.std.proofs.lemmas.List.{map-append}
use Rattle.std.proofs.lemmas.List.Elements.{filter-append, filter_map-append}
use Rattle.lists.specs.Each.{EachWith}
use Rattle.lists.proofs.Members.{with_fold}
use Rattle.receivers.proofs.Numbers.{enumerate_on}
use Rattle.receivers.proofs.Picked.{cons_map, made_by_source}
use Rattle.meter_address.specs.declared.address.Address.{Address}
use Rattle.meter_slots.specs.declared.entry.Entry.{Entry}
use Rattle.meter_slots.specs.declared.entry.Event.{Event}
use Rattle.meter_slots.specs.Journal.{Start, SlotView, Legal}
use Rattle.meter_slots.specs.Resuming.{resumed}
use Rattle.meter_slots.specs.World.{WorldView, is_commissioned}
use Rattle.meter_slots.proofs.Cuts.{legal_joined}
use Rattle.meter_slots.proofs.Renumbering.{legal_renumbered}
use Rattle.stranger_ring.specs.declared.strangers.Heard.{Heard}
use Rattle.receivers.specs.declared.told.Told.{Told}
use Rattle.receivers.specs.declared.told.Told.TheVariants as told
use Rattle.receivers.specs.Session.{heard_by, event_at, lines_for, stranger_at, lines_of_strangers, entries_by, steps_by, notes_by}
use Rattle.receivers.specs.Session.{IsMetersSlot, IsSession}
use Rattle.receivers.specs.Cuts.{AreHeardOn, starts_behind, numbered_on, noted_on, slot_on, slots_on, world_on, CutSessionsAreOne}

-- ---- numbered lines

abbrev later_by : {E : Type 0} → ℕ → ℕ × E → ℕ × E
later_by n p = (n + p.0, p.1)

module _ {E : Type 0} (f : ℕ → Told → Option (ℕ × E)) (n : ℕ) (natural : (m : ℕ) (t : Told) → f (n + m) t ≡ option_map (later_by n) (f m t)) where
  later_lines : (m : ℕ) (h : List Told)
      → filter_map (λ l. f l.0 l.1) (enumerate_from (n + m) h) ≡ map (later_by n) (filter_map (λ l. f l.0 l.1) (enumerate_from m h))
  later_lines m [] = refl
  later_lines m (t ∷ h) =
      let e : (n + m) + 1 ≡ n + (m + 1) = omega arith in
      ap (λ k. cons_option (f (n + m) t) (filter_map (λ l. f l.0 l.1) (enumerate_from k h))) e
      ∙ ap (cons_option (f (n + m) t)) (later_lines (m + 1) h)
      ∙ ap (λ o. cons_option o (map (later_by n) (filter_map (λ l. f l.0 l.1) (enumerate_from (m + 1) h)))) (natural m t)
      ∙ sym (cons_map (later_by n) (f m t) (filter_map (λ l. f l.0 l.1) (enumerate_from (m + 1) h)))

-- the lines of a receiver that heard some and then others
lines_on : {E : Type 0} (f : ℕ → Told → Option (ℕ × E)) (before after : List Told)
    → ((m : ℕ) (t : Told) → f (length before + m) t ≡ option_map (later_by (length before)) (f m t))
    → filter_map (λ l. f l.0 l.1) (enumerate_from 1 (before ++ after))
    ≡ filter_map (λ l. f l.0 l.1) (enumerate_from 1 before)
    ++ map (later_by (length before)) (filter_map (λ l. f l.0 l.1) (enumerate_from 1 after))
lines_on f before after natural =
    let n = length before in
    let e : 1 + n ≡ n + 1 = omega arith in
    ap (filter_map (λ l. f l.0 l.1)) (enumerate_on 1 before after ∙ ap (λ k. enumerate_from 1 before ++ enumerate_from k after) e)
    ∙ filter_map-append (λ l. f l.0 l.1) (enumerate_from 1 before) (enumerate_from (n + 1) after)
    ∙ ap (λ ls. filter_map (λ l. f l.0 l.1) (enumerate_from 1 before) ++ ls) (later_lines f n natural 1 after)

later_if : {E : Type 0} (n : ℕ) (b : Bool) (o p : Option (ℕ × E))
    → cond b (option_map (later_by n) o) (option_map (later_by n) p) ≡ option_map (later_by n) (cond b o p)
later_if n true o p = refl
later_if n false o p = refl

event_later : (a : Address) (n m : ℕ) (t : Told) → event_at a (n + m) t ≡ option_map (later_by n) (event_at a m t)
event_later a n m (told.Event address event) = later_if n (a.0 == address.0) (Some (m, event)) None
event_later a n m _ = refl

stranger_later : (cs : List Start) (n m : ℕ) (t : Told) → stranger_at cs (n + m) t ≡ option_map (later_by n) (stranger_at cs m t)
stranger_later cs n m (told.Event address event) = later_if n (is_commissioned cs address) None (Some (m, address))
stranger_later cs n m _ = refl

-- ---- a receiver's part of a journal, and of the strangers' lines

module _ (before : List (List Told)) (w : ℕ) where
  abbrev n : ℕ
  n = length (heard_by w before)

  steps_on : (journal : List Entry) → steps_by w (map (numbered_on before) journal) ≡ map (later_by n) (steps_by w journal)
  steps_on journal = made_by_source (λ (x : Entry). x.source) (λ (x : Entry). (x.line, x.event)) (numbered_on before)
      (λ v. later_by (length (heard_by v before))) (λ x. refl) (λ x. refl) w journal

  notes_on : (heard : List Heard) → notes_by w (map (noted_on before) heard) ≡ map (later_by n) (notes_by w heard)
  notes_on heard = made_by_source (λ (h : Heard). h.source) (λ (h : Heard). (h.line, h.address)) (noted_on before)
      (λ v. later_by (length (heard_by v before))) (λ h. refl) (λ h. refl) w heard

-- ---- one meter

module _ (own : Address) (before after all : List (List Told)) (on : AreHeardOn before after all) where
  slot_cut : (c : Start) (b d : SlotView) → IsMetersSlot own before c b → IsMetersSlot own after (resumed b.start b.journal) d
      → IsMetersSlot own all c (slot_on before b d)
  slot_cut c b d first second =
      let next : resumed b.start b.journal ≡ resumed c b.journal = ap (λ (s : Start). resumed s b.journal) first.commission_is in
      let legal : Legal (resumed c b.journal) own d.journal = subst (λ (s : Start). Legal s own d.journal) next second.legal in
      record {
        own_is = first.own_is;
        commission_is = first.commission_is;
        legal = legal_joined c b.journal own (map (numbered_on before) d.journal) first.legal
            (legal_renumbered (numbered_on before) (λ x. refl) (λ x. refl) (resumed c b.journal) own d.journal legal);
        lines = λ w.
            ap (map (λ (x : Entry). (x.line, x.event)))
            (filter-append (λ (x : Entry). x.source == w) b.journal (map (numbered_on before) d.journal))
            ∙ map-append (λ (x : Entry). (x.line, x.event)) (entries_by w b.journal) (entries_by w (map (numbered_on before) d.journal))
            ∙ ap (λ ls. steps_by w b.journal ++ ls) (steps_on before w d.journal)
            ∙ ap (λ ls. ls ++ map (later_by (length (heard_by w before))) (steps_by w d.journal)) (first.lines w)
            ∙ ap (λ ls. lines_for c.address (heard_by w before) ++ map (later_by (length (heard_by w before))) ls) (second.lines w ∙ same b first w)
            ∙ sym (lines_on (event_at c.address) (heard_by w before) (heard_by w after) (event_later c.address (length (heard_by w before))))
            ∙ ap (lines_for c.address) (sym (on w));
      }
    where
      same : (b : SlotView) → IsMetersSlot own before c b → (w : ℕ) → lines_for b.start.address (heard_by w after) ≡ lines_for c.address (heard_by w after)
      same b first w = ap (λ (s : Start). lines_for s.address (heard_by w after)) first.commission_is

  slots_cut : (cs : List Start) (bs ds : List SlotView) → EachWith (IsMetersSlot own before) cs bs
      → EachWith (IsMetersSlot own after) (starts_behind bs) ds → EachWith (IsMetersSlot own all) cs (slots_on before bs ds)
  slots_cut [] [] [] first second = tt
  slots_cut [] (b ∷ bs) ds first second = absurd first
  slots_cut (c ∷ cs) [] ds first second = absurd first
  slots_cut (c ∷ cs) (b ∷ bs) (d ∷ ds) first second = (slot_cut c b d first.0 second.0, slots_cut cs bs ds first.1 second.1)
  slots_cut _ _ _ first second = absurd second

  -- the same addresses are commissioned
  any_behind : (address : Address) (cs : List Start) (bs : List SlotView) → EachWith (IsMetersSlot own before) cs bs
      → is_commissioned (starts_behind bs) address ≡ is_commissioned cs address
  any_behind address = with_fold (IsMetersSlot own before) (λ cs bs. is_commissioned (starts_behind bs) address ≡ is_commissioned cs address)
      refl (λ c b cs bs first _ rest.
      ap (λ (s : Start). (s.address.0 == address.0) || is_commissioned (starts_behind bs) address) first.commission_is
      ∙ ap (λ t. (c.address.0 == address.0) || t) rest)

  stranger_behind : (cs : List Start) (bs : List SlotView) → EachWith (IsMetersSlot own before) cs bs → (line : ℕ) (t : Told)
      → stranger_at (starts_behind bs) line t ≡ stranger_at cs line t
  stranger_behind cs bs first line (told.Event address event) =
      ap (λ b. cond b None (Some (line, address))) (any_behind address cs bs first)
  stranger_behind cs bs first line _ = refl

  session_cut : (cs : List Start) (w later : WorldView) → IsSession own cs before w → IsSession own (starts_behind w.slots) after later
      → IsSession own cs all (world_on before w later)
  session_cut cs w later first second = record {
    meters = slots_cut cs w.slots later.slots first.meters second.meters;
    strangers = λ v.
        ap (map (λ (h : Heard). (h.line, h.address)))
        (filter-append (λ (h : Heard). h.source == v) w.strangers (map (noted_on before) later.strangers))
        ∙ map-append (λ (h : Heard). (h.line, h.address)) (filter (λ (h : Heard). h.source == v) w.strangers)
        (filter (λ (h : Heard). h.source == v) (map (noted_on before) later.strangers))
        ∙ ap (λ ls. notes_by v w.strangers ++ ls) (notes_on before v later.strangers)
        ∙ ap (λ ls. ls ++ map (later_by (length (heard_by v before))) (notes_by v later.strangers)) (first.strangers v)
        ∙ ap (λ ls. lines_of_strangers cs (heard_by v before) ++ map (later_by (length (heard_by v before))) ls)
        (second.strangers v ∙ (λ i. filter_map (λ (l : ℕ × Told). stranger_behind cs w.slots first.meters l.0 l.1 i) (enumerate_from 1 (heard_by v after))))
        ∙ sym (lines_on (stranger_at cs) (heard_by v before) (heard_by v after) (stranger_later cs (length (heard_by v before))))
        ∙ ap (lines_of_strangers cs) (sym (on v));
  }

pub cut_sessions : CutSessionsAreOne
cut_sessions own starts before after all w later on first second = session_cut own before after all on starts w later first second
