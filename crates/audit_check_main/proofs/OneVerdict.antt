-- At most one verdict holds of a report.
use Rattle.std.proofs.Common.{◌≡◌, ◌==◌, ℕ, zero, suc, ◌+◌, ◌<◌, ◌≤◌, Bool, true, false, cond, List, [], ◌∷◌, ◌++◌, map, filter, length, take, drop, get_or, reverse, Result, Ok, Err, IfOk, ⊎_elim, refl, sym, ap, ◌∙◌, subst, arith, append_assoc, append-nil, length-append}
use Rattle.std.specs.Prelude.{Some, IfSome}
use Rattle.std.specs.List.{slice_get}
use Rattle.std.proofs.lemmas.Bool.{both_ways, cases_lt}
use Rattle.std.proofs.lemmas.List.{length-map, reverse-append, same_from_push, take-append-drop, take-take}
use Rattle.std.proofs.Math.Seq.{take-length}
use Rattle.lists.proofs.Places.{head_is, tail_is}
use Rattle.lists.specs.Each.{EachWith, IsFirst}
use Rattle.line_reader.specs.Lines.{is_over}
use Rattle.meter_address.specs.declared.address.Address.{Address}
use Rattle.meter_slots.specs.Journal.{Start, SlotView}
use Rattle.meter_slots.specs.World.{WorldView}
use Rattle.meter_slots.proofs.JournalLaws.{front_back}
use Rattle.stranger_ring.specs.declared.strangers.Heard.{Heard}
use Rattle.receivers.specs.declared.told.Told.{Told}
use Rattle.receivers.specs.Orders.{order_of, numbers_by, order_of_strangers}
use Rattle.receivers.specs.Session.{heard_by, lines_for, lines_of_strangers, notes_by, IsMetersSlot, IsSession}
use Rattle.receivers.proofs.OrderLaws.{one_slot, one_strangers, in_order}
use Rattle.report_text.specs.Orders.{orders, lines_in}
use Rattle.report_text.specs.OrdersLaw.{orders_of}
use Rattle.state_file.specs.declared.fault.StateFault.{StateFault}
use Rattle.state_file.specs.Whole.{Known, state_of}
use Rattle.audit_check_main.specs.declared.verdict.Cause.{Cause}
use Rattle.audit_check_main.specs.declared.verdict.Cause.TheVariants as causes
use Rattle.audit_check_main.specs.declared.verdict.Verdict.{Verdict}
use Rattle.audit_check_main.specs.declared.verdict.Verdict.TheVariants.{Yes, No}
use Rattle.audit_check_main.specs.Audit.{Audited, heard_of, report_of, IsReadable, IsInForm, IsOrdered, IsFaithful, IsUnfaithfulAt, IsOtherwiseLeftAt, IsCause, IsVerdict}
use Rattle.audit_check_main.specs.Difference.{DiffersAt}
use Rattle.audit_check_main.specs.Leaving.{IsLeftBy, left_text, line_at}
use Rattle.audit_check_main.specs.Lists.{is_faulty, AreInForm, IsFirstFaulty, lists_printed}
use Rattle.audit_check_main.specs.Order.{wanted, AreNext, IsRight, IsWrongAt, IsFirstWrong}
use Rattle.audit_check_main.proofs.Compared.{get-take}
use Rattle.audit_check_main.proofs.Firsts.{none_stops, one_stops}
use Rattle.audit_check_main.proofs.OrderChecks.{numbers_append}
use Rattle.audit_check_main.proofs.ReadLists.{as_many-all}
use Rattle.audit_check_main.proofs.Slots.{as_many_slots}

-- ---- the first input past the limits

never_both : (input : List ℕ) → is_over input ≡ false → is_over input ≡ true → ⊥
never_both input = both_ways (is_over input)

-- ---- the first line that is out of form

-- where the one split of a list stands in front of the other
record IsInside (front : List (List ℕ)) (line : List ℕ) (other : List (List ℕ)) : Type 0 where
  later : List (List ℕ)
  is : other ≡ front ++ line ∷ later

inside : (front front' below below' : List (List ℕ)) (line line' : List ℕ) → front ++ line ∷ below ≡ front' ++ line' ∷ below'
    → length front < length front' → IsInside front line front'
inside [] [] below below' line line' e h = absurd (omega arith)
inside [] (x ∷ front') below below' line line' e h =
    record { later = front'; is = let same : line ≡ x = cc in ap (λ l. l ∷ front') (sym same) }
inside (x ∷ front) [] below below' line line' e h = absurd (omega arith)
inside (x ∷ front) (y ∷ front') below below' line line' e h =
    let same : x ≡ y = cc in
    let rest : front ++ line ∷ below ≡ front' ++ line' ∷ below' = cc in
    let deeper = inside front front' below below' line line' rest (omega arith) in
    record { later = deeper.later; is = (λ i. sym same i ∷ deeper.is i) }

in_form_back : (n : ℕ) (later earlier : List (List ℕ)) → AreInForm n (later ++ earlier) → AreInForm n earlier
in_form_back n [] earlier h = h
in_form_back n (line ∷ later) earlier h = in_form_back n later earlier h.1

from_line : (front : List (List ℕ)) (line : List ℕ) (later : List (List ℕ))
    → reverse (front ++ line ∷ later) ≡ reverse later ++ line ∷ reverse front
from_line front line later =
    reverse-append front (line ∷ later) ∙ (ap (λ l. l ++ reverse front) (front_back line later)
    ∙ append_assoc (reverse later) (line ∷ []) (reverse front))

fine_inside : (n : ℕ) (front : List (List ℕ)) (line : List ℕ) (later : List (List ℕ)) → AreInForm n (reverse (front ++ line ∷ later))
    → is_faulty n (reverse front) line ≡ true → ⊥
fine_inside n front line later h faulty =
    let fine = in_form_back n (reverse later) (line ∷ reverse front) (subst (AreInForm n) (from_line front line later) h) in
    both_ways _ fine.0 faulty

faulty_not : (n number : ℕ) (lines : List (List ℕ)) → IsFirstFaulty n lines number → AreInForm n (reverse lines) → ⊥
faulty_not n number lines h fine = fine_inside n h.above h.line h.below (subst (λ l. AreInForm n (reverse l)) h.cut fine) h.faulty

not_earlier : (n p q : ℕ) (lines : List (List ℕ)) → IsFirstFaulty n lines p → IsFirstFaulty n lines q → p < q → ⊥
not_earlier n p q lines h k less =
    let a = h.number_is in let b = k.number_is in
    let cuts = inside h.above k.above h.below k.below h.line k.line (sym h.cut ∙ k.cut) (omega arith) in
    fine_inside n h.above h.line cuts.later (subst (λ l. AreInForm n (reverse l)) cuts.is k.in_form) h.faulty

by_order : (p q : ℕ) → (p < q → ⊥) → (q < p → ⊥) → p ≡ q
by_order p q h k =
    ⊎_elim (λ less. absurd (h less)) (λ more. ⊎_elim (λ less. absurd (k less)) (λ le. omega arith) (cases_lt q p)) (cases_lt p q)

one_faulty : (n p q : ℕ) (lines : List (List ℕ)) → IsFirstFaulty n lines p → IsFirstFaulty n lines q → p ≡ q
one_faulty n p q lines h k = by_order p q (not_earlier n p q lines h k) (not_earlier n q p lines k h)

-- ---- where a list goes wrong

-- the first pairs of those that are each the next one are so too
fewer_next : (numbers : ℕ → List ℕ) (order : List (ℕ × ℕ)) (p q : ℕ) → p ≤ q
    → AreNext numbers (take q order) → AreNext numbers (take p order)
fewer_next numbers order p q few next w =
    let rest = drop p (take q order) in
    let cut : take q order ≡ take p order ++ rest =
    sym (take-append-drop p (take q order)) ∙ ap (λ l. l ++ rest) (take-take p q order few) in record {
      rest = numbers_by w rest ++ (next w).rest;
      joined = (next w).joined ∙ (ap (λ o. numbers_by w o ++ (next w).rest) cut
          ∙ (ap (λ l. l ++ (next w).rest) (numbers_append w (take p order) rest)
          ∙ append_assoc (numbers_by w (take p order)) (numbers_by w rest) (next w).rest));
    }

right_next : (numbers : ℕ → List ℕ) (order : List (ℕ × ℕ)) → IsRight numbers order → AreNext numbers order
right_next numbers order right w = record { rest = []; joined = sym (right w) ∙ sym (append-nil (numbers_by w order)) }

wrong_not_right : (numbers : ℕ → List ℕ) (order : List (ℕ × ℕ)) (place : ℕ) → IsWrongAt numbers order place → IsRight numbers order → ⊥
wrong_not_right numbers order place wrong right =
    ⊎_elim (λ less. wrong.wrong_pair less (fewer_next numbers order (place + 1) (length order) (omega arith)
    (subst (AreNext numbers) (sym (take-length order)) (right_next numbers order right))))
    (λ more. let w = wrong.within in wrong.missing (omega arith) right) (cases_lt place (length order))

not_before : (numbers : ℕ → List ℕ) (order : List (ℕ × ℕ)) (p q : ℕ) → IsWrongAt numbers order p → IsWrongAt numbers order q → p < q → ⊥
not_before numbers order p q h k less =
    let within = k.within in h.wrong_pair (omega arith) (fewer_next numbers order (p + 1) q (omega arith) k.right_before)

one_place : (numbers : ℕ → List ℕ) (order : List (ℕ × ℕ)) (p q : ℕ) → IsWrongAt numbers order p → IsWrongAt numbers order q → p ≡ q
one_place numbers order p q h k = by_order p q (not_before numbers order p q h k) (not_before numbers order q p k h)

one_list : (numbers : ℕ → ℕ → List ℕ) (lists : List (List (ℕ × ℕ))) (l m p q : ℕ) → IsFirstWrong numbers lists l p
    → IsFirstWrong numbers lists m q → l ≡ m
one_list numbers lists l m p q h k =
    by_order l m (λ less. wrong_not_right (numbers l) (get_or lists l []) p h.wrong (k.right_before l less))
    (λ less. wrong_not_right (numbers m) (get_or lists m []) q k.wrong (h.right_before m less))

-- ---- a session's lists are right

numbers_of_notes : (w : ℕ) (heard : List Heard)
    → numbers_by w (order_of_strangers heard) ≡ map (λ (l : ℕ × Address). l.0) (notes_by w heard)
numbers_of_notes w [] = refl
numbers_of_notes w (x ∷ xs) = at (x.source == w) (numbers_of_notes w xs)
  where
    at : (b : Bool) → numbers_by w (order_of_strangers xs) ≡ map (λ (l : ℕ × Address). l.0) (notes_by w xs)
        → map (λ (p : ℕ × ℕ). p.1) (cond b ((x.source, x.line) ∷ filter (λ (p : ℕ × ℕ). p.0 == w) (order_of_strangers xs))
        (filter (λ (p : ℕ × ℕ). p.0 == w) (order_of_strangers xs)))
        ≡ map (λ (l : ℕ × Address). l.0) (map (λ (h : Heard). (h.line, h.address))
        (cond b (x ∷ filter (λ (h : Heard). h.source == w) xs) (filter (λ (h : Heard). h.source == w) xs)))
    at true e = ap (λ l. x.line ∷ l) e
    at false e = e

abbrev own_numbers : List (List Told) → ℕ → Start → List ℕ
own_numbers all w c = map (λ l. l.0) (lines_for c.address (heard_by w all))

each_right : (own : Address) (all : List (List Told)) (behind : ℕ → List ℕ) (noted : List (ℕ × ℕ))
    → ((w : ℕ) → numbers_by w noted ≡ behind w) → (cs : List Start) (slots : List SlotView)
    → EachWith (IsMetersSlot own all) cs slots
    → (k : ℕ) → k ≤ length cs → (w : ℕ)
    → numbers_by w (get_or (map (λ (s : SlotView). order_of s.journal) slots ++ noted ∷ []) k []) ≡ get_or
    (map (own_numbers all w) cs ++ behind w ∷ []) k []
each_right own all behind noted last [] [] h zero le w = last w
each_right own all behind noted last [] [] h (suc k) le w = absurd (omega arith)
each_right own all behind noted last (c ∷ cs) (s ∷ slots) h zero le w = in_order own c all s h.0 w
each_right own all behind noted last (c ∷ cs) (s ∷ slots) h (suc k) le w =
    each_right own all behind noted last cs slots h.1 k (omega arith) w
each_right own all behind noted last _ _ h k le w = absurd h

-- the lists of a session
abbrev lists_of : WorldView → List (List (ℕ × ℕ))
lists_of world = map (λ (s : SlotView). order_of s.journal) world.slots ++ order_of_strangers world.strangers ∷ []

lists_are : (own : Address) (cs : List Start) (all : List (List Told)) (world : WorldView) → IsSession own cs all world
    → lists_printed (length cs) (orders_of world.slots world.strangers) ≡ lists_of world
lists_are own cs all world session =
    ap (λ l. l ++ order_of_strangers world.strangers ∷ [])
    (as_many-all (length cs) (map (λ (s : SlotView). order_of s.journal) world.slots)
    (length-map world.slots (λ (s : SlotView). order_of s.journal) ∙ as_many_slots own all cs world.slots session.meters))

printed_are : (a : Audited) (r : Known) (world : WorldView) → IsOrdered a r world
    → lists_printed (length r.starts) (orders a.report) ≡ lists_of world
printed_are a r world h = h.printed ∙ lists_are r.own r.starts (heard_of a) world h.session

ordered_right : (a : Audited) (r : Known) (world : WorldView) → IsOrdered a r world → (k : ℕ)
    → k < length (lists_printed (length r.starts) (orders a.report))
    → IsRight (wanted r.starts (heard_of a) k) (get_or (lists_printed (length r.starts) (orders a.report)) k [])
ordered_right a r world h k inside =
    let same = printed_are a r world h in
    let count = as_many_slots r.own (heard_of a) r.starts world.slots h.session.meters in
    let long =
    ap length same ∙ (length-append (map (λ (s : SlotView). order_of s.journal) world.slots) (order_of_strangers world.strangers ∷ [])
    ∙ ap (λ n. n + 1) (length-map world.slots (λ (s : SlotView). order_of s.journal))) in
    subst (λ ls. IsRight (wanted r.starts (heard_of a) k) (get_or ls k [])) (sym same)
    (each_right r.own (heard_of a) (λ w. map (λ l. l.0) (lines_of_strangers r.starts (heard_by w (heard_of a))))
    (order_of_strangers world.strangers)
    (λ w. numbers_of_notes w world.strangers ∙ ap (map (λ (l : ℕ × Address). l.0)) (h.session.strangers w))
    r.starts world.slots h.session.meters k (omega arith))

wrong_not_ordered : (a : Audited) (r : Known) (world : WorldView) (list place : ℕ)
    → IsFirstWrong (wanted r.starts (heard_of a)) (lists_printed (length r.starts) (orders a.report)) list place → IsOrdered a r world → ⊥
wrong_not_ordered a r world list place wrong h =
    wrong_not_right (wanted r.starts (heard_of a) list) (get_or (lists_printed (length r.starts) (orders a.report)) list [])
    place wrong.wrong (ordered_right a r world h list wrong.within)

-- ---- one session

one_each : (own : Address) (all : List (List Told)) (cs : List Start) (slots slots' : List SlotView)
    → EachWith (IsMetersSlot own all) cs slots → EachWith (IsMetersSlot own all) cs slots'
    → map (λ (s : SlotView). order_of s.journal) slots ≡ map (λ (s : SlotView). order_of s.journal) slots' → slots ≡ slots'
one_each own all [] [] [] h k e = refl
one_each own all [] [] (s ∷ slots') h k e = absurd k
one_each own all [] (s ∷ slots) slots' h k e = absurd h
one_each own all (c ∷ cs) [] slots' h k e = absurd h
one_each own all (c ∷ cs) (s ∷ slots) [] h k e = absurd k
one_each own all (c ∷ cs) (s ∷ slots) (s' ∷ slots') h k e =
    (λ i. one_slot own c all all s s' h.0 k.0 (λ w. refl) (head_is _ _ _ _ e) i
    ∷ one_each own all cs slots slots' h.1 k.1 (tail_is _ _ _ _ e) i)

one_world : (a : Audited) (r : Known) (world world' : WorldView) → IsOrdered a r world → IsOrdered a r world' → world ≡ world'
one_world a r world world' h k =
    let both = same_from_push _ _ _ _ (sym (printed_are a r world h) ∙ printed_are a r world' k) in
    let slots = one_each r.own (heard_of a) r.starts world.slots world'.slots h.session.meters k.session.meters both.0 in
    let strangers =
    one_strangers (λ w. lines_of_strangers r.starts (heard_by w (heard_of a)))
    world.strangers world'.strangers h.session.strangers k.session.strangers both.1 in
    (λ i. record { slots = slots i; strangers = strangers i })

-- ---- one place of a difference

not_nearer : (text other : List ℕ) (p q : ℕ) → DiffersAt p text other → DiffersAt q text other → p < q → ⊥
not_nearer text other p q h k less = h.differs (sym (get-take text p q less) ∙ (ap (λ l. slice_get l p) k.same ∙ get-take other p q less))

one_difference : (text other : List ℕ) (p q : ℕ) → DiffersAt p text other → DiffersAt q text other → p ≡ q
one_difference text other p q h k = by_order p q (not_nearer text other p q h k) (not_nearer text other q p k h)

-- ---- one verdict

same_state : (a : Audited) (r r' : Known) → state_of a.state ≡ Ok r → state_of a.state ≡ Ok r' → r' ≡ r
same_state a r r' h k = cc

module _ (a : Audited) where
  abbrev Over : ℕ → Type 0
  Over w = IsFirst (λ input. is_over input ≡ false) (λ input. is_over input ≡ true) w a.inputs

  no_state : {f : StateFault} (r : Known) → state_of a.state ≡ Err f → state_of a.state ≡ Ok r → ⊥
  no_state r h k = absurd cc

  over_not : (w : ℕ) (r : Known) → Over w → IsReadable a r → ⊥
  over_not w r h k =
      none_stops (λ input. is_over input ≡ false) (λ input. is_over input ≡ true) (λ input. is_over input ≡ false) never_both 1 w a.inputs h k.within

  form_not : (line : ℕ) (r r' : Known) → IsReadable a r → IsFirstFaulty (length r.starts) (lines_in a.report) line → IsInForm a r' → ⊥
  form_not line r r' read h k =
      let same = same_state a r r' read.state_is k.readable.state_is in
      faulty_not (length r.starts) line (lines_in a.report) h (subst (λ e. AreInForm (length e.starts) (reverse (lines_in a.report)))
      same k.in_form)

  order_not : (list place : ℕ) (r r' : Known) (world : WorldView) → IsInForm a r
      → IsFirstWrong (wanted r.starts (heard_of a)) (lists_printed (length r.starts) (orders a.report)) list place → IsOrdered a r' world
      → ⊥
  order_not list place r r' world form h k =
      let same = same_state a r r' form.readable.state_is k.form.readable.state_is in
      wrong_not_ordered a r world list place h (subst (λ e. IsOrdered a e world) same k)

  same_text : (r r' : Known) (world world' : WorldView) → IsOrdered a r world → IsOrdered a r' world'
      → report_of a r' world' ≡ report_of a r world
  same_text r r' world world' h k =
      let same = same_state a r r' h.form.readable.state_is k.form.readable.state_is in
      let worlds = one_world a r world' world (subst (λ e. IsOrdered a e world') same k) h in
      (λ i. report_of a (same i) (worlds i))

  text_not : (place : ℕ) (r : Known) (world : WorldView) → IsUnfaithfulAt place a → IsOrdered a r world → a.report ≡ report_of a r world → ⊥
  text_not place r world h ordered text =
      let same : a.report ≡ report_of a h.known h.world = text ∙ same_text h.known r h.world world h.ordered ordered in
      h.differs.differs (ap (λ t. slice_get t place) same)

  same_left : (r r' : Known) (world world' : WorldView) → IsOrdered a r world → IsOrdered a r' world'
      → left_text r'.own world'.slots ≡ left_text r.own world.slots
  same_left r r' world world' h k =
      let same = same_state a r r' h.form.readable.state_is k.form.readable.state_is in
      let worlds = one_world a r world' world (subst (λ e. IsOrdered a e world') same k) h in
      (λ i. left_text (same i).own (worlds i).slots)

  left_not : (line place : ℕ) → IsOtherwiseLeftAt line place a → IsFaithful a → ⊥
  left_not line place h k =
      let left : IsLeftBy k.known.own k.world.slots h.next = subst (λ n. IfSome n (IsLeftBy k.known.own k.world.slots)) h.next_is k.left in
      let same : h.next ≡ left_text h.known.own h.world.slots =
      left.text_is ∙ same_left h.known k.known h.world k.world h.ordered k.ordered in
      h.differs.differs (ap (λ t. slice_get t place) same)

  not_faithful : (c : Cause) → IsCause a c → IsFaithful a → ⊥
  not_faithful (causes.Over w) h k = over_not w k.known h.2 k.ordered.form.readable
  not_faithful (causes.Form line) h k = form_not line h.0 k.known h.1 h.2 k.ordered.form
  not_faithful (causes.Order list place) h k = order_not list place h.0 k.known k.world h.1 h.2 k.ordered
  not_faithful (causes.Text place) h k = text_not place k.known k.world h k.ordered k.text
  not_faithful (causes.Next line place) h k = left_not line place h k
  not_faithful _ h k = no_state k.known h k.ordered.form.readable.state_is

  one_order : (l p m q : ℕ) → IsCause a (causes.Order l p) → IsCause a (causes.Order m q) → causes.Order l p ≡ causes.Order m q
  one_order l p m q h k =
      let same = same_state a h.0 k.0 h.1.readable.state_is k.1.readable.state_is in
      let k' = subst (λ (e : Known). IsFirstWrong (wanted e.starts (heard_of a)) (lists_printed (length e.starts) (orders a.report))
      m q) same k.2 in
      let lists = one_list (wanted h.0.starts (heard_of a)) (lists_printed (length h.0.starts) (orders a.report)) l m p q h.2 k' in
      let places = one_place (wanted h.0.starts (heard_of a) m) (get_or (lists_printed (length h.0.starts) (orders a.report)) m []) p q
      (subst (λ n. IsWrongAt (wanted h.0.starts (heard_of a) n) (get_or (lists_printed (length h.0.starts) (orders a.report)) n []) p)
      lists h.2.wrong) k'.wrong in
      (λ i. causes.Order (lists i) (places i))

  one_text : (p q : ℕ) → IsUnfaithfulAt p a → IsUnfaithfulAt q a → causes.Text p ≡ causes.Text q
  one_text p q h k =
      ap causes.Text (one_difference a.report (report_of a h.known h.world) p q h.differs
      (subst (λ t. DiffersAt q a.report t) (same_text h.known k.known h.world k.world h.ordered k.ordered) k.differs))

  one_left : (l m p q : ℕ) → IsOtherwiseLeftAt l p a → IsOtherwiseLeftAt m q a → causes.Next l p ≡ causes.Next m q
  one_left l m p q h k =
      let both : Some k.next ≡ Some h.next = sym k.next_is ∙ h.next_is in
      let next : k.next ≡ h.next = cc in
      let place : p ≡ q =
      one_difference h.next (left_text h.known.own h.world.slots) p q h.differs
      (subst (λ t. DiffersAt q h.next t) (same_left h.known k.known h.world k.world h.ordered k.ordered)
      (subst (λ n. DiffersAt q n (left_text k.known.own k.world.slots)) next k.differs)) in
      let line : l ≡ m = h.line_is ∙ ((λ i. line_at (place i) (sym next i)) ∙ sym k.line_is) in
      (λ i. causes.Next (line i) (place i))

  one_form : (l m : ℕ) → IsCause a (causes.Form l) → IsCause a (causes.Form m) → causes.Form l ≡ causes.Form m
  one_form l m h k =
      let same = same_state a h.0 k.0 h.1.state_is k.1.state_is in
      ap causes.Form (one_faulty (length h.0.starts) l m (lines_in a.report) h.2
      (subst (λ (e : Known). IsFirstFaulty (length e.starts) (lines_in a.report) m) same k.2))

  one_cause : (c d : Cause) → IsCause a c → IsCause a d → c ≡ d
  one_cause (causes.Over w) (causes.Over v) h k =
      ap causes.Over (one_stops (λ input. is_over input ≡ false) (λ input. is_over input ≡ true) never_both 1 w v a.inputs h.2 k.2)
  one_cause (causes.Over w) (causes.Form l) h k = absurd (over_not w k.0 h.2 k.1)
  one_cause (causes.Over w) (causes.Order l p) h k = absurd (over_not w k.0 h.2 k.1.readable)
  one_cause (causes.Over w) (causes.Text p) h k = absurd (over_not w k.known h.2 k.ordered.form.readable)
  one_cause (causes.Over w) (causes.Next l p) h k = absurd (over_not w k.known h.2 k.ordered.form.readable)
  one_cause (causes.Over w) _ h k = absurd (no_state h.0 k h.1)
  one_cause (causes.Form l) (causes.Over w) h k = absurd (over_not w h.0 k.2 h.1)
  one_cause (causes.Form l) (causes.Form m) h k = one_form l m h k
  one_cause (causes.Form l) (causes.Order m p) h k = absurd (form_not l h.0 k.0 h.1 h.2 k.1)
  one_cause (causes.Form l) (causes.Text p) h k = absurd (form_not l h.0 k.known h.1 h.2 k.ordered.form)
  one_cause (causes.Form l) (causes.Next m p) h k = absurd (form_not l h.0 k.known h.1 h.2 k.ordered.form)
  one_cause (causes.Form l) _ h k = absurd (no_state h.0 k h.1.state_is)
  one_cause (causes.Order l p) (causes.Over w) h k = absurd (over_not w h.0 k.2 h.1.readable)
  one_cause (causes.Order l p) (causes.Form m) h k = absurd (form_not m k.0 h.0 k.1 k.2 h.1)
  one_cause (causes.Order l p) (causes.Order m q) h k = one_order l p m q h k
  one_cause (causes.Order l p) (causes.Text q) h k = absurd (order_not l p h.0 k.known k.world h.1 h.2 k.ordered)
  one_cause (causes.Order l p) (causes.Next m q) h k = absurd (order_not l p h.0 k.known k.world h.1 h.2 k.ordered)
  one_cause (causes.Order l p) _ h k = absurd (no_state h.0 k h.1.readable.state_is)
  one_cause (causes.Text p) (causes.Over w) h k = absurd (over_not w h.known k.2 h.ordered.form.readable)
  one_cause (causes.Text p) (causes.Form m) h k = absurd (form_not m k.0 h.known k.1 k.2 h.ordered.form)
  one_cause (causes.Text p) (causes.Order m q) h k = absurd (order_not m q k.0 h.known h.world k.1 k.2 h.ordered)
  one_cause (causes.Text p) (causes.Text q) h k = one_text p q h k
  one_cause (causes.Text p) (causes.Next m q) h k = absurd (text_not p k.known k.world h k.ordered k.text)
  one_cause (causes.Text p) _ h k = absurd (no_state h.known k h.ordered.form.readable.state_is)
  one_cause (causes.Next l p) (causes.Over w) h k = absurd (over_not w h.known k.2 h.ordered.form.readable)
  one_cause (causes.Next l p) (causes.Form m) h k = absurd (form_not m k.0 h.known k.1 k.2 h.ordered.form)
  one_cause (causes.Next l p) (causes.Order m q) h k = absurd (order_not m q k.0 h.known h.world k.1 k.2 h.ordered)
  one_cause (causes.Next l p) (causes.Text q) h k = absurd (text_not q h.known h.world k h.ordered h.text)
  one_cause (causes.Next l p) (causes.Next m q) h k = one_left l m p q h k
  one_cause (causes.Next l p) _ h k = absurd (no_state h.known k h.ordered.form.readable.state_is)
  one_cause _ (causes.Over w) h k = absurd (no_state k.0 h k.1)
  one_cause _ (causes.Form l) h k = absurd (no_state k.0 h k.1.state_is)
  one_cause _ (causes.Order l p) h k = absurd (no_state k.0 h k.1.readable.state_is)
  one_cause _ (causes.Text p) h k = absurd (no_state k.known h k.ordered.form.readable.state_is)
  one_cause _ (causes.Next l p) h k = absurd (no_state k.known h k.ordered.form.readable.state_is)
  one_cause _ _ h k = cc

  pub one_verdict : (v w : Verdict) → IsVerdict a v → IsVerdict a w → v ≡ w
  one_verdict Yes Yes h k = refl
  one_verdict Yes (No c) h k = absurd (not_faithful c k h)
  one_verdict (No c) Yes h k = absurd (not_faithful c h k)
  one_verdict (No c) (No d) h k = ap No (one_cause c d h k)

pub only_verdict : {E : Type 0} (a : Audited) (r : Result Verdict E) → IfOk r (IsVerdict a)
    → IfOk r (λ v. (other : Verdict) → IsVerdict a other → other ≡ v)
only_verdict a (Ok v) h = λ other k. one_verdict a other v k h
only_verdict a (Err e) h = tt
