-- The report of a session that is compared with a text, a slot at a time.
use Rattle.std.proofs.Common.{◌≡◌, ℕ, ◌+◌, ◌<◌, false, List, [], ◌∷◌, ◌++◌, codes, map, length, take, get_or, refl, sym, ap, ◌∙◌, subst, arith}
use Rattle.std.specs.Prelude.{◌≤◌, ◌^◌, Option, IfSome}
use Rattle.std.specs.List.{flat_map, All}
use Rattle.std.proofs.lemmas.List.Elements.{All-nil, All-cons}
use Rattle.std.proofs.lemmas.List.{flat_map_more, length-map}
use Rattle.std.proofs.lemmas.List.Folds.{flat_map-map}
use Rattle.std.proofs.lemmas.Option.{IfSome_then}
use Rattle.lists.specs.Each.{Each}
use Rattle.lists.proofs.Members.{each_push, with_fold}
use Rattle.paper.specs.Puts.{Puts}
use Rattle.paper.proofs.Calls.{none, then, three_make, four_make}
use Rattle.paper.proofs.Items.{is_put}
use Rattle.meter_address.specs.declared.address.Address.{Address}
use Rattle.meter_address.specs.Address.{AreApart}
use Rattle.meter_slots.specs.Journal.{Start, SlotView}
use Rattle.meter_slots.specs.Resuming.{known_now}
use Rattle.stranger_ring.specs.declared.strangers.Heard.{Heard}
use Rattle.receivers.specs.declared.told.Told.{Told}
use Rattle.receivers.specs.Orders.{AreOrderedStrangers}
use Rattle.receivers.specs.Session.{IsMetersSlot}
use Rattle.roster_file.specs.Text.{own_text}
use Rattle.state_file.specs.Left.{IsLeft, slot_block}
use Rattle.state_file.specs.Written.{block_text, state_text}
use Rattle.state_file.proofs.LeftBack.{left_state_is_read}
use Rattle.report_text.specs.declared.lent.ReceiverEnd.{ReceiverEnd}
use Rattle.report_text.specs.Report.{head_text, meter_text, strangers_text, report_text}
use Rattle.audit_check_main.specs.declared.verdict.Verdict.{Verdict}
use Rattle.audit_check_main.specs.Auditing.{IsCompared, IsNextSoFar, IsStepped}
use Rattle.audit_check_main.specs.Comparing.{Compared, IsSoFar, Compares}
use Rattle.audit_check_main.specs.Hearing.{HeardInput, tells}
use Rattle.audit_check_main.specs.Leaving.{IsReadBack, left_text}
use Rattle.audit_check_main.specs.Printing.{end_of, Papers, IsMeterPut, AreMetersPut, IsSessionPut}
use Rattle.audit_check_main.specs.Stepping.{AreOrderedSlots}
use Rattle.audit_check_main.proofs.Compared.{so_far}
use Rattle.audit_check_main.proofs.Slots.{slots_none, slots_more, as_many_slots, meters_slots}

-- ---- the meters

flat_more : {X : Type 0} (text : X → List ℕ) (xs : List X) (x : X) → flat_map text (xs ++ x ∷ []) ≡ flat_map text xs ++ text x
flat_more text xs x = sym (flat_map_more text [] xs x)

module _ (own : Address) (all : List (List Told)) (lists : List (List (ℕ × ℕ))) where
  pub no_meters : (p : Papers) → AreMetersPut own all [] lists p p
  no_meters p = record { slots = []; so = slots_none own all lists; put = none; told = tt; left = none }

  -- one meter more
  pub meters_more : (cs : List Start) (i : ℕ) (c : Start) (p q r : Papers)
      → AreMetersPut own all (take i cs) lists p q → i < length cs → length cs < length lists → c ≡ get_or cs i c
      → IsMeterPut own all c (get_or lists i []) q r → AreMetersPut own all (take (i + 1) cs) lists p r
  meters_more cs i c p q r before inside few is one = record {
    slots = before.slots ++ one.slot ∷ [];
    so = slots_more own all cs i c lists before.slots one.slot before.so inside few is one.so;
    put = is_put _ _ (flat_more meter_text before.slots one.slot) (then before.put one.put);
    told = each_push IsLeft before.slots one.slot before.told one.told;
    left = is_put _ _ (flat_more slot_block before.slots one.slot) (then before.left one.left);
  }

-- ---- what is left

all_left : (slots : List SlotView) → Each IsLeft slots → All IsLeft slots
all_left [] h = All-nil IsLeft
all_left (s ∷ slots) h = All-cons IsLeft s slots h.0 (all_left slots h.1)

-- a meter keeps its address
same_addresses : (own : Address) (all : List (List Told)) (cs : List Start) (lists : List (List (ℕ × ℕ))) (slots : List SlotView)
    → AreOrderedSlots own all cs lists slots → map (λ (c : Start). c.address) (map known_now slots) ≡ map (λ (c : Start). c.address) cs
same_addresses own all cs lists slots so =
    with_fold (IsMetersSlot own all)
    (λ cs slots. map (λ (c : Start). c.address) (map known_now slots) ≡ map (λ (c : Start). c.address) cs) refl
    (λ c s cs slots one _ rest. (λ i. (one.commission_is i).address ∷ rest i)) cs slots (meters_slots own all cs lists slots so)

-- what slots leave that can be told is read back
left_back : (own : Address) (all : List (List Told)) (cs : List Start) (lists : List (List (ℕ × ℕ))) (slots : List SlotView)
    → own.0 < 2 ^ 64 → length cs ≤ 4096 → AreApart (map (λ (c : Start). c.address) cs) → AreOrderedSlots own all cs lists slots
    → Each IsLeft slots → IsReadBack own slots
left_back own all cs lists slots small few apart so told =
    let many = as_many_slots own all cs slots (meters_slots own all cs lists slots so) in
    let long = length-map slots known_now in
    left_state_is_read own slots small
    (record { few = omega arith; apart = subst AreApart (sym (same_addresses own all cs lists slots so)) apart })
    (all_left slots told)

left_is : (own : Address) (slots : List SlotView)
    → left_text own slots ≡ (codes "wmbus-state 1\n" ++ own_text own) ++ flat_map slot_block slots ++ codes "end\n"
unfolding state_text
left_is own slots = ap (λ t. (codes "wmbus-state 1\n" ++ own_text own) ++ t ++ codes "end\n") (flat_map-map block_text known_now slots)

-- ---- the whole report

whole_report : {P : Type 0} (takes : P → List ℕ → P → Type 0) (p q r s t : P) (ends : List ReceiverEnd) (slots : List SlotView)
    (strangers : List Heard) → Puts takes p (head_text ends) q → Puts takes q (flat_map meter_text slots) r
    → Puts takes r (strangers_text strangers) s → Puts takes s (codes "end\n") t → Puts takes p (report_text ends slots strangers) t
unfolding report_text head_text
whole_report takes p q r s t ends slots strangers one two three four = four_make (report_text ends slots strangers) one two three four refl

pub session_put : (own : Address) (meters : List Start) (heard : List HeardInput) (lists : List (List (ℕ × ℕ)))
    (p q r s t u v w x : Compared) (ends : List ReceiverEnd) (order : List (ℕ × ℕ)) (strangers : List Heard)
    → own.0 < 2 ^ 64 → length meters ≤ 4096 → AreApart (map (λ (c : Start). c.address) meters)
    → ends ≡ map end_of heard → Puts Compares p (head_text ends) q → Puts Compares u (codes "wmbus-state 1\n" ++ own_text own) v
    → AreMetersPut own (map tells heard) meters lists (record { report = q; next = v }) (record { report = r; next = w })
    → order ≡ get_or lists (length meters) [] → AreOrderedStrangers meters (map tells heard) order strangers
    → Puts Compares r (strangers_text strangers) s → Puts Compares s (codes "end\n") t → Puts Compares w (codes "end\n") x
    → IsSessionPut own meters heard lists (record { report = p; next = u }) (record { report = t; next = x })
session_put own meters heard lists p q r s t u v w x ends order strangers small few apart ends_are head front all order_is noted three four
    end = record {
      slots = all.slots;
      strangers = strangers;
      so = all.so;
      noted = subst (λ o. AreOrderedStrangers meters (map tells heard) o strangers) order_is noted;
      put = whole_report Compares p q r s t (map end_of heard) all.slots strangers
          (subst (λ e. Puts Compares p (head_text e) q) ends_are head) all.put three four;
      read_back = left_back own (map tells heard) meters lists all.slots small few apart all.so all.told;
      left = three_make (left_text own all.slots) front all.left end (left_is own all.slots);
    }

-- ---- what is found

module _ (own : Address) (meters : List Start) (heard : List HeardInput) (lists : List (List (ℕ × ℕ))) (report : List ℕ)
    (next : Option (List ℕ)) (fresh now : Papers) (is_fresh : fresh.report ≡ record { text = report; place = 0; differs = false })
    (next_fresh : fresh.next ≡ record { text = fresh.next.text; place = 0; differs = false })
    (next_is : IfSome next (λ text. fresh.next.text ≡ text)) (session : IsSessionPut own meters heard lists fresh now) where
  abbrev session_text : List ℕ
  session_text = report_text (map end_of heard) session.slots session.strangers

  found : (now.report.text ≡ report) × IsSoFar now.report session_text
  found = so_far fresh.report now.report report session_text is_fresh session.put

  left_found : (now.next.text ≡ fresh.next.text) × IsSoFar now.next (left_text own session.slots)
  left_found = so_far fresh.next now.next fresh.next.text (left_text own session.slots) next_fresh session.left

  left_so_far : IsNextSoFar now.next next (left_text own session.slots)
  left_so_far = record {
    text_is = IfSome_then next next_is (λ text h. left_found.0 ∙ h);
    so_far = left_found.1;
  }

  pub found_is : (verdict : Verdict) → ((text left : List ℕ) → IsSoFar now.report text → IsNextSoFar now.next next left
      → IsCompared now.report.text text next left verdict)
      → IsStepped own meters heard lists report next verdict
  found_is verdict h = record {
    slots = session.slots;
    strangers = session.strangers;
    so = session.so;
    noted = session.noted;
    read_back = session.read_back;
    compared = subst (λ t. IsCompared t session_text next (left_text own session.slots) verdict) found.0
        (h session_text (left_text own session.slots) found.1 left_so_far);
  }
