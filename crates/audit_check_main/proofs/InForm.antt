-- Each line of a report stands in its own list.
use Rattle.std.proofs.Common.{◌≡◌, ℕ, suc, ◌+◌, ◌<◌, ◌≤◌, ◌^◌, ◌-◌, nat_le, Bool, true, false, not, cond, ◌&&◌, List, [], ◌∷◌, ◌++◌, codes, map, filter, length, reverse, Option, Some, refl, sym, ap, ◌∙◌, subst, arith, append_assoc, append-nil}
use Rattle.std.specs.Prelude.{slice_get, is_some}
use Rattle.std.specs.Fmt.{decimal}
use Rattle.std.specs.List.{All, AllByRecursion, flat_map}
use Rattle.std.proofs.lemmas.Bool.{lt-leb}
use Rattle.std.proofs.lemmas.List.Elements.{recursion_from_All}
use Rattle.meter_address.specs.declared.commission.Mode.{Mode}
use Rattle.meter_address.specs.declared.address.Address.{Address}
use Rattle.command_queue.specs.declared.command.Command.{Command}
use Rattle.stranger_ring.specs.declared.strangers.Heard.{Heard}
use Rattle.meter_slots.specs.declared.entry.Entry.{Entry}
use Rattle.meter_slots.specs.declared.reading.Reading.{Reading}
use Rattle.meter_slots.specs.Journal.{SlotView, last_counter, readings}
use Rattle.lists.specs.Each.{Each}
use Rattle.paper.specs.Pieces.{labelled, labelled_two, labelled_bytes}
use Rattle.plain_text.specs.Numbers.{number_of}
use Rattle.plain_text.specs.Parts.{fields_of}
use Rattle.report_text.specs.declared.lent.ReceiverEnd.{ReceiverEnd}
use Rattle.report_text.specs.Orders.{lines_in}
use Rattle.report_text.specs.OrdersLaw.{IsCounted, place_of_step, place_of_stranger, order_of}
use Rattle.report_text.specs.Report.{commission_text, numbers_text, answered_text, step_text, readings_after, steps_text, last_text, pending_text, journal_text, orders_now, meter_text, stranger_text, strangers_text, report_text}
use Rattle.report_text.proofs.LineWalks.{IsWithout, ◌⌢◌, literal, first_line, IsKind, kind_of, IsOther, Others}
use Rattle.report_text.proofs.LinePieces.{worded_number, worded_two}
use Rattle.report_text.proofs.LineOutcomes.{outcome_is}
use Rattle.report_text.proofs.LineSteps.{behind_word, behind_two, fields_of_two, fields_of_more}
use Rattle.report_text.proofs.LineReport.{commission_is, numbers_front, numbers_is, behind_steps, rings_others, head_others, end_others}
use Rattle.written_words.proofs.Numbers.{number_back}
use Rattle.audit_check_main.specs.declared.line_lists.Open.{Open}
use Rattle.audit_check_main.specs.declared.line_lists.Open.TheVariants as opens
use Rattle.audit_check_main.specs.Lists.{is_meter, both, numbers_in, pair_of, open_in, is_meters, is_of_strangers, AreInForm}
use Rattle.audit_check_main.proofs.ReadLists.{form_by, form_is, opened_by, counted_by}

-- ---- lines on top of others

-- lines behind others, of which the latest stands first
abbrev onto : List (List ℕ) → List (List ℕ) → List (List ℕ)
onto [] above = above
onto (line ∷ lines) above = onto lines (line ∷ above)

onto_both : (xs ys above : List (List ℕ)) → onto (xs ++ ys) above ≡ onto ys (onto xs above)
onto_both [] ys above = refl
onto_both (x ∷ xs) ys above = onto_both xs ys (x ∷ above)

-- ---- one line more

module _ (meters : ℕ) where
  -- lines in form, of which the latest stands first: so many headings of meters are among them, and this list is open
  record IsAt (above : List (List ℕ)) (headings : ℕ) (open_list : Open) : Type 0 where
    in_form : AreInForm meters above
    count : length (filter is_meter above) ≡ headings
    open_is : open_in above ≡ open_list

  -- a line of a kind that is in form
  line_at : {m s t r : Bool} {n : ℕ} {o : Open} (line : List ℕ) (above : List (List ℕ)) → IsKind line m s t r
      → form_by m s t r meters above line ≡ false → IsAt above n o
      → IsAt (line ∷ above) (cond m (suc n) n) (cond m opens.Meter (cond s opens.Strangers o))
  line_at {m} {s} {t} {r} {n} line above k fine at = record {
    in_form = (form_is meters above line k ∙ fine, at.in_form);
    count = counted_by above line k ∙ counts m;
    open_is = opened_by above line k ∙ ap (λ p. cond m opens.Meter (cond s opens.Strangers p)) at.open_is;
  }
    where
      counts : (b : Bool) → length (cond b (line ∷ filter is_meter above) (filter is_meter above)) ≡ cond b (suc n) n
      counts true = ap suc at.count
      counts false = at.count

  -- ---- texts

  -- a text of whole lines, which stand in their lists where this list is open above them, and leave that one open
  record Stands (text : List ℕ) (n : ℕ) (o : Open) (n' : ℕ) (o' : Open) : Type 0 where
    lines : List (List ℕ)
    cut : (rest : List ℕ) → lines_in (text ++ rest) ≡ lines ++ lines_in rest
    at : (above : List (List ℕ)) → IsAt above n o → IsAt (onto lines above) n' o'

  nothing_stands : {n : ℕ} {o : Open} → Stands [] n o n o
  nothing_stands = record { lines = []; cut = λ rest. refl; at = λ above at. at }

  then_stands : {a b : List ℕ} {n n' n'' : ℕ} {o o' o'' : Open} → Stands a n o n' o' → Stands b n' o' n'' o'' → Stands (a ++ b) n o n'' o''
  then_stands {a} {b} {n} {n'} {n''} {o} {o'} {o''} x y = record {
    lines = x.lines ++ y.lines;
    cut = λ rest. ap lines_in (append_assoc a b rest) ∙ (x.cut (b ++ rest) ∙ (ap (λ l. x.lines ++ l) (y.cut rest)
        ∙ sym (append_assoc x.lines y.lines (lines_in rest))));
    at = λ above at. subst (λ l. IsAt l n'' o'') (sym (onto_both x.lines y.lines above)) (y.at (onto x.lines above) (x.at above at));
  }

  one_stands : {n n' : ℕ} {o o' : Open} (line : List ℕ) → IsWithout 10 line
      → ((above : List (List ℕ)) → IsAt above n o → IsAt (line ∷ above) n' o') → Stands (line ++ codes "\n") n o n' o'
  one_stands line h at = record { lines = line ∷ []; cut = first_line line h; at = at }

  all_at : {n : ℕ} {o : Open} (lines : List (List ℕ)) → Each IsOther lines → (above : List (List ℕ)) → IsAt above n o
      → IsAt (onto lines above) n o
  all_at [] h above at = at
  all_at (line ∷ lines) h above at = all_at lines h.1 (line ∷ above) (line_at line above h.0 refl at)

  others_stand : {text : List ℕ} {n : ℕ} {o : Open} → Others text → Stands text n o n o
  others_stand x = record { lines = x.lines; cut = x.cut; at = all_at x.lines x.each }

  same_stands : {a b : List ℕ} {n n' : ℕ} {o o' : Open} → b ≡ a → Stands a n o n' o' → Stands b n o n' o'
  same_stands e x = record { lines = x.lines; cut = λ rest. ap (λ t. lines_in (t ++ rest)) e ∙ x.cut rest; at = x.at }

  -- ---- a meter

  meter_stands : (a : Address) (mode : Mode) (last : Option ℕ) (down steps kept : ℕ) (n : ℕ) (o : Open) → n < meters
      → Stands (commission_text a mode ++ numbers_text last down steps kept) n o (suc n) opens.Meter
  unfolding commission_text labelled_bytes numbers_text
  meter_stands a mode last down steps kept n o few =
      let line = commission_text a mode ++ numbers_front last down steps kept in
      same_stands (sym (append_assoc (commission_text a mode) (numbers_front last down steps kept) (codes "\n")))
      (one_stands line (commission_is a mode ⌢ numbers_is last down steps kept)
      (λ above at. line_at line above (kind_of refl refl refl refl) (ap (nat_le meters) at.count ∙ lt-leb meters n few) at))

  pair_back : (word first second : List ℕ) (more : List (List ℕ)) (i j : ℕ) → first ≡ decimal i → second ≡ decimal j
      → i < 2 ^ 32 → j < 2 ^ 32 → numbers_in (word ∷ first ∷ second ∷ more) ≡ Some (i, j)
  pair_back word first second more i j e f small_i small_j =
      λ k. both ((ap (λ t. number_of (2 ^ 32 - 1) t) e ∙ number_back (2 ^ 32 - 1) i (omega arith) (omega arith)) k)
      ((ap (λ t. number_of (2 ^ 32 - 1) t) f ∙ number_back (2 ^ 32 - 1) j (omega arith) (omega arith)) k)

  step_pair : (i j : ℕ) (o : List ℕ) → i < 2 ^ 32 → j < 2 ^ 32
      → pair_of (codes "step" ++ codes " " ++ decimal i ++ codes " " ++ decimal j ++ codes " " ++ o) ≡ Some (i, j)
  step_pair i j o small_i small_j =
      ap (λ line. numbers_in (fields_of line)) (behind_two (codes "step") (decimal i) (decimal j) o)
      ∙ (ap numbers_in (fields_of_more (codes "step") i j o (literal (codes "step") refl))
      ∙ pair_back (codes "step") (decimal i) (decimal j) (fields_of o) i j refl refl small_i small_j)

  stranger_pair : (i j : ℕ) → i < 2 ^ 32 → j < 2 ^ 32
      → pair_of (codes "stranger" ++ codes " " ++ decimal i ++ codes " " ++ decimal j) ≡ Some (i, j)
  stranger_pair i j small_i small_j =
      ap (λ line. numbers_in (fields_of line)) (behind_word (codes "stranger") (decimal i) (decimal j))
      ∙ (ap numbers_in (fields_of_two (codes "stranger") i j (literal (codes "stranger") refl))
      ∙ pair_back (codes "stranger") (decimal i) (decimal j) [] i j refl refl small_i small_j)

  step_stands : (i j : ℕ) (o : List ℕ) (n : ℕ) → i < 2 ^ 32 → j < 2 ^ 32 → IsWithout 10 o
      → Stands (labelled_two (codes "step ") i j ++ codes " " ++ o ++ codes "\n") n opens.Meter n opens.Meter
  unfolding labelled_two
  step_stands i j o n small_i small_j h =
      let line = labelled_two (codes "step ") i j ++ codes " " ++ o in
      one_stands line (worded_two (literal (codes "step ") refl) i j ⌢ literal (codes " ") refl ⌢ h)
      (λ above at. line_at line above (kind_of refl refl refl refl)
      (λ k. not (is_meters (at.open_is k) && is_some (step_pair i j o small_i small_j k))) at)

  entry_stands : (reading : Option Reading) (e : Entry) (n : ℕ) → IsCounted (place_of_step e)
      → Stands (step_text reading e) n opens.Meter n opens.Meter
  unfolding answered_text
  entry_stands reading e n small = step_stands e.source e.line _ n small.0 small.1 (outcome_is reading e.outcome)

  steps_stand : (kept : List Reading) (journal : List Entry) (n : ℕ) → AllByRecursion IsCounted (map place_of_step journal)
      → Stands (steps_text kept journal) n opens.Meter n opens.Meter
  steps_stand kept [] n small = nothing_stands
  steps_stand kept (e ∷ later) n small =
      then_stands (entry_stands (slice_get kept 0) e n small.0) (steps_stand (readings_after e.outcome kept) later n small.1)

  journal_stands : (kept : List Reading) (journal : List Entry) (commands : List Command) (n : ℕ)
      → AllByRecursion IsCounted (map place_of_step journal) → Stands (journal_text kept journal commands) n opens.Meter n opens.Meter
  unfolding journal_text
  journal_stands kept journal commands n small =
      same_stands (append_assoc (steps_text kept journal) (last_text kept) (flat_map pending_text commands))
      (then_stands (steps_stand kept journal n small) (others_stand (behind_steps kept commands)))

  slot_stands : (b : SlotView) (n : ℕ) (o : Open) → n < meters → AllByRecursion IsCounted (order_of b)
      → Stands (meter_text b) n o (suc n) opens.Meter
  unfolding meter_text
  slot_stands b n o few small =
      then_stands (meter_stands b.start.address b.start.mode (last_counter b.start (reverse b.journal)) (orders_now b).down
      (length b.journal) (length (readings b.start b.journal)) n o few)
      (journal_stands (readings b.start b.journal) b.journal (orders_now b).queue.commands (suc n) small)

  -- the list that is open behind some meters
  abbrev behind : List SlotView → Open → Open
  behind [] o = o
  behind (b ∷ slots) o = behind slots opens.Meter

  abbrev headings : List SlotView → ℕ → ℕ
  headings [] n = n
  headings (b ∷ slots) n = headings slots (suc n)

  slots_stand : (slots : List SlotView) (n : ℕ) (o : Open) → n + length slots ≤ meters
      → AllByRecursion (λ order. All IsCounted order) (map order_of slots)
      → Stands (flat_map meter_text slots) n o (headings slots n) (behind slots o)
  slots_stand [] n o few small = nothing_stands
  slots_stand (b ∷ slots) n o few small =
      then_stands (slot_stands b n o (omega arith) (recursion_from_All IsCounted (order_of b) small.0))
      (slots_stand slots (suc n) opens.Meter (omega arith) small.1)

  -- ---- the strangers

  heading_stands : (count n : ℕ) (o : Open) → Stands (labelled (codes "strangers ") count ++ codes "\n") n o n opens.Strangers
  unfolding labelled
  heading_stands count n o =
      one_stands (labelled (codes "strangers ") count) (worded_number (literal (codes "strangers ") refl) count)
      (λ above at. line_at (labelled (codes "strangers ") count) above (kind_of refl refl refl refl) refl at)

  stranger_stands : (h : Heard) (n : ℕ) → IsCounted (place_of_stranger h) → Stands (stranger_text h) n opens.Strangers n opens.Strangers
  unfolding stranger_text labelled_two
  stranger_stands h n small =
      let line = labelled_two (codes "stranger ") h.source h.line in
      one_stands line (worded_two (literal (codes "stranger ") refl) h.source h.line)
      (λ above at. line_at line above (kind_of refl refl refl refl)
      (λ k. not (is_of_strangers (at.open_is k) && is_some (stranger_pair h.source h.line small.0 small.1 k))) at)

  heard_stand : (heard : List Heard) (n : ℕ) → AllByRecursion IsCounted (map place_of_stranger heard)
      → Stands (flat_map stranger_text heard) n opens.Strangers n opens.Strangers
  heard_stand [] n small = nothing_stands
  heard_stand (h ∷ heard) n small = then_stands (stranger_stands h n small.0) (heard_stand heard n small.1)

  strangers_stand : (heard : List Heard) (n : ℕ) (o : Open) → AllByRecursion IsCounted (map place_of_stranger heard)
      → Stands (strangers_text heard) n o n opens.Strangers
  unfolding strangers_text
  strangers_stand heard n o small =
      then_stands (then_stands (heading_stands (length heard) n o) (heard_stand heard n small)) (others_stand (rings_others heard))

  -- ---- the report

  report_stands : (ends : List ReceiverEnd) (slots : List SlotView) (heard : List Heard) → length slots ≤ meters
      → AllByRecursion (λ order. All IsCounted order) (map order_of slots) → AllByRecursion IsCounted (map place_of_stranger heard)
      → Stands (report_text ends slots heard) 0 opens.Nothing (headings slots 0) opens.Strangers
  unfolding report_text
  report_stands ends slots heard few small_steps small_heard =
      then_stands (then_stands (then_stands (others_stand (head_others ends))
      (slots_stand slots 0 opens.Nothing (omega arith) small_steps))
      (strangers_stand heard (headings slots 0) (behind slots opens.Nothing) small_heard)) (others_stand end_others)

  pub report_in_form : (ends : List ReceiverEnd) (slots : List SlotView) (heard : List Heard) → length slots ≤ meters
      → All (λ order. All IsCounted order) (map order_of slots) → All IsCounted (map place_of_stranger heard)
      → AreInForm meters (reverse (lines_in (report_text ends slots heard)))
  report_in_form ends slots heard few small_steps small_heard =
      let text : List ℕ = report_text ends slots heard in
      let stands =
      report_stands ends slots heard few (recursion_from_All (λ order. All IsCounted order) (map order_of slots) small_steps)
      (recursion_from_All IsCounted (map place_of_stranger heard) small_heard) in
      let nothing : List (List ℕ) = [] in
      let last : List (List ℕ) = [] ∷ [] in
      let begun = stands.at nothing (record { in_form = tt; count = refl; open_is = refl }) in
      let ended = line_at [] (onto stands.lines nothing) (kind_of refl refl refl refl) refl begun in
      let whole : lines_in text ≡ stands.lines ++ last = ap lines_in (sym (append-nil text)) ∙ stands.cut [] in
      let turned : [] ∷ onto stands.lines nothing ≡ reverse (lines_in text) =
      sym (onto_both stands.lines last nothing) ∙ ap reverse (sym whole) in
      subst (AreInForm meters) turned ended.in_form
