-- What the parts of an audit come to.
use Rattle.std.proofs.Common.{◌≡◌, ℕ, zero, suc, ◌+◌, ◌<◌, ◌≤◌, ◌&&◌, ◌||◌, Bool, true, false, cond, List, [], ◌∷◌, ◌++◌, map, length, drop, get_or, Result, Ok, Err, IfOk, refl, sym, ap, ◌∙◌, subst, arith, length-append}
use Rattle.std.specs.Prelude.{codes, Option, Some, None, IfSome}
use Rattle.std.specs.Str.{all_ascii_digits}
use Rattle.std.specs.Str.Parse.{digits_value}
use Rattle.std.specs.Str.Lines.{lines}
use Rattle.std.proofs.lemmas.List.{drop_all, drop_more, get_or_push, length-map}
use Rattle.std.proofs.lemmas.Result.{IfOk-weaker}
use Rattle.lists.specs.Each.{Each}
use Rattle.line_reader.specs.Lines.{is_over, all_lines, whole_lines}
use Rattle.meter_address.specs.declared.address.Address.{Address}
use Rattle.meter_slots.specs.declared.counts.Ended.TheVariants as ends
use Rattle.meter_slots.specs.Journal.{Start, SlotView}
use Rattle.meter_slots.specs.World.{WorldView}
use Rattle.receivers.specs.declared.told.Told.{Told}
use Rattle.receivers.specs.Orders.{order_of, numbers_by, IsOrderOfStrangers}
use Rattle.receivers.specs.Session.{heard_by, lines_for, lines_of_strangers, IsSession}
use Rattle.receivers.specs.Classes.{counts_of}
use Rattle.receivers.specs.Told.{told_of}
use Rattle.plain_text.specs.Parts.{fields_of}
use Rattle.report_text.specs.Orders.{Orders, orders, lines_in, pair_in, meter_heading, strangers_heading, with_steps, with_line, begins, told}
use Rattle.report_text.specs.Orders as text
use Rattle.report_text.specs.OrdersLaw.{orders_of}
use Rattle.report_text.specs.Report.{report_text}
use Rattle.state_file.specs.Whole.{Known, state_of}
use Rattle.audit_check_main.specs.declared.verdict.Cause.TheVariants as causes
use Rattle.audit_check_main.specs.declared.verdict.Verdict.{Verdict}
use Rattle.audit_check_main.specs.declared.verdict.Verdict.TheVariants.{Yes, No}
use Rattle.audit_check_main.specs.Audit.{Audited, told_in, heard_out, report_of, IsInForm, IsOrdered, IsVerdict}
use Rattle.audit_check_main.specs.Auditing.{IsCompared, IsStepped, AreListsRead, IsVerdictBy}
use Rattle.audit_check_main.specs.Printing.{end_of}
use Rattle.audit_check_main.specs.Difference.{DiffersAt}
use Rattle.audit_check_main.specs.Leaving.{IsLeftBy, left_text}
use Rattle.audit_check_main.specs.Hearing.{HeardInput, heard_input, tells, no_input, numbers_in_list}
use Rattle.audit_check_main.specs.Lists.{as_many, lists_printed}
use Rattle.audit_check_main.specs.Order.{numbers_for, wanted, IsRight, IsFirstWrong}
use Rattle.audit_check_main.specs.Stepping.{AreOrders, IsOrderOfEach}
use Rattle.audit_check_main.proofs.ReadLists.{as_many-all}
use Rattle.audit_check_main.proofs.Slots.{meters_slots, slots_orders, as_many_slots}
use Rattle.audit_check_main.proofs.Steps.{heard_none, heard_suc}

-- ---- inputs

-- all lines of an input within the limits
pub lines_within : (input : List ℕ) → is_over input ≡ false → all_lines input ≡ lines input
unfolding all_lines
lines_within input h = ap (λ b. cond b (whole_lines input) (lines input)) h

pub tells_all : (cs : List Start) (inputs : List (List ℕ)) → Each (λ input. is_over input ≡ false) inputs
    → map tells (map (heard_input cs) inputs) ≡ map told_in inputs
tells_all cs [] h = refl
tells_all cs (x ∷ inputs) h = (λ i. map told_of (sym (lines_within x h.0) i) ∷ tells_all cs inputs h.1 i)

ends_all : (cs : List Start) (inputs : List (List ℕ)) → Each (λ input. is_over input ≡ false) inputs
    → map end_of (map (heard_input cs) inputs) ≡ map (heard_out (map (λ c. c.address) cs)) inputs
ends_all cs [] h = refl
ends_all cs (x ∷ inputs) h =
    (λ i. record {
      counts = counts_of (map (λ (c : Start). c.address) cs) (map told_of (sym (lines_within x h.0) i));
      ended = ends.End;
    } ∷ ends_all cs inputs h.1 i)

-- ---- numbers of lines

nothing_heard : (cs : List Start) (k : ℕ) → get_or (numbers_for cs []) k [] ≡ []
nothing_heard [] zero = refl
nothing_heard [] (suc k) = refl
nothing_heard (c ∷ cs) zero = refl
nothing_heard (c ∷ cs) (suc k) = nothing_heard cs k

numbers_at : (cs : List Start) (inputs : List (List ℕ)) → Each (λ input. is_over input ≡ false) inputs → (k v : ℕ)
    → get_or (get_or (map (heard_input cs) inputs) v no_input).lists k [] ≡ get_or (numbers_for cs (get_or (map told_in inputs) v [])) k []
numbers_at cs [] h k v = sym (nothing_heard cs k)
numbers_at cs (x ∷ inputs) h k zero = ap (λ ls. get_or (numbers_for cs (map told_of ls)) k []) (sym (lines_within x h.0))
numbers_at cs (x ∷ inputs) h k (suc v) = numbers_at cs inputs h.1 k v

pub numbers_same : (cs : List Start) (inputs : List (List ℕ)) → Each (λ input. is_over input ≡ false) inputs → (k w : ℕ)
    → numbers_in_list (map (heard_input cs) inputs) k w ≡ wanted cs (map told_in inputs) k w
numbers_same cs inputs h k zero =
    sym (ap (λ heard. get_or (numbers_for cs heard) k []) (heard_none 0 (map told_in inputs)) ∙ nothing_heard cs k)
numbers_same cs inputs h k (suc v) =
    numbers_at cs inputs h k v ∙ ap (λ heard. get_or (numbers_for cs heard) k []) (sym (heard_suc v (map told_in inputs)))

-- ---- right lists

abbrev own_numbers : List (List Told) → ℕ → Start → List ℕ
own_numbers all w c = map (λ l. l.0) (lines_for c.address (heard_by w all))

each_order : (all : List (List Told)) (behind : ℕ → List ℕ) (cs : List Start) (lists : List (List (ℕ × ℕ)))
    → length cs < length lists
    → ((k : ℕ) → k < length cs → (w : ℕ) → numbers_by w (get_or lists k []) ≡ get_or (map (own_numbers all w) cs ++ behind w ∷ []) k [])
    → IsOrderOfEach all cs lists
each_order all behind [] lists few h = tt
each_order all behind (c ∷ cs) [] few h = absurd (omega arith)
each_order all behind (c ∷ cs) (order ∷ lists) few h =
    (h 0 (omega arith), each_order all behind cs lists (omega arith) (λ k inside. h (suc k) (omega arith)))

module _ (cs : List Start) (inputs : List (List ℕ)) (within : Each (λ input. is_over input ≡ false) inputs)
    (lists : List (List (ℕ × ℕ))) (long : length lists ≡ length cs + 1)
    (right : (k : ℕ) → k < length lists → IsRight (numbers_in_list (map (heard_input cs) inputs) k) (get_or lists k [])) where
  right_at : (k : ℕ) → k < length lists → (w : ℕ)
      → numbers_by w (get_or lists k []) ≡ wanted cs (map tells (map (heard_input cs) inputs)) k w
  right_at k inside w =
      right k inside w ∙ (numbers_same cs inputs within k w ∙ ap (λ all. wanted cs all k w) (sym (tells_all cs inputs within)))

  pub orders_right : IsOrderOfEach (map tells (map (heard_input cs) inputs)) cs lists
  orders_right =
      each_order (map tells (map (heard_input cs) inputs)) (λ w. map (λ l. l.0)
      (lines_of_strangers cs (heard_by w (map tells (map (heard_input cs) inputs))))) cs lists (omega arith)
      (λ k inside w. right_at k (omega arith) w)

  pub strangers_right : IsOrderOfStrangers cs (map tells (map (heard_input cs) inputs)) (get_or lists (length cs) [])
  strangers_right w =
      let all : List (List Told) = map tells (map (heard_input cs) inputs) in
      right_at (length cs) (omega arith) w
      ∙ get_or_push (map (own_numbers all w) cs) (map (λ l. l.0) (lines_of_strangers cs (heard_by w all))) [] (length cs)
      (length-map cs (own_numbers all w))

-- ---- as many lists as there are meters, and one

length-as_many : {A : Type 0} (n : ℕ) (lists : List (List A)) → length (as_many n lists) ≡ n
length-as_many zero lists = refl
length-as_many (suc n) [] = ap suc (length-as_many n [])
length-as_many (suc n) (list ∷ lists) = ap suc (length-as_many n lists)

pub length-lists_printed : (n : ℕ) (o : Orders) → length (lists_printed n o) ≡ n + 1
length-lists_printed n o = length-append (as_many n o.meters) (o.strangers ∷ []) ∙ ap (λ m. m + 1) (length-as_many n o.meters)

-- no list has more pairs than the report has lines
abbrev sizes : List (List (ℕ × ℕ)) → ℕ
sizes [] = 0
sizes (list ∷ lists) = length list + sizes lists

abbrev size : text.Told → ℕ
size t = length t.above + sizes t.meters + length t.strangers

pair_short : (fields : List (List ℕ)) → length (pair_in fields) ≤ 1
pair_short (word ∷ first ∷ second ∷ more) =
    one_if (all_ascii_digits first && all_ascii_digits second) (digits_value 10 first, digits_value 10 second)
  where
    one_if : (b : Bool) (p : ℕ × ℕ) → length (cond b (p ∷ []) []) ≤ 1
    one_if true p = omega arith
    one_if false p = omega arith
pair_short _ = omega arith

with_line_size : (line : List ℕ) (below : text.Told) → size (with_line line below) ≤ 1 + size below
unfolding with_line
with_line_size line below =
    at (begins (codes "meter ") line) (begins (codes "strangers ") line) (begins (codes "step ") line || begins (codes "stranger ") line)
  where
    at : (a b c : Bool)
        → size (cond a (meter_heading below) (cond b (strangers_heading below)
        (cond c (with_steps (pair_in (fields_of line)) below) below)))
        ≤ 1 + size below
    at true b c = omega arith
    at false true c = let l = length-append below.above below.strangers in omega arith
    at false false true = let l = length-append (pair_in (fields_of line)) below.above in let s = pair_short (fields_of line) in omega arith
    at false false false = omega arith

told_size : (ls : List (List ℕ)) → size (told ls) ≤ length ls
told_size [] = omega arith
told_size (line ∷ ls) = let w = with_line_size line (told ls) in let t = told_size ls in omega arith

list_size : (n : ℕ) (lists : List (List (ℕ × ℕ))) (behind : List (ℕ × ℕ)) (k : ℕ)
    → length (get_or (as_many n lists ++ behind ∷ []) k []) ≤ sizes lists + length behind
list_size zero lists behind zero = omega arith
list_size zero lists behind (suc k) = omega arith
list_size (suc n) [] behind (suc k) = list_size n [] behind k
list_size (suc n) (list ∷ lists) behind (suc k) = let l = list_size n lists behind k in omega arith
list_size _ lists behind _ = omega arith

pub list_short : (n : ℕ) (report : List ℕ) (k : ℕ) → length (get_or (lists_printed n (orders report)) k []) ≤ length (lines_in report)
list_short n report k =
    let l = list_size n (orders report).meters (orders report).strangers k in let t = told_size (lines_in report) in omega arith

-- ---- verdicts

module _ {r : Known} {report : List ℕ} {inputs : List (List ℕ)} {lists : List (List (ℕ × ℕ))}
    (read : AreListsRead r report inputs lists) where
  pub as_long : length lists ≡ length r.starts + 1
  as_long = ap length read.lists_are ∙ length-lists_printed (length r.starts) (orders report)

  -- where all lists are right by what all inputs told, each is an order of its lines
  pub orders_are : (before heard : List HeardInput) → before ≡ map (heard_input r.starts) inputs
      → heard ≡ map (heard_input r.starts) inputs → ((k : ℕ) → k < length lists → IsRight (numbers_in_list before k) (get_or lists k [])) → AreOrders r.starts heard lists
  orders_are before heard before_is heard_is right =
      let right_there =
      subst (λ (h : List HeardInput). (k : ℕ) → k < length lists → IsRight (numbers_in_list h k) (get_or lists k [])) before_is right in
      subst (λ (h : List HeardInput). AreOrders r.starts h lists) (sym heard_is) (record {
        meters_lists = orders_right r.starts inputs read.within lists as_long right_there;
        strangers_list = strangers_right r.starts inputs read.within lists as_long right_there;
      })

  module _ (text : List ℕ) (next : Option (List ℕ)) (state_is : state_of text ≡ Ok r) where
    abbrev audited : Audited
    audited = record { state = text; next = next; report = report; inputs = inputs }

    form : IsInForm audited r
    form = record { readable = record { state_is = state_is; within = read.within }; in_form = read.in_form }

    pub first_wrong_is : (heard : List HeardInput) → heard ≡ map (heard_input r.starts) inputs → (list place : ℕ)
        → IsFirstWrong (numbers_in_list heard) lists list place → IsVerdict audited (No (causes.Order list place))
    first_wrong_is heard heard_is list place wrong =
        let numbers : numbers_in_list heard ≡ wanted r.starts (map told_in inputs) =
        ap numbers_in_list heard_is ∙ (λ i k w. numbers_same r.starts inputs read.within k w i) in (
          r,
          form,
          subst (λ l. IsFirstWrong (wanted r.starts (map told_in inputs)) l list place) read.lists_are
              (subst (λ f. IsFirstWrong f lists list place) numbers wrong),
        )

    module _ {v : Verdict} (there : IsStepped r.own r.starts (map (heard_input r.starts) inputs) lists report next v) where
      abbrev world : WorldView
      world = record { slots = there.slots; strangers = there.strangers }

      session : IsSession r.own r.starts (map told_in inputs) world
      session =
          subst (λ all. IsSession r.own r.starts all world) (tells_all r.starts inputs read.within)
          (record { meters = meters_slots _ _ r.starts lists there.slots there.so; strangers = there.noted.lines })

      lists_end : {X : Type 0} (n : ℕ) (xs : List X) (d : X) → length xs ≡ n + 1 → drop n xs ≡ get_or xs n d ∷ []
      lists_end n xs d h = drop_more xs n d (omega arith) ∙ ap (λ l. get_or xs n d ∷ l) (drop_all (n + 1) xs (omega arith))

      printed : lists_printed (length r.starts) (orders report) ≡ lists_printed (length r.starts) (orders_of there.slots there.strangers)
      printed =
          let many : length (map (λ (s : SlotView). order_of s.journal) there.slots) ≡ length r.starts =
          length-map there.slots (λ (s : SlotView). order_of s.journal)
          ∙ as_many_slots _ _ r.starts there.slots (meters_slots _ _ r.starts lists there.slots there.so) in
          sym read.lists_are ∙ (slots_orders _ _ r.starts lists there.slots there.so
          ∙ (λ i. sym (as_many-all (length r.starts) (map (λ (s : SlotView). order_of s.journal) there.slots) many) i
          ++ (lists_end (length r.starts) lists [] as_long ∙ ap (λ o. o ∷ []) (sym there.noted.in_order)) i))

      ordered : IsOrdered audited r world
      ordered = record { form = form; session = session; printed = printed }

      text_is : report_text (map end_of (map (heard_input r.starts) inputs)) there.slots there.strangers ≡ report_of audited r world
      text_is = ap (λ e. report_text e there.slots there.strangers) (ends_all r.starts inputs read.within)

      left_by : (n : Option (List ℕ)) → IfSome n (λ t. t ≡ left_text r.own there.slots) → IfSome n (IsLeftBy r.own there.slots)
      left_by None h = tt
      left_by (Some t) h = record { text_is = h; read_back = there.read_back }

      pub compared_is : (verdict : Verdict)
          → IsCompared report (report_text (map end_of (map (heard_input r.starts) inputs)) there.slots there.strangers) next
          (left_text r.own there.slots) verdict
          → IsVerdict audited verdict
      compared_is Yes h = record { known = r; world = world; ordered = ordered; text = h.0 ∙ text_is; left = left_by next h.1 }
      compared_is (No (causes.Text place)) h =
          record { known = r; world = world; ordered = ordered; differs = subst (λ t. DiffersAt place report t) text_is h }
      compared_is (No (causes.Next line place)) h = record {
        known = r;
        world = world;
        ordered = ordered;
        text = h.0 ∙ text_is;
        next = h.1.text;
        next_is = h.1.text_is;
        line_is = h.1.line_is;
        differs = h.1.differs;
      }
      compared_is _ h = absurd h.1

  -- what is found of the lists is answered
  pub judged : {E F : Type 0} (next : Option (List ℕ)) (found : Result Verdict E) (result : Result Verdict F)
      (before heard : List HeardInput) → before ≡ map (heard_input r.starts) inputs → heard ≡ map (heard_input r.starts) inputs
      → ((k : ℕ) → k < length lists → IsRight (numbers_in_list before k) (get_or lists k []))
      → ((v : Verdict) → result ≡ Ok v → found ≡ Ok v)
      → IfOk found (λ v. AreOrders r.starts heard lists → IsStepped r.own r.starts heard lists report next v)
      → IfOk result (IsVerdictBy r next report inputs)
  judged next found (Err e) before heard before_is heard_is right same stepped = tt
  judged next found (Ok v) before heard before_is heard_is right same stepped = λ text state_is.
      let found_so =
      subst (λ f. IfOk f (λ v. AreOrders r.starts heard lists → IsStepped r.own r.starts heard lists report next v)) (same v refl)
      stepped (orders_are before heard before_is heard_is right) in
      let there = subst (λ h. IsStepped r.own r.starts h lists report next v) heard_is found_so in
      compared_is text next state_is there v there.compared

-- the verdict on the text of a state that was read
pub verdict_by : {E : Type 0} (result : Result Verdict E) (s : Known) (own : Address) (starts : List Start) (text : List ℕ)
    (next : Option (List ℕ)) (report : List ℕ) (inputs : List (List ℕ)) → own ≡ s.own → starts ≡ s.starts → state_of text ≡ Ok s
    → IfOk result (IsVerdictBy (record { own = own; starts = starts }) next report inputs)
    → IfOk result (IsVerdict (record { state = text; next = next; report = report; inputs = inputs }))
verdict_by result s own starts text next report inputs own_is starts_are found =
    IfOk-weaker result (IsVerdictBy (record { own = own; starts = starts }) next report inputs)
    (IsVerdict (record { state = text; next = next; report = report; inputs = inputs }))
    (λ v h. h text (found ∙ (λ i. Ok (record { own = sym own_is i; starts = sym starts_are i }))))
