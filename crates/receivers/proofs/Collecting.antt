-- From the cells of some commissions to the session that their books tell.
use Rattle.std.proofs.Common.{◌≡◌, ℕ, zero, suc, ◌+◌, ◌<◌, ◌≤◌, List, [], ◌∷◌, ◌++◌, map, take, drop, length, slice_index_or, get_or, refl, sym, ap, ◌∙◌, subst, arith, length-append, append_assoc}
use Rattle.std.specs.List.{enumerate_from}
use Rattle.std.proofs.Math.ListN.{get_or-append}
use Rattle.std.proofs.Math.Seq.{get_or-append_seam, take-append_seam}
use Rattle.lists.proofs.Places.{at_seam, head_is, tail_is}
use Rattle.std.proofs.lemmas.List.{map-append}
use mathlib.Core.Logic.{dite}
use native.Mathlib.Decide.{ℕ_discrete}
use Rattle.meter_address.specs.declared.address.Address.{Address}
use Rattle.meter_slots.specs.declared.entry.Event.{Event}
use Rattle.meter_slots.specs.declared.entry.Outcome.{Outcome}
use Rattle.meter_address.specs.Address.{AreApart}
use Rattle.meter_slots.specs.Journal.{Start, SlotView}
use Rattle.book_cells.specs.Acts.{Shown, CellShown, IsPassOf, IsFirstPass, acts_by, made_by, mine}
use Rattle.meter_slots.specs.Acting.{Opening, opening_of, act_of, IsLegalJournal}
use Rattle.stranger_ring.specs.Ring.{note_of}
use Rattle.receivers.specs.Classes.{own_lines}
use Rattle.receivers.specs.Passes.{Answered, Crew, ArePassesOf}
use Rattle.receivers.specs.Roots.{CanClose, CanCloseAll, AreLeft}
use Rattle.stranger_ring.specs.declared.strangers.Heard.{Heard}
use Rattle.receivers.specs.Crews.{IsRoot}
use Rattle.lists.specs.Each.{Each, EachWith}
use Rattle.receivers.specs.Run.{ReceiverRun}
use Rattle.receivers.specs.Running.{AreDone, HaveRun}
use Rattle.receivers.specs.Session.{heard_by, entries_by, IsMetersSlot}
use Rattle.receivers.specs.Works.{Part, HasRun}
use Rattle.receivers.specs.Collected.{address_of, heard_in, did_from, entries_at, opening, AreFresh, IsCollected}
use Rattle.receivers.proofs.SessionLines.{meters_part, entries_made, notes_made}
use Rattle.receivers.proofs.Sessions.{IsJoinedRoot, parts_of, asked_by, run_parts, run_are_parts, run_root, run_stranger}

-- ---- making the cells

module _ (own : Address) where
  pub fresh_more : (commissions : List Start) (c : Start) (cells cells' : List (CellShown SlotView))
      (roots roots' : List (Shown SlotView Event Outcome)) (x : CellShown SlotView) (p : Shown SlotView Event Outcome)
      → AreFresh own commissions cells roots → opening_of x.opening ≡ opening own c → IsPassOf x p → IsFirstPass 0 p
      → cells' ≡ cells ++ x ∷ [] → roots' ≡ roots ++ p ∷ [] → AreFresh own (commissions ++ c ∷ []) cells' roots'
  fresh_more commissions c cells cells' roots roots' x p h is of new cells_is roots_is =
      subst (λ (l : List (CellShown SlotView)). AreFresh own (commissions ++ c ∷ []) l roots') (sym cells_is)
      (subst (AreFresh own (commissions ++ c ∷ []) (cells ++ x ∷ [])) (sym roots_is) (
      let many = h.each_cell.as_many in let a = length-append cells (x ∷ []) in let b = length-append roots (p ∷ []) in record {
        openings = map-append (λ (z : CellShown SlotView). opening_of z.opening) cells (x ∷ [])
            ∙ ((λ i. h.openings i ++ is i ∷ []) ∙ sym (map-append (opening own) commissions (c ∷ [])));
        each_cell = record {
          as_many = omega arith;
          each = λ k y d l. dite (ℕ_discrete k (length roots))
              (λ e. subst (λ (z : CellShown SlotView × Shown SlotView Event Outcome). IsPassOf z.0 z.1)
              (λ i. (sym (at_seam cells x k y (omega arith)) i, sym (at_seam roots p k d e) i)) of)
              (λ ne. subst (λ (z : CellShown SlotView × Shown SlotView Event Outcome). IsPassOf z.0 z.1)
              (λ i. (sym (get_or-append cells (x ∷ []) y k (omega arith)) i, sym (get_or-append roots (p ∷ []) d k (omega arith)) i))
              (h.each_cell.each k y d (omega arith)));
        };
        fresh = λ k d l. dite (ℕ_discrete k (length roots))
            (λ e. subst (IsFirstPass 0) (sym (at_seam roots p k d e)) new)
            (λ ne. subst (IsFirstPass 0) (sym (get_or-append roots (p ∷ []) d k (omega arith))) (h.fresh k d (omega arith)));
      }))

pub new_root : {O C R : Type 0} (n : ℕ) (p : Shown O C R) → IsFirstPass 0 p → IsRoot n n p
new_root n p h =
    record {
      number = h.number;
      is_first = h.is_first;
      own = h.own;
      joined = h.joined;
      handed =
          subst (Each (λ (k : ℕ). (n < k) × (k ≤ n))) (sym h.handed) tt;
    }

-- ---- closing them

pub close_all : {O C R : Type 0} (cells : List (CellShown O)) (roots : List (Shown O C R)) → length roots ≡ length cells
    → ((k : ℕ) (c : CellShown O) (d : Shown O C R) → k < length cells → CanClose (slice_index_or cells k c) (slice_index_or roots k d))
    → CanCloseAll cells roots
close_all [] [] many each = tt
close_all (c ∷ cells) (r ∷ roots) many each =
    (each 0 c r (omega arith), close_all cells roots (omega arith) (λ k x d l. each (suc k) x d (omega arith)))
close_all _ _ many each = absurd (omega arith)

module _ (own : Address) (all_addresses : List Address) (ps : List Part) (apart : AreApart all_addresses) (asked : (w : ℕ)
    → map (λ (d : Answered). d.own) (did_from 1 w ps) ≡ own_lines all_addresses (enumerate_from 1 (heard_by w (map heard_in ps)))) where
  abbrev Left : List (CellShown SlotView) → List (Shown SlotView Event Outcome) → List SlotView → Type 0
  Left = AreLeft opening_of (λ (b : SlotView). map act_of b.journal) IsLegalJournal

  pub meters_from : (k : ℕ) (front : List Address) (cs : List Start) (cells : List (CellShown SlotView))
      (roots : List (Shown SlotView Event Outcome)) (books : List SlotView) → all_addresses ≡ front ++ map address_of cs → length front ≡ k
      → map (λ (c : CellShown SlotView). opening_of c.opening) cells ≡ map (opening own) cs → Left cells roots books
      → ((i : ℕ) (c : CellShown SlotView) (d : Shown SlotView Event Outcome) → i < length cells
      → IsJoinedRoot (slice_index_or cells i c) (k + i) ps (slice_index_or roots i d))
      → EachWith (IsMetersSlot own (map heard_in ps)) cs books
  meters_from k front [] [] [] [] is at openings left joined = tt
  meters_from k front [] (x ∷ cells) roots books is at openings left joined = absurd cc
  meters_from k front (c ∷ cs) [] roots books is at openings left joined = absurd cc
  meters_from k front (c ∷ cs) (x ∷ cells) (r ∷ roots) (b ∷ books) is at openings left joined =
      let opens : opening_of x.opening ≡ opening own c = head_is _ _ _ _ openings in
      let many = ap length is in let n = length-append front (c.address ∷ map address_of cs) in
      let here : get_or all_addresses k own ≡ c.address = ap (λ (l : List Address). get_or l k own) is
      ∙ (ap (λ (z : ℕ). get_or (front ++ c.address ∷ map address_of cs) z own) (sym at)
      ∙ get_or-append_seam front c.address (map address_of cs) own) in
      let root = subst (λ (z : ℕ). IsJoinedRoot x z ps r) (let e : k + 0 ≡ k = omega arith in e) (joined 0 x r (omega arith)) in (
        meters_part own (map heard_in ps) (λ w. did_from 1 w ps) all_addresses k own c b apart (omega arith) here (left.0.opening_is
            ∙ opens)
            (subst (λ (o : Opening). IsLegalJournal o (map act_of b.journal)) opens left.0.is_legal) (λ w. left.0.acts w
            ∙ root.made_is w) asked,
        meters_from (k + 1) (front ++ c.address ∷ []) cs cells roots books (is
            ∙ sym (append_assoc front (c.address ∷ []) (map address_of cs))) (let m =
            length-append front (c.address ∷ []) in omega arith) (tail_is _ _ _ _ openings) left.1
            (λ i y d l. subst (λ (z : ℕ). IsJoinedRoot (slice_index_or cells i y) z ps (slice_index_or roots i d))
            (let e : k + suc i ≡ k + 1 + i = omega arith in e) (joined (suc i) y d (omega arith))),
      )
  meters_from k front _ _ _ _ is at openings left joined = absurd left

  pub answers_from : (w k : ℕ) (cells : List (CellShown SlotView)) (roots : List (Shown SlotView Event Outcome)) (books : List SlotView)
      → Left cells roots books
      → ((i : ℕ) (c : CellShown SlotView) (d : Shown SlotView Event Outcome) → i < length cells
      → IsJoinedRoot (slice_index_or cells i c) (k + i) ps (slice_index_or roots i d))
      → (i : ℕ) (b : SlotView) → i < length books → entries_by w (slice_index_or books i b).journal ≡ entries_at w (k + i) (did_from 1 w ps)
  answers_from w k [] [] [] left joined i b l = absurd (omega arith)
  answers_from w k (x ∷ cells) (r ∷ roots) (y ∷ books) left joined zero b l =
      entries_made w (k + 0) y.journal (did_from 1 w ps) (left.0.acts w ∙ (joined 0 x r (omega arith)).made_is w)
  answers_from w k (x ∷ cells) (r ∷ roots) (y ∷ books) left joined (suc i) b l =
      answers_from w (k + 1) cells roots books left.1
      (λ j z d m. subst (λ (n : ℕ). IsJoinedRoot (slice_index_or cells j z) n ps (slice_index_or roots j d))
      (let e : k + suc j ≡ k + 1 + j = omega arith in e) (joined (suc j) z d (omega arith))) i b (omega arith)
      ∙ ap (λ (n : ℕ). entries_at w n (did_from 1 w ps)) (let e : k + 1 + i ≡ k + suc i = omega arith in e)
  answers_from w k _ _ _ left joined i b l = absurd left

-- ---- all together

-- what `as_mut_slice` gives back
pub whole : {X : Type 0} (n : ℕ) (xs ys : List X) → length xs ≡ n → length ys ≡ n → take n (xs ++ drop (length xs) ys) ≡ xs
whole n xs ys e f = ap (λ (m : ℕ). take m (xs ++ drop (length xs) ys)) (sym e) ∙ take-append_seam xs (drop (length xs) ys)

-- all receivers worked on the cells that were lent, which are these
pub record HaveRunOn {P : Type 0} (directory : List Address) (cells : List (CellShown SlotView)) (strangers : CellShown P)
    (runs : List ReceiverRun) (roots : List (Shown SlotView Event Outcome)) (s : Shown P Address Unit) : Type 0 where
  pub each_cell : ArePassesOf cells roots
  pub stranger_cell : IsPassOf strangers s
  pub run : HaveRun directory cells strangers runs roots s

pub have_run_on : {P : Type 0} (directory : List Address) (lent cells : List (CellShown SlotView)) (strangers : CellShown P)
    (runs : List ReceiverRun) (roots : List (Shown SlotView Event Outcome)) (s : Shown P Address Unit) → lent ≡ cells
    → ArePassesOf lent roots × IsPassOf strangers s → HaveRun directory lent strangers runs roots s
    → HaveRunOn directory cells strangers runs roots s
have_run_on directory lent cells strangers runs roots s same of run = record {
  each_cell = subst (λ l. ArePassesOf l roots) same of.0;
  stranger_cell = of.1;
  run = subst (λ l. HaveRun directory l strangers runs roots s) same run;
}

-- the cells can be closed
pub can_close_all : {P : Type 0} (directory : List Address) (cells : List (CellShown SlotView)) (strangers : CellShown P)
    (runs : List ReceiverRun) (roots : List (Shown SlotView Event Outcome)) (s : Shown P Address Unit)
    → HaveRunOn directory cells strangers runs roots s → CanCloseAll cells roots × CanClose strangers s
can_close_all directory cells strangers runs roots s h = (
  close_all cells roots h.each_cell.as_many (λ k x d l. (run_root directory cells strangers runs roots s h.run h.each_cell k x d l).can),
  (run_stranger directory cells strangers runs roots s h.run h.stranger_cell).can,
)

module _ {P : Type 0} (cells : List (CellShown SlotView)) (strangers : CellShown P) where
  each_run : (directory : List Address) (runs : List ReceiverRun) (fresh worked : List (Crew SlotView P))
      → (h : AreDone directory cells strangers runs fresh worked)
      → EachWith (HasRun directory) runs (parts_of directory cells strangers runs fresh worked h)
  each_run directory [] [] [] h = tt
  each_run directory (r ∷ rs) (c ∷ cs) (c' ∷ cs') h = (h.0.worked.ran, each_run directory rs cs cs' h.1)
  each_run directory _ _ _ h = absurd h

  pub collected : (own : Address) (commissions : List Start) (runs : List ReceiverRun) (roots : List (Shown SlotView Event Outcome))
      (s : Shown P Address Unit) (books : List SlotView) (heard : List Heard)
      → AreApart (map address_of commissions) → map (λ (c : CellShown SlotView). opening_of c.opening) cells ≡ map (opening own) commissions
      → HaveRunOn (map address_of commissions) cells strangers runs roots s
      → AreLeft opening_of (λ (b : SlotView). map act_of b.journal) IsLegalJournal cells roots books
      → ((n : ℕ) → acts_by n (map note_of heard) ≡ made_by n (mine s))
      → IsCollected own commissions runs (record { slots = books; strangers = heard })
  collected own commissions runs roots s books heard apart openings h is_left noted =
      let directory = map address_of commissions in let run = h.run in
      let ps = run_parts directory cells strangers runs roots s run in
      let asked : (w : ℕ)
      → map (λ (d : Answered). d.own) (did_from 1 w ps) ≡ own_lines directory (enumerate_from 1 (heard_by w (map heard_in ps))) =
      (λ w. asked_by directory cells 1 w run.worked ps (run_are_parts directory cells strangers runs roots s run)) in
      let root = run_root directory cells strangers runs roots s run h.each_cell in
      let stranger = run_stranger directory cells strangers runs roots s run h.stranger_cell in record {
        parts = ps;
        each_run = each_run directory runs run.fresh run.worked run.done;
        session = record {
          meters =
              meters_from own directory ps apart asked 0 [] commissions cells roots books refl refl openings is_left
              (λ i c d l. subst (λ (z : ℕ). IsJoinedRoot (slice_index_or cells i c) z ps (slice_index_or roots i d)) (let e : i ≡ 0 + i =
              omega arith in e) (root i c d l));
          strangers = λ w. notes_made commissions w heard (heard_by w (map heard_in ps)) (noted w ∙ stranger.made_is w);
        };
        answers = λ w. record {
          asked = asked w;
          answered =
              λ i b l. answers_from own directory ps apart asked w 0 cells roots books is_left
              (λ j c d m. subst (λ (z : ℕ). IsJoinedRoot (slice_index_or cells j c) z ps (slice_index_or roots j d)) (let e : j ≡ 0 + j =
              omega arith in e) (root j c d m)) i b l
              ∙ ap (λ (n : ℕ). entries_at w n (did_from 1 w ps)) (let e : 0 + i ≡ i = omega arith in e);
        };
      }
