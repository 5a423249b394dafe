-- From a run of all receivers to the journals of the closed cells.
use Rattle.std.proofs.Common.{◌≡◌, ℕ, ◌+◌, ◌<◌, ◌==◌, Bool, true, false, cond, if◌then◌else◌, List, [], ◌∷◌, ◌++◌, map, length, slice_index_or, refl, sym, ap, ◌∙◌, subst, arith}
use Rattle.std.specs.List.{enumerate_from}
use Rattle.meter_address.specs.declared.address.Address.{Address}
use Rattle.meter_slots.specs.declared.entry.Event.{Event}
use Rattle.meter_slots.specs.declared.entry.Outcome.{Outcome}
use Rattle.book_cells.specs.declared.act.Act.{Act}
use Rattle.book_cells.specs.declared.known.Made.{Made}
use Rattle.lists.specs.Each.{Each}
use Rattle.book_cells.specs.Acts.{Shown, CellShown, IsPassOf, is_among, sources, made, made_by, mine}
use Rattle.receivers.specs.Classes.{own_lines, strange_lines}
use Rattle.receivers.specs.Collected.{did_from}
use Rattle.receivers.specs.Passes.{Answered, Crew, acts_at, note_by, ArePassesOf}
use Rattle.receivers.specs.Roots.{CanClose}
use Rattle.receivers.specs.Run.{ReceiverRun}
use Rattle.receivers.specs.Session.{heard_from, heard_by}
use Rattle.receivers.specs.Works.{Part}
use Rattle.receivers.specs.Workers.{IsDone}
use Rattle.receivers.specs.Crews.{IsCrew, AreCrews, IsRoot, joined_by, AllJoined}
use Rattle.receivers.specs.Running.{AreDone, HaveRun}
use Rattle.std.proofs.lemmas.Bool.{eqb-true}
use Rattle.receivers.proofs.Stacks.{stack, made_of, root_made, all_joined}

module _ {O P : Type 0} (directory : List Address) (cells : List (CellShown O)) (strangers : CellShown P) where
  -- the parts of the receivers
  abbrev pub parts_of : (runs : List ReceiverRun) (fresh worked : List (Crew O P)) → AreDone directory cells strangers runs fresh worked
      → List Part
  parts_of [] [] [] h = []
  parts_of (r ∷ rs) (c ∷ cs) (c' ∷ cs') h = h.0.worked.part ∷ parts_of rs cs cs' h.1
  parts_of _ _ _ h = absurd h

-- the passes of the receiver with this number, after a run that was this part
pub record IsPart {O P : Type 0} (directory : List Address) (cells : List (CellShown O)) (n : ℕ) (c : Crew O P) (p : Part) : Type 0 where
  pub as_many : length c.passes ≡ length cells
  pub asked : map (λ (d : Answered). d.own) p.did ≡ own_lines directory (enumerate_from 1 p.heard)
  pub made_at : (k : ℕ) (d : Shown O Event Outcome) → k < length c.passes
      → mine (slice_index_or c.passes k d) ≡ made n (acts_at n k p.did) ∷ []
  pub noted : mine c.stranger_pass ≡ made n (map (note_by n) (strange_lines directory (enumerate_from 1 p.heard))) ∷ []

abbrev pub AreParts : {O P : Type 0} → List Address → List (CellShown O) → ℕ → List (Crew O P) → List Part → Type 0
AreParts directory cells n [] [] = Unit {0}
AreParts directory cells n (c ∷ cs) (p ∷ ps) = IsPart directory cells n c p × AreParts directory cells (n + 1) cs ps
AreParts directory cells n _ _ = ⊥

mine_is : {O C R : Type 0} (n : ℕ) (acts : List (Act C R)) (p q : Shown O C R) → q.number ≡ p.number → q.own ≡ p.own ++ acts
    → q.joined ≡ p.joined → p.number ≡ n → p.own ≡ [] → p.joined ≡ [] → mine q ≡ made n acts ∷ []
mine_is n acts p q number own joined is_n none nothing =
    λ i. made ((number ∙ is_n) i) ((own ∙ ap (λ l. l ++ acts) none) i) ∷ (joined ∙ nothing) i

module _ {O P : Type 0} (directory : List Address) (cells : List (CellShown O)) (strangers : CellShown P) where
  is_part : (n : ℕ) (r : ReceiverRun) (c c' : Crew O P) → IsCrew cells strangers n c → (h : IsDone cells strangers directory r c c')
      → IsPart directory cells n c' h.worked.part
  is_part n r c c' crew h = let w = h.worked.works in let many = w.answered.as_many in record {
    as_many = h.crew_of.passes.as_many;
    asked = w.asked;
    made_at = λ k d l. let f = crew.fresh k d (omega arith) in let m = w.answered.each k d (omega arith) in
        mine_is n _ (slice_index_or c.passes k d) (slice_index_or c'.passes k d) m.same.2 (m.own
        ∙ ap (λ (z : ℕ). (slice_index_or c.passes k d).own ++ acts_at z k h.worked.part.did) f.number) m.joined f.number f.own f.joined;
    noted = let f = crew.stranger in let m = w.noted in
        mine_is n _ c.stranger_pass c'.stranger_pass m.same.2 (m.own
        ∙ ap (λ (z : ℕ). c.stranger_pass.own ++ map (note_by z) (strange_lines directory (enumerate_from 1 h.worked.part.heard)))
        f.number) m.joined f.number f.own f.joined;
  }

  are_parts : (n : ℕ) (runs : List ReceiverRun) (fresh worked : List (Crew O P)) → AreCrews cells strangers n fresh
      → (h : AreDone directory cells strangers runs fresh worked)
      → AreParts directory cells n worked (parts_of directory cells strangers runs fresh worked h)
  are_parts n [] [] [] crews h = tt
  are_parts n (r ∷ rs) (c ∷ cs) (c' ∷ cs') crews h = (is_part n r c c' crews.0 h.0, are_parts (n + 1) rs cs cs' crews.1 h.1)
  are_parts n _ _ _ crews h = absurd h

-- what a receiver made at a place, and what it noted
abbrev pub answered_at : ℕ → ℕ → Part → List (Act Event Outcome)
answered_at k n p = acts_at n k p.did

abbrev pub noted_in : List Address → ℕ → Part → List (Act Address Unit)
noted_in directory n p = map (note_by n) (strange_lines directory (enumerate_from 1 p.heard))

-- the part of the receiver with this number, where the first one has the number n
abbrev part_from : ℕ → ℕ → List Part → Part
part_from n w ps = record { heard = heard_from n w (map (λ (p : Part). p.heard) ps); did = did_from n w ps }

-- what was made with a number is what that receiver's part says
acts_with : {C R : Type 0} (f : ℕ → Part → List (Act C R)) (n w : ℕ) (ps : List Part) → f w (record { heard = []; did = [] }) ≡ []
    → made_of f n w ps ≡ f w (part_from n w ps)
acts_with f n w [] nothing = sym nothing
acts_with f n w (p ∷ ps) nothing = at (n == w) refl (acts_with f (n + 1) w ps nothing)
  where
    at : (b : Bool) → (n == w) ≡ b → made_of f (n + 1) w ps ≡ f w (part_from (n + 1) w ps)
        → (if b then f n p else made_of f (n + 1) w ps) ≡ f w (record {
          heard = if b then p.heard else heard_from (n + 1) w (map (λ (q : Part). q.heard) ps);
          did = if b then p.did else did_from (n + 1) w ps;
        })
    at true e h = ap (λ (z : ℕ). f z p) (eqb-true n w e)
    at false e h = h

module _ {O P Q C R : Type 0} (directory : List Address) (cells : List (CellShown O)) (pass_of : Crew O P → Shown Q C R)
    (f : ℕ → Part → List (Act C R))
    (made_is : (n : ℕ) (c : Crew O P) (p : Part) → IsPart directory cells n c p → mine (pass_of c) ≡ made n (f n p) ∷ []) where
  joined_is : (n : ℕ) (crews : List (Crew O P)) (ps : List Part) → AreParts directory cells n crews ps
      → joined_by pass_of crews ≡ stack f n ps
  joined_is n [] [] h = refl
  joined_is n (c ∷ cs) (p ∷ ps) h = λ i. joined_is (n + 1) cs ps h.1 i ++ made_is n c p h.0 i
  joined_is n _ _ h = absurd h

pub asked_by : {O P : Type 0} (directory : List Address) (cells : List (CellShown O)) (n w : ℕ) (crews : List (Crew O P)) (ps : List Part)
    → AreParts directory cells n crews ps
    → map (λ (d : Answered). d.own) (did_from n w ps) ≡ own_lines directory
    (enumerate_from 1 (heard_from n w (map (λ (p : Part). p.heard) ps)))
unfolding own_lines
asked_by directory cells n w [] [] h = refl
asked_by directory cells n w (c ∷ cs) (p ∷ ps) h = at (n == w) (asked_by directory cells (n + 1) w cs ps h.1)
  where
    at : (b : Bool) → map (λ (d : Answered). d.own) (did_from (n + 1) w ps) ≡ own_lines directory
        (enumerate_from 1 (heard_from (n + 1) w (map (λ (q : Part). q.heard) ps)))
        → map (λ (d : Answered). d.own) (cond b p.did (did_from (n + 1) w ps)) ≡ own_lines directory
        (enumerate_from 1 (cond b p.heard (heard_from (n + 1) w (map (λ (q : Part). q.heard) ps))))
    at true go = h.0.asked
    at false go = go
asked_by directory cells n w _ _ h = absurd h

-- a root with all joined: its cell can be closed, and with each number these acts were made
pub record IsJoined {O C R : Type 0} (c : CellShown O) (acts : ℕ → List (Act C R)) (r : Shown O C R) : Type 0 where
  pub can : CanClose c r
  pub made_is : (w : ℕ) → made_by w (mine r) ≡ acts w

-- what was made with each number is what was answered to that receiver
abbrev pub IsJoinedRoot : {O : Type 0} → CellShown O → ℕ → List Part → Shown O Event Outcome → Type 0
IsJoinedRoot c k ps r = IsJoined c (λ w. acts_at w k (did_from 1 w ps)) r

joined_root : {O C R : Type 0} (f : ℕ → Part → List (Act C R)) → ((w : ℕ) → f w (record { heard = []; did = [] }) ≡ []) → (most : ℕ)
    (ps : List Part) (c : CellShown O) (p r : Shown O C R) (js : List (Made C R)) → length ps ≡ most → js ≡ stack f 1 ps → IsRoot 0 most p
    → AllJoined js p r → IsPassOf c r → IsJoined c (λ w. f w (part_from 1 w ps)) r
joined_root {O} {C} {R} f nothing most ps c p r js many js_is root all of =
    let stacked : r.joined ≡ stack f 1 ps = all.joined ∙ ((λ i. root.joined i ++ js) ∙ js_is) in record {
      can = record {
        cell = of;
        is_first = all.same.3 ∙ root.is_first;
        all_joined = subst (λ (t : List (Made C R) × List ℕ). Each (λ n. is_among n (sources t.0) ≡ true) t.1)
            (λ i. (sym stacked i, sym all.handed i)) (all_joined f most ps p.handed many root.handed);
      };
      made_is = λ w. (λ i. if (all.same.2 ∙ root.number) i == w then (all.own ∙ root.own) i else made_by w (stacked i))
          ∙ (root_made f w ps ∙ acts_with f 1 w ps (nothing w));
    }

none_noted : (directory : List Address) (w : ℕ) → noted_in directory w (record { heard = []; did = [] }) ≡ []
unfolding strange_lines
none_noted directory w = refl

module _ {O P : Type 0} (directory : List Address) (cells : List (CellShown O)) (strangers : CellShown P) where
  parts_many : (runs : List ReceiverRun) (fresh worked : List (Crew O P)) → (h : AreDone directory cells strangers runs fresh worked)
      → length (parts_of directory cells strangers runs fresh worked h) ≡ length runs
  parts_many [] [] [] h = refl
  parts_many (r ∷ rs) (c ∷ cs) (c' ∷ cs') h = let e = parts_many rs cs cs' h.1 in omega arith
  parts_many _ _ _ h = absurd h

-- after a run every cell can be closed, and what its journal has of each receiver is known
module _ {O P : Type 0} (directory : List Address) (cells : List (CellShown O)) (strangers : CellShown P) (runs : List ReceiverRun)
    (roots : List (Shown O Event Outcome)) (s : Shown P Address Unit)
    (run : HaveRun directory cells strangers runs roots s) where
  abbrev pub run_parts : List Part
  run_parts = parts_of directory cells strangers runs run.fresh run.worked run.done

  pub run_are_parts : AreParts directory cells 1 run.worked run_parts
  run_are_parts = are_parts directory cells strangers 1 runs run.fresh run.worked run.are_crews run.done

  many : length run_parts ≡ length runs
  many = parts_many directory cells strangers runs run.fresh run.worked run.done

  pub run_root : ArePassesOf cells roots → (k : ℕ) (c : CellShown O) (d : Shown O Event Outcome) → k < length cells
      → IsJoinedRoot (slice_index_or cells k c) k run_parts (slice_index_or roots k d)
  run_root of k c d inside =
      let all = of.as_many in let hired = run.are_roots.each_cell.as_many in
      joined_root (answered_at k) (λ w. refl) (length runs) run_parts (slice_index_or cells k c) (slice_index_or run.hired k d)
      (slice_index_or roots k d) (joined_by (λ (x : Crew O P). slice_index_or x.passes k d) run.worked) many
      (joined_is directory cells (λ (x : Crew O P). slice_index_or x.passes k d) (answered_at k) (λ n x p h. let long = h.as_many in
      h.made_at k d (omega arith)) 1 run.worked run_parts run_are_parts)
      (run.are_roots.each k d (omega arith)) (run.joined.each k d (omega arith)) (of.each k c d (omega arith))

  pub run_stranger : IsPassOf strangers s → IsJoined strangers
      (λ w. map (note_by w) (strange_lines directory (enumerate_from 1 (heard_by w (map (λ (p : Part). p.heard) run_parts))))) s
  run_stranger of = joined_root (noted_in directory) (none_noted directory) (length runs) run_parts strangers run.hired_stranger s
      (joined_by (λ (x : Crew O P). x.stranger_pass) run.worked) many
      (joined_is directory cells (λ (x : Crew O P). x.stranger_pass) (noted_in directory) (λ n x p h. h.noted) 1 run.worked run_parts run_are_parts)
      run.are_roots.stranger run.joined.stranger of
