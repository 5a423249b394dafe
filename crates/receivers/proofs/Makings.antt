-- What one line did, and what lines did one after another.
use Rattle.std.proofs.Common.{◌≡◌, ◌==◌, ◌≤◌, ℕ, Bool, List, [], ◌∷◌, ◌++◌, map, filter, slice_index_or, Option, Some, None, Result, Ok, Err, OnErr, refl, sym, ap, ◌∙◌, subst, arith, append-nil, append_assoc}
use Rattle.std.specs.Prelude.{option_to_list}
use Rattle.std.specs.List.{filter_map, cons_option}
use Rattle.std.proofs.lemmas.List.Elements.{filter-append}
use Rattle.std.proofs.lemmas.List.{map-append}
use Rattle.outer_io.specs.declared.failures.Failed.{Failed}
use Rattle.outer_io.specs.Shown.{Change, SinkShown, WriteFailed}
use Rattle.meter_address.specs.declared.address.Address.{Address}
use Rattle.meter_slots.specs.declared.entry.Event.{Event}
use Rattle.meter_slots.specs.declared.entry.Outcome.{Outcome}
use Rattle.book_cells.specs.declared.act.Act.{Act}
use Rattle.book_cells.specs.Acts.{Shown}
use Rattle.receivers.specs.declared.told.Told.{Told}
use Rattle.receivers.specs.declared.told.Told.TheVariants as told
use Rattle.receivers.specs.Classes.{OwnLine, StrangeLine, place_of, own_at, own_by, own_of, strange_at, strange_by, strange_of, own_lines, strange_lines}
use Rattle.receivers.specs.Passes.{Answered, act_by, acts_at, note_by, crew, HasMade, HaveAnswered, HasNoted}
use Rattle.receivers.specs.Works.{sent_text, Works, MakesShared, Sends, SendsAll}

-- ---- passes

module _ {O C R : Type 0} where
  pub made_nothing : (p : Shown O C R) → HasMade [] p p
  made_nothing p = record { same = (refl, refl, refl, refl); own = sym (append-nil p.own); joined = refl; handed = refl }

  pub made_more : (xs ys : List (Act C R)) (p q r : Shown O C R) → HasMade xs p q → HasMade ys q r → HasMade (xs ++ ys) p r
  made_more xs ys p q r u w = record {
    same = (w.same.0 ∙ u.same.0, w.same.1 ∙ u.same.1, w.same.2 ∙ u.same.2, w.same.3 ∙ u.same.3);
    own = w.own ∙ (ap (λ (l : List (Act C R)). l ++ ys) u.own ∙ append_assoc p.own xs ys);
    joined = w.joined ∙ u.joined;
    handed = w.handed ∙ u.handed;
  }

acts-append : (source place : ℕ) (xs ys : List Answered)
    → acts_at source place (xs ++ ys) ≡ acts_at source place xs ++ acts_at source place ys
acts-append source place xs ys =
    ap (map (act_by source)) (filter-append (λ (d : Answered). d.own.place == place) xs ys)
    ∙ map-append (act_by source) (filter (λ (d : Answered). d.own.place == place) xs)
    (filter (λ (d : Answered). d.own.place == place) ys)

module _ {O : Type 0} where
  pub answered_nothing : (passes : List (Shown O Event Outcome)) → HaveAnswered [] passes passes
  answered_nothing passes = record { as_many = refl; each = λ k d l. made_nothing (slice_index_or passes k d) }

  pub answered_more : (xs ys : List Answered) (a b c : List (Shown O Event Outcome)) → HaveAnswered xs a b → HaveAnswered ys b c
      → HaveAnswered (xs ++ ys) a c
  answered_more xs ys a b c p q = let many = p.as_many in record {
    as_many = q.as_many ∙ p.as_many;
    each = λ k d l. let u = p.each k d l in let w = q.each k d (omega arith) in
        subst (λ (acts : List (Act Event Outcome)). HasMade acts (slice_index_or a k d) (slice_index_or c k d))
        (sym (acts-append (slice_index_or a k d).number k xs ys))
        (made_more _ _ (slice_index_or a k d) (slice_index_or b k d) (slice_index_or c k d) u
        (subst (λ (n : ℕ). HasMade (acts_at n k ys) (slice_index_or b k d) (slice_index_or c k d)) u.same.2 w));
  }

  pub noted_more : (xs ys : List StrangeLine) (p q r : Shown O Address Unit) → HasNoted xs p q → HasNoted ys q r → HasNoted (xs ++ ys) p r
  noted_more xs ys p q r u w = subst (λ (acts : List (Act Address Unit)). HasMade acts p r) (sym (map-append (note_by p.number) xs ys))
      (made_more _ _ p q r u (subst (λ (n : ℕ). HasMade (map (note_by n) ys) q r) u.same.2 w))

-- ---- one line

one : {X Y : Type 0} (h : X → Option Y) (x : X) (o : Option Y) → h x ≡ o → filter_map h (x ∷ []) ≡ option_to_list o
one h x None e = ap (λ o. cons_option o []) e
one h x (Some y) e = ap (λ o. cons_option o []) e

module _ (directory : List Address) (line : ℕ) (t : Told) where
  pub one_own : (o : Option OwnLine) → own_by directory line t ≡ o → own_lines directory ((line, t) ∷ []) ≡ option_to_list o
  unfolding own_lines
  one_own o e = one (own_of directory) (line, t) o e

  one_strange : (o : Option StrangeLine) → strange_by directory line t ≡ o → strange_lines directory ((line, t) ∷ []) ≡ option_to_list o
  unfolding strange_lines
  one_strange o e = one (strange_of directory) (line, t) o e

pub works_nothing : {O P : Type 0} (directory : List Address) (a b : List (Shown O Event Outcome)) (s s' : Shown P Address Unit)
    → HaveAnswered [] a b → HasNoted [] s s' → Works directory [] [] (crew a s) (crew b s')
unfolding own_lines strange_lines
works_nothing directory a b s s' answered noted = record { asked = refl; answered = answered; noted = noted }

-- the step of a stranger's line
pub makes_strange : {O P : Type 0} (directory : List Address) (line : ℕ) (address : Address) (event : Event)
    (a : List (Shown O Event Outcome)) (s s' : Shown P Address Unit) (tells : Bool) (x : SinkShown)
    → place_of directory address ≡ None → HasNoted (record { line = line; address = address } ∷ []) s s'
    → MakesShared directory line address event (Ok tt) (crew a s) (crew a s') tells (record { before = x; now = x })
makes_strange directory line address event a s s' tells x found noted = let t = told.Event address event in record {
  did = [];
  works = record {
    asked = sym (one_own directory line t None (ap (own_at line event) found));
    answered = answered_nothing a;
    noted = subst (λ (ls : List StrangeLine). HasNoted ls s s')
        (sym (one_strange directory line t (Some (record { line = line; address = address })) (ap (strange_at line address) found))) noted;
  };
  sent_so = λ _. sym (append-nil x.written);
  tx_fault = tt;
  tx_later = omega arith;
}

sends_one : (tells : Bool) (sent : Result Unit Failed) (d : Answered) (x y : List ℕ) → Sends tells sent d.outcome x y
    → SendsAll tells sent (d ∷ []) x y
sends_one tells (Ok _) d x y sends = λ h. sends h ∙ ap (λ (l : List ℕ). x ++ l) (sym (append-nil (sent_text d)))
sends_one tells (Err e) d x y sends = (d, refl, sends.0, sends.1)

-- the step of a meter's own line
pub makes_own : {O P : Type 0} (directory : List Address) (line : ℕ) (address : Address) (event : Event) (place : ℕ)
    (outcome : Outcome) (sent : Result Unit Failed) (a b : List (Shown O Event Outcome)) (s : Shown P Address Unit) (tells : Bool)
    (tx : Change SinkShown) → place_of directory address ≡ Some place
    → HaveAnswered (record { own = record { place = place; line = line; event = event }; outcome = outcome } ∷ []) a b
    → Sends tells sent outcome tx.before.written tx.now.written → OnErr sent (WriteFailed tx) → tx.before.faults ≤ tx.now.faults
    → MakesShared directory line address event sent (crew a s) (crew b s) tells tx
makes_own directory line address event place outcome sent a b s tells tx found answered sends cause later =
    let t = told.Event address event in let own : OwnLine = record { place = place; line = line; event = event } in record {
      did = record { own = own; outcome = outcome } ∷ [];
      works = record {
        asked = sym (one_own directory line t (Some own) (ap (own_at line event) found));
        answered = answered;
        noted = subst (λ (ls : List StrangeLine). HasNoted ls s s)
            (sym (one_strange directory line t None (ap (strange_at line address) found))) (made_nothing s);
      };
      sent_so = sends_one tells sent (record { own = own; outcome = outcome }) tx.before.written tx.now.written sends;
      tx_fault = cause;
      tx_later = later;
    }
