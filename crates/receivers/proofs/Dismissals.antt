-- The passes of one more receiver are joined, the last one's that is left.
use Rattle.std.proofs.Common.{◌≡◌, List, [], ◌∷◌, ◌++◌, map, length, slice_index_or, refl, sym, ap, ◌∙◌, subst, arith, append-nil, append_assoc}
use Rattle.std.proofs.lemmas.List.{map-append, nil_from_length}
use Rattle.meter_address.specs.declared.address.Address.{Address}
use Rattle.meter_slots.specs.declared.entry.Event.{Event}
use Rattle.meter_slots.specs.declared.entry.Outcome.{Outcome}
use Rattle.book_cells.specs.declared.known.Made.{Made}
use Rattle.lists.specs.Each.{Each}
use Rattle.book_cells.specs.Acts.{Shown, CellShown, mine, HasJoined}
use Rattle.receivers.specs.Roots.{HaveJoined}
use Rattle.receivers.specs.Passes.{Crew}
use Rattle.receivers.specs.Crews.{CanJoin, AllJoined, HaveAllJoined}

module _ {O C R : Type 0} where
  joined_more : (xs : List (Made C R)) (p q r t : Shown O C R) → AllJoined xs p q → HasJoined q t r → AllJoined (xs ++ mine t) p r
  joined_more xs p q r t u w = record {
    same = (w.same.0 ∙ u.same.0, w.same.1 ∙ u.same.1, w.same.2 ∙ u.same.2, w.same.3 ∙ u.same.3);
    own = w.own ∙ u.own;
    handed = w.handed ∙ u.handed;
    joined = w.joined ∙ (ap (λ l. l ++ mine t) u.joined ∙ append_assoc p.joined xs (mine t));
  }

  joined_none : (p : Shown O C R) → AllJoined [] p p
  joined_none p = record { same = (refl, refl, refl, refl); own = refl; handed = refl; joined = sym (append-nil p.joined) }

each_last : {X : Type 0} (P : X → Type 0) (xs : List X) (x : X) → Each P (xs ++ x ∷ []) → Each P xs × P x
each_last P [] x h = (tt, h.0)
each_last P (y ∷ ys) x h = let rest = each_last P ys x h.1 in ((h.0, rest.0), rest.1)

module _ {O P : Type 0} where
  -- the crews that are gone, whose passes were joined, behind those that are left
  pub record IsDismissed (all left : List (Crew O P)) (before after : List (Shown O Event Outcome))
      (s s' : Shown P Address Unit) : Type 0 where
    pub gone : List (Crew O P)
    pub all_are : all ≡ left ++ gone
    pub joined : HaveAllJoined gone before after s s'

  pub none_gone : (all : List (Crew O P)) (roots : List (Shown O Event Outcome)) (s : Shown P Address Unit)
      → IsDismissed all all roots roots s s
  none_gone all roots s =
      record {
        gone = [];
        all_are = sym (append-nil all);
        joined =
            record { as_many = refl; each = λ k d l. joined_none (slice_index_or roots k d); stranger = joined_none s };
      }

  pub all_gone : (all left : List (Crew O P)) (before after : List (Shown O Event Outcome)) (s s' : Shown P Address Unit) → left ≡ []
      → IsDismissed all left before after s s' → HaveAllJoined all before after s s'
  all_gone all left before after s s' none h =
      subst (λ (l : List (Crew O P)). HaveAllJoined l before after s s') (sym (h.all_are ∙ ap (λ l. l ++ h.gone) none)) h.joined

  pub one_gone : (all left left' : List (Crew O P)) (c : Crew O P) (before roots roots' : List (Shown O Event Outcome))
      (s t t' : Shown P Address Unit) → left ≡ left' ++ c ∷ [] → IsDismissed all left before roots s t
      → HaveJoined roots roots' c.passes → HasJoined t c.stranger_pass t' → IsDismissed all left' before roots' s t'
  one_gone all left left' c before roots roots' s t t' left_is h j sj = record {
    gone = c ∷ h.gone;
    all_are = h.all_are ∙ (ap (λ l. l ++ h.gone) left_is ∙ append_assoc left' (c ∷ []) h.gone);
    joined = let many = h.joined.as_many in record {
      as_many = j.as_many ∙ many;
      each = λ k d l. joined_more _ _ _ _ _ (h.joined.each k d l) (j.each k d (omega arith));
      stranger = joined_more _ _ _ _ _ h.joined.stranger sj;
    };
  }

pub map_last : {W X : Type 0} (f : W → X) (ws ws' : List W) (w : W) → ws ≡ ws' ++ w ∷ [] → map f ws ≡ map f ws' ++ f w ∷ []
map_last f ws ws' w e = ap (map f) e ∙ map-append f ws' (w ∷ [])

-- the last receiver's passes can be joined, and the others'
pub can_join_last : {W O P : Type 0} (crew_of : W → Crew O P) (cells : List (CellShown O)) (strangers : CellShown P) (ws ws' : List W) (w : W)
    → ws ≡ ws' ++ w ∷ [] → Each (CanJoin cells strangers) (map crew_of ws)
    → Each (CanJoin cells strangers) (map crew_of ws') × CanJoin cells strangers (crew_of w)
can_join_last crew_of cells strangers ws ws' w e h = each_last (CanJoin cells strangers) (map crew_of ws') (crew_of w)
    (subst (Each (CanJoin cells strangers)) (map_last crew_of ws ws' w e) h)

pub back_more : {W X : Type 0} (f : W → X) (ws ws' : List W) (w : W) (old new all : List X) → ws ≡ ws' ++ w ∷ [] → new ≡ f w ∷ old
    → map f ws ++ old ≡ all → map f ws' ++ new ≡ all
back_more f ws ws' w old new all e new_is h = ap (λ l. map f ws' ++ l) new_is
    ∙ (sym (append_assoc (map f ws') (f w ∷ []) old) ∙ (ap (λ l. l ++ old) (sym (map_last f ws ws' w e)) ∙ h))

pub map_none : {W X : Type 0} (f : W → X) (ws : List W) → length ws ≡ 0 → map f ws ≡ []
map_none f ws none = ap (map f) (nil_from_length ws none)
