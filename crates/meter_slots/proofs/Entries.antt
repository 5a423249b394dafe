-- Entries as acts, and back.
use Rattle.std.proofs.Common.{◌≡◌, List, [], ◌∷◌, ◌++◌, map, refl, ap, sym, subst, Result, Ok, Err, IfOk, OnOk}
use Rattle.meter_address.specs.declared.address.Address.{Address}
use Rattle.meter_slots.specs.declared.entry.Entry.{Entry}
use Rattle.meter_slots.specs.declared.entry.Outcome.{Outcome}
use Rattle.meter_slots.specs.Journal.{Start, SlotView, Legal}
use Rattle.meter_slots.specs.Acting.{Opening, opening_of, act_of, entry_of, IsLegalJournal}

pub entries_back : (journal : List Entry) → map entry_of (map act_of journal) ≡ journal
entries_back [] = refl
entries_back (x ∷ xs) = ap (λ (l : List Entry). x ∷ l) (entries_back xs)

-- a journal that a slot keeps is legal as a list of acts
pub legal_back : (c : Start) (own : Address) (journal : List Entry) → Legal c own journal
    → IsLegalJournal (record { own = own; start = c }) (map act_of journal)
legal_back c own journal h = subst (Legal c own) (sym (entries_back journal)) h

pub legal_after : {E : Type 0} (result : Result Outcome E) (old new : SlotView) (entry : Outcome → Entry)
    → IfOk result (λ a. new ≡ record old { journal = old.journal ++ entry a ∷ [] })
    → Legal new.start new.own new.journal
    → OnOk result (IsLegalJournal (opening_of old) (map act_of old.journal) → IsLegalJournal (opening_of old) (map act_of new.journal))
legal_after (Ok a) old new entry is legal =
    λ _. subst (λ (o : Opening). IsLegalJournal o (map act_of new.journal)) (ap opening_of is)
    (legal_back new.start new.own new.journal legal)
legal_after (Err e) old new entry is legal = tt
