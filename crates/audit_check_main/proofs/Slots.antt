-- The slots of all meters, and the orders of their lists.
use Rattle.std.proofs.Common.{◌≡◌, ℕ, zero, suc, ◌+◌, ◌<◌, List, [], ◌∷◌, ◌++◌, map, length, take, drop, get_or, refl, sym, ap, ◌∙◌, subst, arith}
use Rattle.std.proofs.lemmas.List.{get_or_read, length-take-le, take_more}
use Rattle.lists.specs.Each.{EachWith}
use Rattle.lists.proofs.Members.{with_length}
use Rattle.meter_address.specs.declared.address.Address.{Address}
use Rattle.meter_slots.specs.Journal.{Start, SlotView}
use Rattle.receivers.specs.declared.told.Told.{Told}
use Rattle.receivers.specs.Orders.{order_of, IsOrderOf, IsOrderedSlot}
use Rattle.receivers.specs.Session.{IsMetersSlot}
use Rattle.audit_check_main.specs.Stepping.{AreOrderedSlots, IsOrderOfEach}

module _ (own : Address) (all : List (List Told)) where
  -- three lists one item after another, from the last to the first; more lists may stand behind
  slots_fold : (P : List Start → List (List (ℕ × ℕ)) → List SlotView → Type 0) → ((lists : List (List (ℕ × ℕ))) → P [] lists [])
      → ((c : Start) (order : List (ℕ × ℕ)) (slot : SlotView) (cs : List Start) (lists : List (List (ℕ × ℕ))) (slots : List SlotView)
      → IsOrderedSlot own all c order slot → AreOrderedSlots own all cs lists slots → P cs lists slots
      → P (c ∷ cs) (order ∷ lists) (slot ∷ slots))
      → (cs : List Start) (lists : List (List (ℕ × ℕ))) (slots : List SlotView) → AreOrderedSlots own all cs lists slots → P cs lists slots
  slots_fold P none one [] lists [] h = none lists
  slots_fold P none one (c ∷ cs) (order ∷ lists) (slot ∷ slots) h =
      one c order slot cs lists slots h.0 h.1 (slots_fold P none one cs lists slots h.1)
  slots_fold P none one _ _ _ h = absurd h

  slots_push : (c : Start) (slot : SlotView) (cs : List Start) (lists : List (List (ℕ × ℕ))) (slots : List SlotView)
      → AreOrderedSlots own all cs lists slots → length cs < length lists
      → IsOrderedSlot own all c (get_or lists (length cs) []) slot → AreOrderedSlots own all (cs ++ c ∷ []) lists (slots ++ slot ∷ [])
  slots_push c slot = slots_fold (λ cs lists slots. length cs < length lists → IsOrderedSlot own all c (get_or lists (length cs) []) slot
      → AreOrderedSlots own all (cs ++ c ∷ []) lists (slots ++ slot ∷ [])) first
      (λ d order s cs lists slots one _ rest few is. (one, rest (omega arith) is))
    where
      first : (lists : List (List (ℕ × ℕ))) → 0 < length lists → IsOrderedSlot own all c (get_or lists 0 []) slot
          → AreOrderedSlots own all (c ∷ []) lists (slot ∷ [])
      first [] few is = absurd (omega arith)
      first (order ∷ lists) few is = (is, tt)

  pub order_at : (cs : List Start) (lists : List (List (ℕ × ℕ))) (i : ℕ) (d : Start) → IsOrderOfEach all cs lists
      → i < length cs → IsOrderOf (get_or cs i d).address all (get_or lists i [])
  order_at [] lists i d h inside = absurd (omega arith)
  order_at (c ∷ cs) [] i d h inside = absurd h
  order_at (c ∷ cs) (order ∷ lists) zero d h inside = h.0
  order_at (c ∷ cs) (order ∷ lists) (suc i) d h inside = order_at cs lists i d h.1 (omega arith)

  pub slots_none : (lists : List (List (ℕ × ℕ))) → AreOrderedSlots own all [] lists []
  slots_none lists = tt

  pub slots_more : (cs : List Start) (i : ℕ) (c : Start) (lists : List (List (ℕ × ℕ))) (slots : List SlotView)
      (slot : SlotView) → AreOrderedSlots own all (take i cs) lists slots → i < length cs → length cs < length lists
      → c ≡ get_or cs i c → IsOrderedSlot own all c (get_or lists i []) slot
      → AreOrderedSlots own all (take (i + 1) cs) lists (slots ++ slot ∷ [])
  slots_more cs i c lists slots slot so inside few is made =
      let long = length-take-le i cs (omega arith) in
      subst (λ l. AreOrderedSlots own all l lists (slots ++ slot ∷ [])) (ap (λ x. take i cs ++ x ∷ []) is ∙ sym (take_more cs i c inside))
      (slots_push c slot (take i cs) lists slots so (omega arith)
      (subst (λ n. IsOrderedSlot own all c (get_or lists n []) slot) (sym long) made))

  pub meters_slots : (cs : List Start) (lists : List (List (ℕ × ℕ))) (slots : List SlotView)
      → AreOrderedSlots own all cs lists slots → EachWith (IsMetersSlot own all) cs slots
  meters_slots = slots_fold (λ cs lists slots. EachWith (IsMetersSlot own all) cs slots) (λ lists. tt)
      (λ c order slot cs lists slots one _ rest. (one.meters, rest))

  -- the lists are the orders of the slots, and what stands behind them
  pub slots_orders : (cs : List Start) (lists : List (List (ℕ × ℕ))) (slots : List SlotView)
      → AreOrderedSlots own all cs lists slots → lists ≡ map (λ (s : SlotView). order_of s.journal) slots ++ drop (length cs) lists
  slots_orders = slots_fold
      (λ cs lists slots. lists ≡ map (λ (s : SlotView). order_of s.journal) slots ++ drop (length cs) lists) (λ lists. refl)
      (λ c order slot cs lists slots one _ rest. (λ i. sym one.in_order i ∷ rest i))

  pub as_many_slots : (cs : List Start) (slots : List SlotView) → EachWith (IsMetersSlot own all) cs slots → length slots ≡ length cs
  as_many_slots = with_length (IsMetersSlot own all)

pub order_there : (lists : List (List (ℕ × ℕ))) (i : ℕ) (pairs list : List (ℕ × ℕ)) → i < length lists → pairs ≡ list
    → list ≡ get_or lists i list → pairs ≡ get_or lists i []
order_there lists i pairs list inside same is = same ∙ get_or_read lists i list inside is []
