-- Words for laws of both ends: what a collector's slot sends, and what its meter executes of it.
use Rattle.std.specs.Prelude.{ℕ, ◌≡◌, ◌<◌, Bool, IsTrue, List, [], ◌∷◌, map, filter}
use Rattle.std.specs.List.{All, AllPairs, Contains}
use Rattle.aes_block.specs.Block.{IsBlock}
use Rattle.meter_address.specs.declared.address.Address.{Address}
use Rattle.meter_address.specs.Commission.{Commissioned}
use Rattle.downlink_maker.specs.Sent.{Sent}
use Rattle.meter_slots.specs.declared.entry.Entry.{Entry}
use Rattle.meter_slots.specs.Journal.{Start, commission_of, Legal}
use Rattle.meter_slots.specs.Resuming.{joined, AreLegal}
use Rattle.meter_slots.specs.Laws.{AreReady, PutsPayload, downlinks_in}
use Rattle.meter_side_main.specs.declared.delivery.Executed.{Executed}
use Rattle.meter_side_main.specs.Reading.{executed_after}
use Rattle.meter_side_main.specs.Genuine.{IsGenuine}
use Rattle.meter_side_main.specs.Side.{AllBytes}
use Rattle.meter_side_main.specs.Laws.{left_without, IsForOther}

-- a slot's journal, as it stands: legal, under a key of sixteen bytes, and each command that waited before or is put has a payload
pub record IsJournal (c : Start) (own : Address) (journal : List Entry) : Type 0 where
  pub legal : Legal c own journal
  pub ready : AreReady c.orders
  pub key : IsBlock c.key
  pub payloads : All (λ x. PutsPayload x.event) journal

-- the bytes of some downlinks
abbrev pub bytes_of : List Sent → List (List ℕ)
bytes_of sent = map (λ s. s.bytes) sent

-- these downlinks are all executed, in their order, and nothing else is
abbrev pub AreAllExecuted : Address → Commissioned → List Sent → List Executed → Type 0
AreAllExecuted own c [] done = done ≡ []
AreAllExecuted own c (s ∷ sent) [] = ⊥
AreAllExecuted own c (s ∷ sent) (e ∷ done) = (e.down ≡ s.down) × IsGenuine own c s.bytes e × AreAllExecuted own c sent done

-- these deliveries are some downlinks in their order, and between them those that pass a test, which are downlinks to other meters
pub record AreDelivered (own : Address) (c : Commissioned) (sent : List Sent) (other : List ℕ → Bool) (deliveries : List (List ℕ))
    : Type 0 where
  pub bytes : AllBytes deliveries
  pub others : All (λ d. IsTrue (other d) → IsForOther own c d) deliveries
  pub in_order : left_without other deliveries ≡ bytes_of sent

-- the downlinks that some entries of a journal send, as those of one receiver, delivered in their order, are all executed, whatever
-- downlinks to other meters come between them
abbrev pub SentAreExecuted : Type 0
SentAreExecuted = (c : Start) (own : Address) (journal : List Entry) (chosen : Entry → Bool) (other : List ℕ → Bool)
    (deliveries : List (List ℕ)) → IsJournal c own journal
    → AreDelivered own (commission_of c) (downlinks_in (filter chosen journal)) other deliveries
    → AreAllExecuted own (commission_of c) (downlinks_in (filter chosen journal))
    (executed_after own (commission_of c) c.orders.down deliveries)

-- what is executed is one of these downlinks
abbrev pub IsOf : Address → Commissioned → List Sent → Executed → Type 0
IsOf own c sent e = (s : Sent) × Contains sent s × (e.down ≡ s.down) × IsGenuine own c s.bytes e

-- whatever list of deliveries is made from the downlinks that a journal sends, whichever are lost, repeated or come in another
-- order, each that is executed is one of them, and no two have one counter: so no downlink is executed twice
abbrev pub NoneTwice : Type 0
NoneTwice = (c : Start) (own : Address) (journal : List Entry) (deliveries : List (List ℕ)) → IsJournal c own journal
    → All (Contains (bytes_of (downlinks_in journal))) deliveries
    → All (IsOf own (commission_of c) (downlinks_in journal)) (executed_after own (commission_of c) c.orders.down deliveries)
    × AllPairs (λ e f. e.down < f.down) (executed_after own (commission_of c) c.orders.down deliveries)

-- the same of the journals of many sessions, one after the other, each begun with what was known behind the one before it
abbrev pub NoneTwiceOverSessions : Type 0
NoneTwiceOverSessions = (c : Start) (own : Address) (first : List Entry) (later : List (List Entry)) (deliveries : List (List ℕ))
    → AreLegal c own (first ∷ later) → AreReady c.orders → IsBlock c.key → All (λ x. PutsPayload x.event) (joined (first ∷ later))
    → All (Contains (bytes_of (downlinks_in (joined (first ∷ later))))) deliveries
    → All (IsOf own (commission_of c) (downlinks_in (joined (first ∷ later))))
    (executed_after own (commission_of c) c.orders.down deliveries)
    × AllPairs (λ e f. e.down < f.down) (executed_after own (commission_of c) c.orders.down deliveries)
