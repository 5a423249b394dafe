-- The texts of what slots leave, piece by piece.
use Rattle.std.proofs.Common.{◌≡◌, ℕ, List, ◌++◌, codes, ap}
use Rattle.std.specs.List.{flat_map}
use Rattle.std.proofs.lemmas.List.Folds.{flat_map-map}
use Rattle.paper.specs.Puts.{Puts}
use Rattle.paper.proofs.Calls.{three_make, four_make}
use Rattle.meter_address.specs.declared.address.Address.{Address}
use Rattle.meter_slots.specs.Journal.{SlotView}
use Rattle.meter_slots.specs.Resuming.{known_now}
use Rattle.roster_file.specs.Text.{meter_text, own_text, roster_text}
use Rattle.state_file.specs.Left.{commission_now, left_roster, left_state, slot_block, slot_line}
use Rattle.state_file.specs.Written.{block_text, state_text}

roster_is : (own : Address) (bs : List SlotView)
    → roster_text (left_roster own bs) ≡ codes "wmbus-roster 2\n" ++ own_text own ++ flat_map slot_line bs
unfolding roster_text
roster_is own bs = ap (λ t. codes "wmbus-roster 2\n" ++ own_text own ++ t) (flat_map-map meter_text commission_now bs)

pub roster_pieces : {P : Type 0} {takes : P → List ℕ → P → Type 0} {p q r s : P} (own : Address) (bs : List SlotView)
    → Puts takes p (codes "wmbus-roster 2\n") q → Puts takes q (own_text own) r → Puts takes r (flat_map slot_line bs) s
    → Puts takes p (roster_text (left_roster own bs)) s
roster_pieces own bs one two three = three_make (roster_text (left_roster own bs)) one two three (roster_is own bs)

state_is : (own : Address) (bs : List SlotView)
    → state_text (left_state own bs) ≡ codes "wmbus-state 1\n" ++ own_text own ++ flat_map slot_block bs ++ codes "end\n"
unfolding state_text
state_is own bs = ap (λ t. codes "wmbus-state 1\n" ++ own_text own ++ t ++ codes "end\n") (flat_map-map block_text known_now bs)

pub state_pieces : {P : Type 0} {takes : P → List ℕ → P → Type 0} {p q r s t : P} (own : Address) (bs : List SlotView)
    → Puts takes p (codes "wmbus-state 1\n") q → Puts takes q (own_text own) r → Puts takes r (flat_map slot_block bs) s
    → Puts takes s (codes "end\n") t → Puts takes p (state_text (left_state own bs)) t
state_pieces own bs one two three four = four_make (state_text (left_state own bs)) one two three four (state_is own bs)
