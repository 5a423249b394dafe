-- The texts behind all lines, piece by piece.
use Rattle.std.proofs.Common.{◌≡◌, ℕ, List, [], ◌∷◌, ◌++◌, map, codes, refl, ap}
use Rattle.std.specs.List.{flat_map}
use Rattle.std.proofs.lemmas.List.Folds.{flat_map-map}
use Rattle.paper.specs.Puts.{Puts}
use Rattle.paper.proofs.Calls.{four_make}
use Rattle.meter_address.specs.declared.address.Address.{Address}
use Rattle.meter_worlds.specs.declared.passing_world.PassingMeter.{PassingMeter}
use Rattle.meter_worlds.specs.PassingWorld.{known_by}
use Rattle.roster_file.specs.Text.{own_text}
use Rattle.state_file.specs.Written.{block_text, state_text}
use Rattle.steps_main.specs.Ending.{known_of, meter_block}

state_is : (own : Address) (ms : List PassingMeter)
    → state_text (known_of own ms) ≡ codes "wmbus-state 1\n" ++ own_text own ++ flat_map meter_block ms ++ codes "end\n"
unfolding state_text
state_is own ms = ap (λ t. codes "wmbus-state 1\n" ++ own_text own ++ t ++ codes "end\n") (flat_map-map block_text known_by ms)

pub state_pieces : {P : Type 0} {takes : P → List ℕ → P → Type 0} {p q r s t : P} (own : Address) (ms : List PassingMeter)
    → Puts takes p (codes "wmbus-state 1\n") q → Puts takes q (own_text own) r → Puts takes r (flat_map meter_block ms) s
    → Puts takes s (codes "end\n") t → Puts takes p (state_text (known_of own ms)) t
state_pieces own ms one two three four = four_make (state_text (known_of own ms)) one two three four (state_is own ms)
