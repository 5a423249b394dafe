-- What a slot holds of fragments, where it had no room for any yet.
use Rattle.std.proofs.Common.{◌≡◌, false, List, [], ◌∷◌, Option, Some, None, is_some, sym, ap, ◌∙◌}
use Rattle.std.specs.Prelude.{Box}
use Rattle.std.specs.declared.alloc.Global.{Global}
use Rattle.afl_fragments.specs.declared.parts.Parts.{Parts}
use Rattle.afl_fragments.specs.declared.places.HeldPart.{HeldPart}
use Rattle.afl_fragments.specs.Held.{Told, Tick, StandsFor}
use Rattle.afl_fragments.specs.Places.{aged}
use Rattle.afl_fragments.proofs.Holding.{held-tick, held-nothing}
use Rattle.meter_slots.specs.Keeping.{held_by}

pub nothing_held : StandsFor [] []
nothing_held = sym held-nothing

-- a tick leaves nothing where there was nothing
pub nothing_ticked : (told : List Told) → StandsFor [] told → StandsFor [] (Tick ∷ told)
nothing_ticked told stands = sym (held-tick told ∙ ap aged (sym stands))

-- in new room as little is held as in none
pub still_nothing : (parts : Option (Box Parts Global)) (hs : List HeldPart) → is_some parts ≡ false → StandsFor hs [] → hs ≡ held_by parts
still_nothing None hs none stands = stands ∙ held-nothing
still_nothing (Some p) hs none stands = absurd cc
