-- The shortest history after which the same fragments are held.
use Rattle.std.specs.Prelude.{not, List, [], ◌∷◌, ◌++◌, filter, map}
use Rattle.afl_fragments.specs.declared.places.HeldPart.{HeldPart}
use Rattle.afl_fragments.specs.Held.{Told, Piece, Tick, held}
use Rattle.afl_fragments.specs.Places.{is_fresh}

-- the fragments, each as it was heard
abbrev pub pieces : List HeldPart → List Told
pieces hs = map (λ h. Piece h.part) hs

-- the same, and a tick after them, if there are any
abbrev pub ticked : List HeldPart → List Told
ticked [] = []
ticked (h ∷ hs) = Tick ∷ pieces (h ∷ hs)

-- what is told of these fragments: those that saw a tick, the tick, and those that came after it; the latest stands first
abbrev pub told_of : List HeldPart → List Told
told_of hs = pieces (filter is_fresh hs) ++ ticked (filter (λ h. not (is_fresh h)) hs)

-- what was told, cut down to the fragments that are held
abbrev pub cut_down : List Told → List Told
cut_down told = told_of (held told)
