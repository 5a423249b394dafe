use Rattle.std.proofs.Common.{◌≡◌, ◌-◌, length}
use Rattle.made_input.specs.Streams.{IsPlace, place_in_all}
use Rattle.made_input.proofs.streams.next_place.Given as goal

abbrev pub invariant-pieces : goal.invariant-pieces
invariant-pieces l = IsPlace (λ p. p.items) l.pieces l.piece l.at
    × (place_in_all (λ p. p.items) l.pieces l.piece l.at ≡ place_in_all (λ p. p.items) l.initial.pieces l.initial.piece l.initial.at)

abbrev pub decreases-pieces : goal.decreases-pieces
decreases-pieces l = length l.pieces - l.piece
