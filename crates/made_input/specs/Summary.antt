-- The summary of a made session, which four receivers hear.
use Rattle.std.specs.Prelude.{ℕ, ◌*◌, ◌==◌, nat_lt, max, List, [], ◌∷◌, ◌++◌, length, map, filter, sum, codes}
use Rattle.std.specs.List.{range_with_len}
use Rattle.paper.specs.Pieces.{labelled}
use Rattle.made_input.specs.Lines.{turn_of, round_of}

-- whose turn each telegram is, and in which round
abbrev pub turns : ℕ → ℕ → List (ℕ × ℕ)
turns meters telegrams = map (λ k. (turn_of meters k, round_of meters k)) (range_with_len 1 telegrams)

-- the telegrams of meters, and those of the stranger
abbrev pub of_meters : ℕ → ℕ → List (ℕ × ℕ)
of_meters meters telegrams = filter (λ t. nat_lt t.0 meters) (turns meters telegrams)

abbrev pub of_stranger : ℕ → ℕ → List (ℕ × ℕ)
of_stranger meters telegrams = filter (λ t. t.0 == meters) (turns meters telegrams)

abbrev pub greatest : List ℕ → ℕ
greatest [] = 0
greatest (n ∷ ns) = max n (greatest ns)

-- the last counter of the meter at a place: the greatest of its rounds, and 0 where it sends nothing
abbrev pub last_counter : ℕ → ℕ → ℕ → ℕ
last_counter meters telegrams place = greatest (map (λ t. t.1) (filter (λ t. t.0 == place) (turns meters telegrams)))

-- the sum of the meters' last counters
unfoldable pub highest : ℕ → ℕ → ℕ
highest meters telegrams = sum (map (last_counter meters telegrams) (range_with_len 0 meters))

-- what four receivers hear of so many meters and telegrams, and where it lands: each telegram of a meter is a step of its slot
unfoldable pub counts_text : ℕ → ℕ → List ℕ
counts_text meters telegrams =
    labelled (codes "meters ") meters ++ codes " receivers 4" ++ labelled (codes " lines ") (4 * telegrams)
    ++ labelled (codes " steps ") (4 * length (of_meters meters telegrams))
    ++ labelled (codes " strangers ") (4 * length (of_stranger meters telegrams))

unfoldable pub summary_text : ℕ → ℕ → List ℕ
summary_text meters telegrams =
    codes "wmbus-made 1\n" ++ counts_text meters telegrams ++ labelled (codes "\nhighest ") (highest meters telegrams) ++ codes "\nend\n"
