-- Room for a downlink: words of private contracts.
use Rattle.std.specs.Prelude.{◌≡◌, ◌≤◌, ℕ, List, []}
use Rattle.downlink_maker.specs.Sent.{Sent}

-- nothing stands in it, and there is room for one
abbrev pub IsRoom : List Sent → ℕ → Type 0
IsRoom downlinks capacity = (downlinks ≡ []) × (1 ≤ capacity)
