-- What a line gives: a telegram, and the moment that the line names.
use Rattle.std.specs.Prelude.{ℕ, ◌≡◌, List, Some, None, Result, Ok, Err}
use Rattle.line_feed.specs.declared.heard.Reception.{Reception}
use Rattle.line_feed.specs.declared.heard.Unheard.{Unheard}
use Rattle.line_feed.specs.declared.heard.Unheard.TheVariants as unheard
use Rattle.line_feed.specs.declared.moments.Moment.{Moment}
use Rattle.line_feed.specs.declared.reasons.NotTaken.{NotTaken}

-- a telegram whose line names no moment, and one whose line names this one
abbrev pub heard_some_time : List ℕ → Reception
heard_some_time t = record { telegram = t; moment = None }

abbrev pub heard_at : Moment → List ℕ → Reception
heard_at moment t = record { telegram = t; moment = Some moment }

-- what is answered is what is meant; where there is no memory nothing is said
abbrev pub Means : Result Reception Unheard → Result Reception NotTaken → Type 0
Means (Ok heard) meant = meant ≡ Ok heard
Means (Err (unheard.Refused reason)) meant = meant ≡ Err reason
Means (Err unheard.Memory) meant = Unit {0}
