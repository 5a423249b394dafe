-- The orders of a small text: a step above the first heading, words in place of numbers, too few fields and all other lines are passed
-- over.
use Rattle.std.proofs.Common.{◌≡◌, [], ◌∷◌, ◌++◌, refl}
use Rattle.std.specs.Prelude.{codes}
use Rattle.report_text.specs.Orders.{Orders, orders, with_line}

abbrev pub told_orders : Orders
told_orders = record { meters = ((1, 2) ∷ (1, 3) ∷ []) ∷ [] ∷ []; strangers = (2, 10) ∷ [] }

pub two_meters : orders
    (codes "wmbus-report 1\nstep 9 9 part\n"
    ++ codes "meter 2d2c\nstep 1 2 stored 7 confirmed 3\nrecord minimum 0\nstep one 2 part\nstep 5\nstep 1 3 part\n"
    ++ codes "meter 2d2d\npending 4 1\n"
    ++ codes "strangers 1\nstranger 2 10\nring 00\nend\n") ≡ told_orders
unfolding with_line
two_meters = refl
