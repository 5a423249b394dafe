-- When a meter listens (EN 13757-4, communication control; OMS Volume 2, configuration field of mode 5).
use Rattle.std.specs.Prelude.{ℕ, Bool, true, false, ◌==◌}
use Rattle.std.specs.Int.{bit_at}
use Rattle.ell_layer.specs.declared.access.Access.{Access}
use Rattle.ell_layer.specs.declared.access.Access.TheVariants as access

-- what the bits B, for bidirectional, and A, for accessible, say together
abbrev pub access_of : Bool → Bool → Access
access_of false false = access.None
access_of false true = access.Soon
access_of true false = access.Limited
access_of true true = access.Unlimited

-- what the communication control says: B is its bit 7, A is its bit 2
abbrev pub access_in : ℕ → Access
access_in control = access_of (bit_at control 7 == 1) (bit_at control 2 == 1)
