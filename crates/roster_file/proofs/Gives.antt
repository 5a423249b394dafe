-- What the steps of a reader give.
use Rattle.std.proofs.Common.{◌≡◌, ℕ, Bool, true, false, cond, Option, Some, None, Result, Ok, Err, refl, subst}
use Rattle.std.specs.Option.{ok_or}
use Rattle.lists.specs.Steps.{◌>>=◌}
use Rattle.roster_file.specs.declared.roster.LineCause.{LineCause}
use Rattle.roster_file.specs.Roster.{at_line}

-- where there is an answer, this holds of it
abbrev pub Gives : {A E : Type 0} → (A → Type 0) → Result A E → Type 0
Gives {A} P r = (x : A) → r ≡ Ok x → P x

pub gives_ok : {A E : Type 0} (P : A → Type 0) (x : A) → P x → Gives {E = E} P (Ok x)
gives_ok P x is y h = let same : x ≡ y = cc in subst P same is

pub gives_err : {A E : Type 0} (P : A → Type 0) (e : E) → Gives P (Err e)
gives_err P e y h = absurd cc

pub gives_where : {A E : Type 0} (P : A → Type 0) (b : Bool) (r s : Result A E) → Gives P r → Gives P s → Gives P (cond b r s)
gives_where P true r s one other = one
gives_where P false r s one other = other

-- an answer unless a test refuses
pub gives_unless : {A E : Type 0} (P : A → Type 0) (b : Bool) (e : E) (r : Result A E) → (b ≡ false → Gives P r) → Gives P (cond b (Err e) r)
gives_unless P true e r passed = gives_err P e
gives_unless P false e r passed = passed refl

pub gives_then : {A B E : Type 0} (P : B → Type 0) (r : Result A E) (f : A → Result B E) → ((a : A) → r ≡ Ok a → Gives P (f a))
    → Gives P (r >>= f)
gives_then P (Ok a) f each = each a refl
gives_then P (Err e) f each = gives_err P e

-- a field, or the cause for which it is none
pub gives_some : {A E : Type 0} (P : A → Type 0) (o : Option A) (e : E) → ((a : A) → o ≡ Some a → P a) → Gives P (ok_or o e)
gives_some P (Some a) e each = gives_ok P a (each a refl)
gives_some P None e each = gives_err P e

pub gives_field : {A B E : Type 0} (P : B → Type 0) (o : Option A) (e : E) (f : A → Result B E) → ((a : A) → o ≡ Some a → Gives P (f a))
    → Gives P (ok_or o e >>= f)
gives_field P (Some a) e f each = each a refl
gives_field P None e f each = gives_err P e

-- where the cause is told with its line
pub line_gives : {A : Type 0} (P : A → Type 0) (n : ℕ) (r : Result A LineCause) → Gives P r → Gives P (at_line n r)
line_gives P n (Ok x) gives = gives_ok P x (gives x refl)
line_gives P n (Err cause) gives = gives_err P _
