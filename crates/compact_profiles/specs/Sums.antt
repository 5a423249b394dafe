-- The values of a profile by their places, and by the sums of increments.
use Rattle.std.specs.Prelude.{◌≡◌, ℕ, zero, suc, ◌*◌, List, [], ◌∷◌, take, drop, Option, Some, None, ℤ, pos, ◌+ℤ◌, ◌-ℤ◌, if◌then◌else◌}
use Rattle.compact_profiles.specs.declared.profiles.Profile.{Profile}
use Rattle.compact_profiles.specs.SentValues.{sent_value}
use Rattle.compact_profiles.specs.Values.{is_added}

-- the bytes of the value at a place, from 0
abbrev pub sent_at : Profile → List ℕ → ℕ → List ℕ
sent_at p values place = take p.width (drop (place * p.width) values)

-- the increments of the first so many values, as they were sent
unfoldable pub increments : Profile → ℕ → List ℕ → List (Option ℤ)
increments p zero values = []
increments p (suc n) values = sent_value p.mode p.field (take p.width values) ∷ increments p n (drop p.width values)

abbrev pub plus : Option ℤ → Option ℤ → Option ℤ
plus (Some a) (Some b) = Some (a +ℤ b)
plus (Some a) None = None
plus None b = None

-- the sum of increments, where each of them is known
unfoldable pub total : List (Option ℤ) → Option ℤ
total [] = Some (pos 0)
total (step ∷ steps) = plus step (total steps)

-- The value is the base value and the sum of these increments, or the base value less that sum.
pub record IsMoved (p : Profile) (base : Option ℤ) (steps : List (Option ℤ)) (value : ℤ) : Type 0 where
  pub from : ℤ
  pub sum : ℤ
  pub base_is : base ≡ Some from
  pub sum_is : total steps ≡ Some sum
  pub is : value ≡ (if is_added p.kind p.mode then from +ℤ sum else from -ℤ sum)
