-- Words of private contracts: how often addresses were counted.
use Rattle.std.specs.Prelude.{ℕ, ◌≡◌, ◌==◌, ◌&&◌, nat_lt, nat_le, Bool, List, map, filter, unwrap_or}
use Rattle.std.specs.Map.{lookup}
use Rattle.std.specs.BTreeMap.{is_at}
use Rattle.std.specs.Ordering.{nat_cmp}
use Rattle.meter_address.specs.declared.address.Address.{Address}
use Rattle.input_check.specs.Noticing.{times}

-- how often an address was counted, by entries of addresses and counts
abbrev pub counted_at : List (ℕ × ℕ) → ℕ → ℕ
counted_at entries a = unwrap_or (lookup (is_at (nat_cmp a)) entries) 0

abbrev pub was_counted : List (ℕ × ℕ) → Address → Bool
was_counted entries a = nat_lt 0 (counted_at entries a.0)

-- just these addresses were counted
abbrev pub AreCounts : List Address → List (ℕ × ℕ) → Type 0
AreCounts addresses entries = (a : ℕ) → counted_at entries a ≡ times addresses a

-- an address that was counted at least three times and isn't known
abbrev pub is_often : (known : List (ℕ × ℕ)) → ℕ × ℕ → Bool
is_often known e = nat_le 3 e.1 && counted_at known e.0 == 0

-- these addresses, each behind its count
abbrev pub strangers_in : (heard known : List (ℕ × ℕ)) → List (ℕ × ℕ)
strangers_in heard known = map (λ (e : ℕ × ℕ). (e.1, e.0)) (filter (is_often known) heard)
