-- The values of a compact profile, one after another (EN 13757-3, annex on profiles).
use Rattle.std.specs.Prelude.{ℕ, zero, suc, ◌+◌, Bool, true, false, List, [], ◌∷◌, take, drop, Option, Some, None, ℤ, ◌+ℤ◌, ◌-ℤ◌, if◌then◌else◌}
use Rattle.dif_vif.specs.declared.span.RecordSpan.{RecordSpan}
use Rattle.record_values.specs.Values.{data_of}
use Rattle.full_records.specs.Powers.{short}
use Rattle.compact_profiles.specs.declared.kinds.ProfileKind.{ProfileKind}
use Rattle.compact_profiles.specs.declared.kinds.ProfileKind.TheVariants.{Inverse, Numbered}
use Rattle.compact_profiles.specs.declared.profiles.IncrementMode.{IncrementMode}
use Rattle.compact_profiles.specs.declared.profiles.IncrementMode.TheVariants.{Absolute, Negative}
use Rattle.compact_profiles.specs.declared.profiles.Profile.{Profile}
use Rattle.compact_profiles.specs.declared.values.ProfileValue.{ProfileValue}
use Rattle.compact_profiles.specs.Profiles.{profile}
use Rattle.compact_profiles.specs.SentValues.{sent_value}

-- Whether an increment is added: one downwards isn't, and back in time it is the other way round.
abbrev pub is_added : ProfileKind → IncrementMode → Bool
is_added Inverse Negative = true
is_added Inverse mode = false
is_added kind Negative = false
is_added kind mode = true

-- A value with an increment added or taken away: none where one of both isn't known, or where it has more than 128 bits.
abbrev pub moved : Bool → Option ℤ → Option ℤ → Option ℤ
moved added (Some last) (Some step) = if added then short (last +ℤ step) else short (last -ℤ step)
moved added (Some last) None = None
moved added None step = None

-- a value by the one before it and by what was sent
abbrev pub value_behind : ProfileKind → IncrementMode → Option ℤ → Option ℤ → Option ℤ
value_behind kind Absolute last sent = sent
value_behind kind mode last sent = moved (is_added kind mode) last sent

-- the storage number of a value, where it has one of its own
abbrev pub number_behind : ProfileKind → ℕ → Option ℕ
number_behind Numbered storage = Some storage
number_behind kind storage = None

-- So many values, of which the one before the first has this storage number and is this one.
unfoldable pub values_from : Profile → ℕ → Option ℤ → ℕ → List ℕ → List ProfileValue
values_from p storage last zero values = []
values_from p storage last (suc n) values =
    let value = value_behind p.kind p.mode last (sent_value p.mode p.field (take p.width values)) in
    record { storage = number_behind p.kind (storage + 1); value = value } ∷ values_from p (storage + 1) value n (drop p.width values)

abbrev pub values_in : Option Profile → ℕ → Option ℤ → List ℕ → List ProfileValue
values_in None storage base values = []
values_in (Some p) storage base values = values_from p storage base p.count values

-- The values of the profile that a record is: they stand behind the spacing control and the spacing value.
abbrev pub values_of : List ℕ → RecordSpan → Option ℤ → List ProfileValue
values_of bytes span base = values_in (profile bytes span) span.storage base (drop 2 (data_of bytes span))
