-- What the bytes of one value of a profile say (EN 13757-3, 6.3 and annex A).
use Rattle.std.specs.Prelude.{ℕ, ◌*◌, ◌^◌, Bool, ◌&&◌, List, length, Option, Some, None, ℤ, pos, int_le, nat_le, ◌==◌, if◌then◌else◌}
use Rattle.std.specs.List.{list_all}
use Rattle.dif_vif.specs.Numbers.{low_first}
use Rattle.record_values.specs.declared.values.Value.{Value}
use Rattle.record_values.specs.declared.values.Value.TheVariants.{Whole}
use Rattle.record_values.specs.Values.{number_value}
use Rattle.compact_profiles.specs.declared.profiles.IncrementMode.{IncrementMode}
use Rattle.compact_profiles.specs.declared.profiles.IncrementMode.TheVariants.{Absolute, Positive, Negative, Signed}

-- a whole number
abbrev pub whole_in : Value → Option ℤ
whole_in (Whole whole) = Some whole
whole_in value = None

-- a whole number that isn't below 0
abbrev pub natural_in : Value → Option ℤ
natural_in (Whole whole) = if int_le (pos 0) whole then Some whole else None
natural_in value = None

-- the lowest number of its width: 80 in the last byte and 00 in the others
abbrev pub is_lowest : List ℕ → Bool
is_lowest sent = 2 * low_first 256 sent == 256 ^ length sent

abbrev pub are_ones : List ℕ → Bool
are_ones sent = list_all (λ byte. byte == 0xff) sent

-- Types A and B: the lowest binary number stands for no value, and so do digits above 9.
abbrev pub signed_value : ℕ → List ℕ → Option ℤ
signed_value field sent = if nat_le field 7 && is_lowest sent then None else whole_in (number_value field None sent)

-- The same without a sign: a binary number whose bits are all set stands for no value.
abbrev pub natural_value : ℕ → List ℕ → Option ℤ
natural_value field sent =
    if nat_le field 7
    then (if are_ones sent then None else Some (pos (low_first 256 sent)))
    else natural_in (number_value field None sent)

-- what was sent for a value: an increment upwards or downwards has no sign
abbrev pub sent_value : IncrementMode → ℕ → List ℕ → Option ℤ
sent_value Absolute field sent = signed_value field sent
sent_value Positive field sent = natural_value field sent
sent_value Negative field sent = natural_value field sent
sent_value Signed field sent = signed_value field sent
