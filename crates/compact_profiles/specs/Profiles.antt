-- What a compact profile says before its values (EN 13757-3, annex on profiles): the spacing control, and the spacing value behind it.
use Rattle.std.specs.Prelude.{ℕ, ◌/◌, ◌%◌, ◌||◌, List, [], ◌∷◌, length, Option, Some, None, ◌==◌, if◌then◌else◌}
use Rattle.dif_vif.specs.declared.span.RecordSpan.{RecordSpan}
use Rattle.dif_vif.specs.Spelling.{field_width}
use Rattle.record_values.specs.Values.{data_of}
use Rattle.compact_profiles.specs.declared.kinds.ProfileKind.{ProfileKind}
use Rattle.compact_profiles.specs.declared.profiles.IncrementMode.{IncrementMode}
use Rattle.compact_profiles.specs.declared.profiles.IncrementMode.TheVariants.{Absolute, Positive, Negative, Signed}
use Rattle.compact_profiles.specs.declared.profiles.Spacing.{Spacing}
use Rattle.compact_profiles.specs.declared.profiles.Spacing.TheVariants as spacings
use Rattle.compact_profiles.specs.declared.profiles.Profile.{Profile}
use Rattle.compact_profiles.specs.Kinds.{record_kind}

-- how each value is sent: bits 7 and 6 of the spacing control
abbrev pub mode_of : ℕ → IncrementMode
mode_of control =
    if control / 64 == 0 then Absolute else
    (if control / 64 == 1 then Positive else
    (if control / 64 == 2 then Negative else Signed))

-- so many days: 254 is a month, 253 half a month
abbrev pub days_of : ℕ → Spacing
days_of value = if value == 254 then spacings.Month else (if value == 253 then spacings.HalfMonth else spacings.Days value)

-- how far the values are apart: in the unit of bits 5 and 4 of the spacing control, and not known where the spacing value is 0
abbrev pub spacing_of : ℕ → ℕ → Spacing
spacing_of control value =
    if value == 0 then spacings.Unknown else
    (if control / 16 % 4 == 0 then spacings.Seconds value else
    (if control / 16 % 4 == 1 then spacings.Minutes value else
    (if control / 16 % 4 == 2 then spacings.Hours value else days_of value)))

-- How many bytes a value has: those of a DIF's data field with a whole number, which 0 and 5 don't have.
abbrev pub value_width : ℕ → Option ℕ
value_width field = if field == 0 || field == 5 then None else field_width field

-- the profile of so many bytes of values, of this width each: none where a rest of bytes is left
abbrev pub sized : ProfileKind → ℕ → ℕ → ℕ → Option ℕ → Option Profile
sized kind control spacing left None = None
sized kind control spacing left (Some width) =
    if left % width == 0
    then Some (record {
      kind = kind;
      mode = mode_of control;
      spacing = spacing_of control spacing;
      field = control % 16;
      width = width;
      count = left / width;
    })
    else None

-- the profile that data are: the spacing control, the spacing value, and the values
unfoldable pub profile_in : Option ProfileKind → List ℕ → Option Profile
profile_in None sent = None
profile_in (Some kind) [] = None
profile_in (Some kind) (control ∷ []) = None
profile_in (Some kind) (control ∷ spacing ∷ values) = sized kind control spacing (length values) (value_width (control % 16))

-- the profile that a record is, if it is one
abbrev pub profile : List ℕ → RecordSpan → Option Profile
profile bytes span = profile_in (record_kind bytes span) (data_of bytes span)
