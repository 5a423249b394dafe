-- Which records are compact profiles (EN 13757-3, annex on profiles): by their further VIFEs, by their quantity, and by the LVAR of their data.
use Rattle.std.specs.Prelude.{ℕ, Bool, true, false, ◌&&◌, List, [], ◌∷◌, Option, Some, None, nat_lt, if◌then◌else◌}
use Rattle.std.specs.List.{list_all}
use Rattle.dif_vif.specs.declared.span.RecordSpan.{RecordSpan}
use Rattle.full_records.specs.declared.qualifiers.QualifierName.{QualifierName}
use Rattle.full_records.specs.declared.qualifiers.QualifierName.TheVariants as qualifiers
use Rattle.full_records.specs.declared.qualifiers.Effect.{Effect}
use Rattle.full_records.specs.declared.qualifiers.Effect.TheVariants as effects
use Rattle.full_records.specs.declared.qualifiers.Qualifier.{Qualifier}
use Rattle.full_records.specs.declared.readings.Kind.{Kind}
use Rattle.full_records.specs.declared.readings.Kind.TheVariants as kinds
use Rattle.full_records.specs.Measures.{measure}
use Rattle.full_records.specs.Readings.{kind_of}
use Rattle.full_records.specs.Records.{full_qualifiers}
use Rattle.compact_profiles.specs.declared.kinds.ProfileKind.{ProfileKind}
use Rattle.compact_profiles.specs.declared.kinds.ProfileKind.TheVariants.{Inverse, Numbered, Unnumbered}

-- the profile that a further VIFE announces: 13, 1E and 1F
abbrev pub kind_named : QualifierName → Option ProfileKind
kind_named qualifiers.InverseCompactProfile = Some Inverse
kind_named qualifiers.NumberedCompactProfile = Some Numbered
kind_named qualifiers.CompactProfile = Some Unnumbered
kind_named name = None

-- whether a further VIFE leaves how the data are read
abbrev pub stays : Effect → Bool
stays effects.Stays = true
stays effect = false

-- the profile that the first one announces if the others leave how data are read, or else that which they announce
abbrev pub kind_from : Option ProfileKind → Bool → Bool → Option ProfileKind → Option ProfileKind
kind_from (Some kind) stays others_stay behind = if others_stay then Some kind else None
kind_from None stays others_stay behind = if stays then behind else None

-- the profile that one of the further VIFEs announces, where no other one changes how the data are read
abbrev pub kind_among : List Qualifier → Option ProfileKind
kind_among [] = None
kind_among (q ∷ rest) = kind_from (kind_named q.name) (stays q.effect) (list_all (λ r. stays r.effect) rest) (kind_among rest)

-- whether the data of a kind are numbers
abbrev pub is_number : Kind → Bool
is_number kinds.Number = true
is_number kind = false

-- The data are as many bytes as the LVAR says, up to 191.
abbrev pub has_text_lvar : Option ℕ → Bool
has_text_lvar None = false
has_text_lvar (Some lvar) = nat_lt lvar 0xc0

-- the profile that a record is, if it is one
abbrev pub record_kind : List ℕ → RecordSpan → Option ProfileKind
record_kind bytes span =
    if has_text_lvar span.lvar && is_number (kind_of (measure bytes span).quantity) then kind_among (full_qualifiers bytes span) else None
