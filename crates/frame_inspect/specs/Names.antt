-- The name of a data record, for people: its quantity and its qualifiers, and what tells its register from the plain one.
use Rattle.std.specs.Prelude.{ℕ, ◌==◌, ◌||◌, nat_lt, Bool, List, [], ◌∷◌, ◌++◌, length, codes, if◌then◌else◌}
use Rattle.paper.specs.Pieces.{labelled, labelled_bytes}
use Rattle.plain_text.specs.Parts.{is_word}
use Rattle.dif_vif.specs.declared.span.RecordSpan.{RecordSpan}
use Rattle.record_text.specs.Words.{function_text}
use Rattle.full_records.specs.declared.quantities.FullQuantity.{FullQuantity}
use Rattle.full_records.specs.declared.quantities.FullUnitName.{FullUnitName}
use Rattle.full_records.specs.declared.qualifiers.Qualifier.{Qualifier}
use Rattle.full_text.specs.Said.{qualifiers_text}
use Rattle.full_text.specs.Words.{full_quantity_text, full_unit_text}

-- a word behind a space
unfoldable pub spaced : List ℕ → List ℕ
spaced word = codes " " ++ word

-- the qualifiers, and whether the data stand for no value, where there is anything to say
unfoldable pub qualifier_words : List Qualifier → Bool → List ℕ
qualifier_words qualifiers unset = codes " " ++ qualifiers_text qualifiers unset

abbrev pub qualified_text : List Qualifier → Bool → List ℕ
qualified_text qualifiers unset = if unset || nat_lt 0 (length qualifiers) then qualifier_words qualifiers unset else []

-- the function, unless it is an instantaneous value; or that these are manufacturer data, with their DIF
abbrev pub function_words : RecordSpan → List ℕ
function_words span =
    if span.maker then labelled_bytes (codes " maker ") (span.dif ∷ []) else
    (if span.function == 0 then [] else spaced (function_text span.function))

-- a word and its number, unless that is nought
abbrev pub numbered : List ℕ → ℕ → List ℕ
numbered word number = if number == 0 then [] else labelled word number

unfoldable pub register_words : RecordSpan → List ℕ
register_words span =
    numbered (codes " storage ") span.storage ++ numbered (codes " tariff ") span.tariff ++ numbered (codes " subunit ") span.subunit

-- the whole name
unfoldable pub name_text : FullQuantity → List Qualifier → Bool → RecordSpan → List ℕ
name_text quantity qualifiers unset span =
    full_quantity_text quantity ++ qualified_text qualifiers unset ++ function_words span ++ register_words span

-- a unit behind a space, unless there is none
abbrev pub unit_words : FullUnitName → List ℕ
unit_words unit = if is_word (full_unit_text unit) (codes "-") then [] else spaced (full_unit_text unit)
