-- What a record says beside its value: the number that it counts, and its qualifiers in words.
use Rattle.std.specs.Prelude.{ℕ, ◌^◌, Bool, true, false, List, [], ◌∷◌, ◌++◌, codes, Option, Some, None, nat_lt, unsigned_abs, if◌then◌else◌}
use Rattle.hex.specs.Hex.{encode_lower}
use Rattle.full_records.specs.declared.qualifiers.Qualifier.{Qualifier}
use Rattle.full_records.specs.declared.qualifiers.QualifierName.{QualifierName}
use Rattle.full_records.specs.declared.qualifiers.QualifierName.TheVariants as qualifiers
use Rattle.full_records.specs.declared.values.FullValue.{FullValue}
use Rattle.full_records.specs.declared.values.FullValue.TheVariants as values
use Rattle.full_text.specs.declared.reals.Decimal.{Decimal}
use Rattle.full_text.specs.Values.{real_times}
use Rattle.full_text.specs.Words.{qualifier_text}

-- ---- numbers that count

-- The number of a value: a decimal of at most fifteen digits, which binary64 holds, or a real number. Data that stand for no value have none.
abbrev pub counted : FullValue → Bool → Option Decimal
counted value true = None
counted (values.Number whole exponent) false =
    if nat_lt (unsigned_abs whole) (10 ^ 15) then Some (record { whole = whole; exponent = exponent }) else None
counted (values.Real bits power) false = real_times bits power
counted value false = None

-- ---- qualifiers

-- whether a word leaves open which code it stands for
abbrev pub is_open : QualifierName → Bool
is_open qualifiers.Factor = true
is_open qualifiers.Constant = true
is_open qualifiers.Extended = true
is_open qualifiers.Kept = true
is_open name = false

-- such a word with its code behind it
unfoldable pub coded_text : Qualifier → List ℕ
coded_text q = qualifier_text q.name ++ codes "-" ++ encode_lower (q.code ∷ [])

abbrev pub one_qualifier_text : Qualifier → List ℕ
one_qualifier_text q = if is_open q.name then coded_text q else qualifier_text q.name

-- a space, behind another word
abbrev pub space_if : Bool → List ℕ
space_if later = if later then codes " " else []

-- that the data stand for no value
unfoldable pub unset_words : Bool → List ℕ
unset_words later = space_if later ++ codes "unset"

abbrev pub unset_text : Bool → Bool → List ℕ
unset_text later unset = if unset then unset_words later else []

-- the qualifiers, a space between two, and behind them whether the data are unset; behind another word or not
abbrev pub qualifiers_behind : Bool → List Qualifier → Bool → List ℕ
qualifiers_behind later [] unset = unset_text later unset
qualifiers_behind later (q ∷ qs) unset = space_if later ++ one_qualifier_text q ++ qualifiers_behind true qs unset

abbrev pub qualifiers_text : List Qualifier → Bool → List ℕ
qualifiers_text qs unset = qualifiers_behind false qs unset
