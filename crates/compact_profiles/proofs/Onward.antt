-- The values of a profile, one after another.
use Rattle.std.proofs.Common.{◌≡◌, ℕ, suc, ◌+◌, ◌-◌, ◌*◌, ◌<◌, ◌≤◌, List, [], ◌∷◌, ◌++◌, take, drop, length, set, Option, ℤ, refl, sym, ap, ◌∙◌, arith, add-one, append_assoc, append-nil}
use Rattle.std.proofs.lemmas.List.{take_more_set}
use Rattle.compact_profiles.specs.declared.profiles.Profile.{Profile}
use Rattle.compact_profiles.specs.declared.values.ProfileValue.{ProfileValue}
use Rattle.compact_profiles.specs.SentValues.{sent_value}
use Rattle.compact_profiles.specs.Values.{value_behind, number_behind, values_from}

abbrev pub value_is : Profile → ℕ → Option ℤ → ProfileValue
value_is p storage value = record { storage = number_behind p.kind storage; value = value }

-- one value, and those behind it
values_next : (p : Profile) (storage : ℕ) (last : Option ℤ) (m : ℕ) (values : List ℕ)
    → values_from p storage last (suc m) values
    ≡ value_is p (storage + 1) (value_behind p.kind p.mode last (sent_value p.mode p.field (take p.width values)))
    ∷ values_from p (storage + 1) (value_behind p.kind p.mode last (sent_value p.mode p.field (take p.width values))) m (drop p.width values)
unfolding values_from
values_next p storage last m values = refl

pub values_more : (p : Profile) (storage : ℕ) (last value : Option ℤ) (left m : ℕ) (values : List ℕ) → left ≡ m + 1
    → value ≡ value_behind p.kind p.mode last (sent_value p.mode p.field (take p.width values))
    → values_from p storage last left values ≡ value_is p (storage + 1) value ∷ values_from p (storage + 1) value m (drop p.width values)
values_more p storage last value left m values e is =
    ap (λ (n : ℕ). values_from p storage last n values) (e ∙ add-one m) ∙ values_next p storage last m values
    ∙ ap (λ (v : Option ℤ). value_is p (storage + 1) v ∷ values_from p (storage + 1) v m (drop p.width values)) (sym is)

pub values_none : (p : Profile) (storage : ℕ) (last : Option ℤ) (left : ℕ) (values : List ℕ) → left ≡ 0 → values_from p storage last left values ≡ []
unfolding values_from
values_none p storage last left values e = ap (λ (n : ℕ). values_from p storage last n values) e

-- one value more in the array
pub found_more : (found : List ProfileValue) (place : ℕ) (v v' : ProfileValue) (behind before all : List ProfileValue) → place < length found
    → v ≡ v' → before ≡ v' ∷ behind → take place found ++ before ≡ all → take (place + 1) (set found place v) ++ behind ≡ all
found_more found place v v' behind before all lt same is e =
    ap (λ (xs : List ProfileValue). xs ++ behind) (take_more_set found place v lt) ∙ append_assoc (take place found) (v ∷ []) behind
    ∙ ap (λ (x : ProfileValue). take place found ++ x ∷ behind) same ∙ ap (λ (xs : List ProfileValue). take place found ++ xs) (sym is) ∙ e

-- all of them are in the array
pub found_all : (p : Profile) (found : List ProfileValue) (place left count storage : ℕ) (last : Option ℤ) (values : List ℕ) (all : List ProfileValue)
    → left ≡ 0 → place ≡ count → take place found ++ values_from p storage last left values ≡ all → take count found ≡ all
found_all p found place left count storage last values all none e is =
    ap (λ (n : ℕ). take n found) (sym e) ∙ sym (append-nil (take place found))
    ∙ ap (λ (xs : List ProfileValue). take place found ++ xs) (sym (values_none p storage last left values none)) ∙ is

-- as many bytes as are left
pub bytes_left : (left m width len : ℕ) → left ≡ m + 1 → len ≡ left * width → (width ≤ len) × (len - width ≡ m * width)
bytes_left left m width len e is =
    let all : len ≡ (m + 1) * width = is ∙ ap (λ (n : ℕ). n * width) e in
    (omega arith, omega arith)
