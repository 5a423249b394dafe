-- The values of a profile by their places, and by the sums of increments.
use Rattle.std.proofs.Common.{◌≡◌, ℕ, zero, suc, ◌+◌, ◌*◌, Bool, true, false, cond, List, ◌∷◌, length, take, drop, Option, Some, None, slice_get, ℤ, pos, negsuc, ◌+ℤ◌, ◌-ℤ◌, nat_lt, ◌^◌, refl, sym, ap, ◌∙◌, arith, ◌⊎◌, inl, inr}
use Rattle.std.proofs.lemmas.Int.{ints}
use Rattle.std.proofs.lemmas.Option.{same_Some}
use Rattle.std.proofs.lemmas.List.{drop-drop}
use Rattle.lists.proofs.Choices.{some_if}
use Rattle.full_records.specs.Powers.{short}
use Rattle.compact_profiles.specs.declared.kinds.ProfileKind.{ProfileKind}
use Rattle.compact_profiles.specs.declared.kinds.ProfileKind.TheVariants.{Inverse, Numbered, Unnumbered}
use Rattle.compact_profiles.specs.declared.profiles.IncrementMode.{IncrementMode}
use Rattle.compact_profiles.specs.declared.profiles.IncrementMode.TheVariants.{Absolute, Positive, Negative, Signed}
use Rattle.compact_profiles.specs.declared.profiles.Profile.{Profile}
use Rattle.compact_profiles.specs.declared.values.ProfileValue.{ProfileValue}
use Rattle.compact_profiles.specs.SentValues.{sent_value, signed_value}
use Rattle.compact_profiles.specs.Values.{is_added, moved, number_behind, value_behind, values_from}
use Rattle.compact_profiles.specs.Sums.{sent_at, increments, plus, total, IsMoved}

-- ---- how many, and with which storage numbers

pub length-values : (p : Profile) (storage : ℕ) (last : Option ℤ) (n : ℕ) (values : List ℕ) → length (values_from p storage last n values) ≡ n
unfolding values_from
length-values p storage last zero values = refl
length-values p storage last (suc n) values = ap (λ (k : ℕ). suc k) (length-values p (storage + 1) _ n (drop p.width values))

pub numbered : (p : Profile) (storage : ℕ) (last : Option ℤ) (n : ℕ) (values : List ℕ) (place : ℕ) (v : ProfileValue)
    → slice_get (values_from p storage last n values) place ≡ Some v → v.storage ≡ number_behind p.kind (storage + suc place)
unfolding values_from
numbered p storage last zero values place v e = absurd cc
numbered p storage last (suc n) values zero v e = sym (ap (λ (x : ProfileValue). x.storage) (same_Some _ v e))
numbered p storage last (suc n) values (suc place) v e =
    let same : storage + 1 + suc place ≡ storage + suc (suc place) = omega arith in
    numbered p (storage + 1) _ n (drop p.width values) place v e ∙ ap (number_behind p.kind) same

-- ---- whole values

first_sent : (p : Profile) (values : List ℕ) → take p.width values ≡ sent_at p values 0
first_sent p values = let none : 0 ≡ 0 * p.width = omega arith in ap (λ (n : ℕ). take p.width (drop n values)) none

later_sent : (p : Profile) (values : List ℕ) (place : ℕ) → sent_at p (drop p.width values) place ≡ sent_at p values (suc place)
later_sent p values place =
    let further : p.width + place * p.width ≡ suc place * p.width = omega arith in
    ap (take p.width) (drop-drop (place * p.width) p.width values ∙ ap (λ (n : ℕ). drop n values) further)

pub sent_whole : (p : Profile) (storage : ℕ) (last : Option ℤ) (n : ℕ) (values : List ℕ) (place : ℕ) (v : ProfileValue) → p.mode ≡ Absolute
    → slice_get (values_from p storage last n values) place ≡ Some v → v.value ≡ signed_value p.field (sent_at p values place)
unfolding values_from
sent_whole p storage last zero values place v mode e = absurd cc
sent_whole p storage last (suc n) values zero v mode e =
    sym (ap (λ (x : ProfileValue). x.value) (same_Some _ v e))
    ∙ ap (λ (m : IncrementMode). value_behind p.kind m last (sent_value m p.field (take p.width values))) mode
    ∙ ap (signed_value p.field) (first_sent p values)
sent_whole p storage last (suc n) values (suc place) v mode e =
    sent_whole p (storage + 1) _ n (drop p.width values) place v mode e
    ∙ ap (signed_value p.field) (later_sent p values place)

-- ---- increments

short_same : (z n : ℤ) → short z ≡ Some n → n ≡ z
short_same (pos m) n e = sym (some_if (nat_lt m (2 ^ 127)) (pos m) n e).1
short_same (negsuc m) n e = sym (some_if (nat_lt m (2 ^ 127)) (negsuc m) n e).1

-- what a value that is known came of
record Comes (added : Bool) (last sent : Option ℤ) (value : ℤ) : Type 0 where
  pub from : ℤ
  pub step : ℤ
  pub last_is : last ≡ Some from
  pub step_is : sent ≡ Some step
  pub is : value ≡ cond added (from +ℤ step) (from -ℤ step)

moved_is : (added : Bool) (last sent : Option ℤ) (value : ℤ) → moved added last sent ≡ Some value → Comes added last sent value
moved_is true (Some from) (Some step) value e =
    record { from = from; step = step; last_is = refl; step_is = refl; is = short_same _ value e }
moved_is false (Some from) (Some step) value e =
    record { from = from; step = step; last_is = refl; step_is = refl; is = short_same _ value e }
moved_is added (Some from) None value e = absurd cc
moved_is added None sent value e = absurd cc

by_increment : (kind : ProfileKind) (mode : IncrementMode) (last sent : Option ℤ) → (mode ≡ Absolute → ⊥)
    → value_behind kind mode last sent ≡ moved (is_added kind mode) last sent
by_increment kind Absolute last sent other = absurd (other refl)
by_increment kind Positive last sent other = refl
by_increment kind Negative last sent other = refl
by_increment kind Signed last sent other = refl

joined : (added : Bool) (from step between sum value : ℤ) → between ≡ cond added (from +ℤ step) (from -ℤ step)
    → value ≡ cond added (between +ℤ sum) (between -ℤ sum) → value ≡ cond added (from +ℤ (step +ℤ sum)) (from -ℤ (step +ℤ sum))
joined true from step between sum value e f = omega (arith, ints)
joined false from step between sum value e f = omega (arith, ints)

first : (added : Bool) (from step value : ℤ) → value ≡ cond added (from +ℤ step) (from -ℤ step)
    → value ≡ cond added (from +ℤ (step +ℤ pos 0)) (from -ℤ (step +ℤ pos 0))
first true from step value e = omega (arith, ints)
first false from step value e = omega (arith, ints)

pub summed : (p : Profile) (storage : ℕ) (last : Option ℤ) (n : ℕ) (values : List ℕ) (place : ℕ) (v : ProfileValue) (value : ℤ)
    → (p.mode ≡ Absolute → ⊥) → slice_get (values_from p storage last n values) place ≡ Some v → v.value ≡ Some value
    → IsMoved p last (increments p (suc place) values) value
unfolding values_from increments total
summed p storage last zero values place v value other e known = absurd cc
summed p storage last (suc n) values zero v value other e known =
    let sent = sent_value p.mode p.field (take p.width values) in
    let is : v.value ≡ moved (is_added p.kind p.mode) last sent =
    sym (ap (λ (x : ProfileValue). x.value) (same_Some _ v e)) ∙ by_increment p.kind p.mode last sent other in
    let by = moved_is (is_added p.kind p.mode) last sent value (sym is ∙ known) in
    record {
      from = by.from;
      sum = by.step +ℤ pos 0;
      base_is = by.last_is;
      sum_is = ap (λ (s : Option ℤ). plus s (Some (pos 0))) by.step_is;
      is = first (is_added p.kind p.mode) by.from by.step value by.is;
    }
summed p storage last (suc n) values (suc place) v value other e known =
    let sent = sent_value p.mode p.field (take p.width values) in
    let rest = summed p (storage + 1) (value_behind p.kind p.mode last sent) n (drop p.width values) place v value other e known in
    let by = moved_is (is_added p.kind p.mode) last sent rest.from (sym (by_increment p.kind p.mode last sent other) ∙ rest.base_is) in
    record {
      from = by.from;
      sum = by.step +ℤ rest.sum;
      base_is = by.last_is;
      sum_is = ap (λ (s : Option ℤ). plus s (total (increments p (suc place) (drop p.width values)))) by.step_is
          ∙ ap (λ (s : Option ℤ). plus (Some by.step) s) rest.sum_is;
      is = joined (is_added p.kind p.mode) by.from by.step rest.from rest.sum value by.is rest.is;
    }

-- ---- back in time

other_way : (kind : ProfileKind) (mode : IncrementMode) → (kind ≡ Inverse → ⊥) → (mode ≡ Absolute → ⊥)
    → ((is_added kind mode ≡ true) × (is_added Inverse mode ≡ false)) ⊎ ((is_added kind mode ≡ false) × (is_added Inverse mode ≡ true))
other_way Inverse mode forward other = absurd (forward refl)
other_way Numbered Absolute forward other = absurd (other refl)
other_way Numbered Positive forward other = inl (refl, refl)
other_way Numbered Negative forward other = inr (refl, refl)
other_way Numbered Signed forward other = inl (refl, refl)
other_way Unnumbered Absolute forward other = absurd (other refl)
other_way Unnumbered Positive forward other = inl (refl, refl)
other_way Unnumbered Negative forward other = inr (refl, refl)
other_way Unnumbered Signed forward other = inl (refl, refl)

-- increments don't depend on the way
same_increments : (p : Profile) (n : ℕ) (values : List ℕ) → increments (record p { kind = Inverse }) n values ≡ increments p n values
unfolding increments
same_increments p zero values = refl
same_increments p (suc n) values =
    ap (λ (steps : List (Option ℤ)). sent_value p.mode p.field (take p.width values) ∷ steps) (same_increments p n (drop p.width values))

opposite : (a b : Bool) (base sum forward backward : ℤ) → ((a ≡ true) × (b ≡ false)) ⊎ ((a ≡ false) × (b ≡ true))
    → forward ≡ cond a (base +ℤ sum) (base -ℤ sum) → backward ≡ cond b (base +ℤ sum) (base -ℤ sum) → forward +ℤ backward ≡ base +ℤ base
opposite true true base sum forward backward (inl way) e f = absurd (let no = way.1 in cc)
opposite true true base sum forward backward (inr way) e f = absurd (let no = way.0 in cc)
opposite false false base sum forward backward (inl way) e f = absurd (let no = way.0 in cc)
opposite false false base sum forward backward (inr way) e f = absurd (let no = way.1 in cc)
opposite true false base sum forward backward way e f = omega (arith, ints)
opposite false true base sum forward backward way e f = omega (arith, ints)

pub turned : (p : Profile) (storage : ℕ) (base : ℤ) (count : ℕ) (values : List ℕ) (place : ℕ) (v w : ProfileValue) (forward backward : ℤ)
    → (p.mode ≡ Absolute → ⊥) → (p.kind ≡ Inverse → ⊥) → slice_get (values_from p storage (Some base) count values) place ≡ Some v
    → v.value ≡ Some forward → slice_get (values_from (record p { kind = Inverse }) storage (Some base) count values) place ≡ Some w
    → w.value ≡ Some backward → forward +ℤ backward ≡ base +ℤ base
turned p storage base count values place v w forward backward other ahead e known f known_back =
    let up = summed p storage (Some base) count values place v forward other e known in
    let down = summed (record p { kind = Inverse }) storage (Some base) count values place w backward other f known_back in
    let from : up.from ≡ base = sym (same_Some base up.from up.base_is) in
    let from_back : down.from ≡ base = sym (same_Some base down.from down.base_is) in
    let sum : down.sum ≡ up.sum =
    same_Some down.sum up.sum (sym down.sum_is ∙ ap total (same_increments p (suc place) values) ∙ up.sum_is) in
    opposite (is_added p.kind p.mode) (is_added Inverse p.mode) base up.sum forward backward (other_way p.kind p.mode ahead other)
    (up.is ∙ ap (λ (b : ℤ). cond (is_added p.kind p.mode) (b +ℤ up.sum) (b -ℤ up.sum)) from)
    (down.is ∙ ap (λ (b : ℤ). cond (is_added Inverse p.mode) (b +ℤ down.sum) (b -ℤ down.sum)) from_back
    ∙ ap (λ (s : ℤ). cond (is_added Inverse p.mode) (base +ℤ s) (base -ℤ s)) sum)
