-- What the profile says of a record, and what the whole standard says of it.
use Rattle.std.proofs.Common.{◌≡◌, ℕ, ◌+◌, ◌-◌, ◌*◌, ◌%◌, ◌≤◌, Bool, true, false, eqb, leb, ltb, ◌&&◌, cond, List, [], ◌∷◌, length, take, Option, Some, None, refl, sym, ap, subst, ◌∙◌, arith, ℤ, slice_index}
use Rattle.std.proofs.lemmas.Bool.{leb-true, le-leb, and_parts, and_from, cond_both, cond-true, cond-false, eqb-true, eq-eqb, ne_eqb}
use Rattle.std.proofs.lemmas.Option.{same_Some, none-some}
use Rattle.dif_vif.specs.Numbers.{low_first}
use Rattle.dif_vif.specs.Spelling.{data_width, field_width}
use Rattle.record_values.specs.declared.units.Quantity.{Quantity}
use Rattle.record_values.specs.declared.units.Quantity.TheVariants as quantities
use Rattle.record_values.specs.declared.units.Unit.{Unit as ProfileUnit}
use Rattle.record_values.specs.declared.values.Value.{Value}
use Rattle.record_values.specs.declared.values.Value.TheVariants as profile
use Rattle.record_values.specs.Values.{bits, year_of, is_day, number_value, bcd_value, positive, negative, decimal_of, digits_of, signed_of, reading_of, value_as as profile_value}
use Rattle.record_values.specs.Values.{unread as profile_unread, day_value as profile_day, moment_value as profile_moment}
use Rattle.full_records.specs.declared.quantities.Measure.{Measure}
use Rattle.full_records.specs.declared.further_tables.FurtherRow.{FurtherRow}
use Rattle.full_records.specs.declared.moments.Day.{Day}
use Rattle.full_records.specs.declared.moments.Moment.{Moment}
use Rattle.full_records.specs.declared.readings.DataType.TheVariants as types
use Rattle.full_records.specs.declared.values.FullValue.{FullValue}
use Rattle.full_records.specs.declared.values.FullValue.TheVariants as values
use Rattle.full_records.specs.Measures.{as_profile, measured, measure_in, named_or}
use Rattle.full_records.specs.Readings.{profile_kind, number_type, moment_type, is_empty, data_type}
use Rattle.full_records.specs.Moments.{◌>>=◌, field, year_field, day_in, moment_in}
use Rattle.full_records.specs.Values.{unread, numbered, found, real_value, value_as}
use Rattle.full_records.specs.Records.{Agrees}
use Rattle.full_records.proofs.WideLvars.{short_lvar}

-- ---- quantities

named_is : (q : Quantity) (named further : Measure) → (q ≡ quantities.Unknown → ⊥) → named_or q named further ≡ named
named_is quantities.Unknown named further other = absurd (other refl)
named_is _ named further other = refl

pub measured_is : (u : ProfileUnit) (rows : List FurtherRow) (code : Option ℕ) → (u.quantity ≡ quantities.Unknown → ⊥)
    → measured u rows code ≡ as_profile u
measured_is u rows None other = refl
measured_is u rows (Some code) other = named_is u.quantity (as_profile u) (measure_in rows code) other

-- ---- data that are not read

unread_by : (none : Bool) (exponent : ℤ) → Agrees (cond none profile.None profile.Raw) exponent (cond none values.Nothing values.Raw)
unread_by true exponent = refl
unread_by false exponent = tt

pub unread_agrees : (sent : List ℕ) (exponent : ℤ) → Agrees (profile_unread sent) exponent (unread sent)
unread_agrees sent exponent = unread_by (eqb (length sent) 0) exponent

-- what the profile leaves raw may be read
other_agrees : (sent : List ℕ) (exponent : ℤ) (v : FullValue) → (length sent ≡ 0 → v ≡ values.Nothing)
    → Agrees (profile_unread sent) exponent v
other_agrees sent exponent v e =
    cond_both (eqb (length sent) 0) profile.None profile.Raw (λ p. Agrees p exponent v) (λ none. e (eqb-true (length sent) 0 none)) (λ _. tt)

-- ---- numbers

abbrev is_number : Value → Bool
is_number (profile.Day year month day) = false
is_number (profile.Moment year month day hour minute invalid summer) = false
is_number _ = true

one_of : (test : Bool) (v w : Value) → is_number v ≡ true → is_number w ≡ true → is_number (cond test v w) ≡ true
one_of true v w e f = e
one_of false v w e f = f

positive_is : (n : Option ℕ) → is_number (positive n) ≡ true
positive_is (Some n) = refl
positive_is None = refl

negative_is : (n : Option ℕ) → is_number (negative n) ≡ true
negative_is (Some n) = refl
negative_is None = refl

bcd_is : (sent : List ℕ) → is_number (bcd_value sent) ≡ true
bcd_is sent =
    let top = take (2 * length sent - 1) (digits_of sent) in
    one_of (eqb (slice_index (digits_of sent) (2 * length sent - 1)) 15) (negative (decimal_of top)) (positive (decimal_of (digits_of sent)))
    (negative_is (decimal_of top)) (positive_is (decimal_of (digits_of sent)))

number_is : (type : ℕ) (lvar : Option ℕ) (sent : List ℕ) → is_number (number_value type lvar sent) ≡ true
number_is type None sent =
    let small = one_of (leb type 7) (profile.Whole (signed_of sent)) (bcd_value sent) refl (bcd_is sent) in
    let some = one_of (eqb type 5) profile.Raw (cond (leb type 7) (profile.Whole (signed_of sent)) (bcd_value sent)) refl small in
    one_of (eqb type 0) profile.None _ refl some
number_is type (Some lvar) sent =
    let digits = decimal_of (digits_of sent) in
    let low = one_of (ltb lvar 0xe0) (negative digits) (profile.Whole (signed_of sent)) (negative_is digits) refl in
    let high = one_of (ltb lvar 0xd0) (positive digits) (cond (ltb lvar 0xe0) (negative digits) (profile.Whole (signed_of sent))) (positive_is digits) low in
    one_of (ltb lvar 0xc0) profile.Text _ refl high

numbered_agrees : (v : Value) (exponent : ℤ) → is_number v ≡ true → Agrees v exponent (numbered exponent v)
numbered_agrees profile.None exponent e = refl
numbered_agrees (profile.Whole n) exponent e = refl
numbered_agrees profile.Raw exponent e = tt
numbered_agrees profile.Text exponent e = refl
numbered_agrees (profile.Day year month day) exponent e = absurd cc
numbered_agrees (profile.Moment year month day hour minute invalid summer) exponent e = absurd cc

width_is : (dif n : ℕ) (len : ℕ) → data_width dif None ≡ Some len → dif % 16 ≡ n → field_width n ≡ Some len
width_is dif n len width is = subst (λ x. field_width x ≡ Some len) is width

none_left : (sent : List ℕ) → length sent ≡ 0 → unread sent ≡ values.Nothing
none_left sent none = cond-true (eqb (length sent) 0) _ _ (subst (λ x. eqb x 0 ≡ true) (sym none) refl)

by_field : (zero five small : Bool) (exponent : ℤ) (type : ℕ) (sent : List ℕ) (n : Value) → n ≡ number_value type None sent
    → is_number n ≡ true → (zero ≡ true → (n ≡ profile.None) × (unread sent ≡ values.Nothing))
    → (zero ≡ false → five ≡ true → n ≡ profile.Raw)
    → Agrees n exponent (value_as (cond zero types.Untyped (cond five types.Real (cond small types.Integer types.Digits))) exponent type None sent)
by_field true five small exponent type sent n is number none raw =
    subst (λ v. Agrees v exponent (unread sent)) (sym (none refl).0) (none refl).1
by_field false true small exponent type sent n is number none raw =
    subst (λ v. Agrees v exponent (real_value exponent sent)) (sym (raw refl refl)) tt
by_field false false true exponent type sent n is number none raw =
    subst (λ v. Agrees n exponent (numbered exponent v)) is (numbered_agrees n exponent number)
by_field false false false exponent type sent n is number none raw =
    subst (λ v. Agrees n exponent (numbered exponent v)) is (numbered_agrees n exponent number)

by_lvar : (text digits integer : Bool) (exponent : ℤ) (type : ℕ) (lvar : Option ℕ) (sent : List ℕ)
    → integer ≡ true → is_number (number_value type lvar sent) ≡ true
    → Agrees (number_value type lvar sent) exponent (value_as (cond text types.Text (cond digits types.Digits (cond integer types.Integer types.Untyped))) exponent type lvar sent)
by_lvar true digits integer exponent type lvar sent short number = numbered_agrees _ exponent number
by_lvar false true integer exponent type lvar sent short number = numbered_agrees _ exponent number
by_lvar false false true exponent type lvar sent short number = numbered_agrees _ exponent number
by_lvar false false false exponent type lvar sent short number = absurd cc

number_agrees : (dif : ℕ) (lvar : Option ℕ) (sent : List ℕ) (exponent : ℤ) → data_width dif lvar ≡ Some (length sent)
    → Agrees (number_value (dif % 16) lvar sent) exponent (value_as (number_type (dif % 16) lvar) exponent (dif % 16) lvar sent)
number_agrees dif None sent exponent width =
    by_field (eqb (dif % 16) 0) (eqb (dif % 16) 5) (leb (dif % 16) 7) exponent (dif % 16) sent (number_value (dif % 16) None sent) refl
    (number_is (dif % 16) None sent)
    (λ zero. (
      cond-true (eqb (dif % 16) 0) _ _ zero,
      none_left sent (sym (same_Some 0 (length sent) (width_is dif 0 (length sent) width (eqb-true (dif % 16) 0 zero)))),
    ))
    (λ some five. cond-false (eqb (dif % 16) 0) _ _ some ∙ cond-true (eqb (dif % 16) 5) _ _ five)
number_agrees dif (Some lvar) sent exponent width =
    by_lvar (ltb lvar 0xc0) (ltb lvar 0xe0) (ltb lvar 0xf0) exponent (dif % 16) (Some lvar) sent (short_lvar dif lvar _ width) (number_is (dif % 16) (Some lvar) sent)

-- ---- dates and times

abbrev day_of : Option ℕ → Option ℕ → Option ℕ → Day
day_of year month day = record { year = year; month = month; day = day }

abbrev moment_of : Day → Option ℕ → Option ℕ → Bool → Bool → Moment
moment_of day hour minute invalid summer =
    record { day = day; hour = hour; minute = minute; invalid = invalid; summer = summer }

three : (a b c : Option (Option ℕ)) (y m d : Option ℕ) → a ≡ Some y → b ≡ Some m → c ≡ Some d
    → (a >>= (λ year. b >>= (λ month. c >>= (λ day. Some (record { year = year; month = month; day = day }))))) ≡ Some (day_of y m d)
three a b c y m d e f g = rw (e, f, g) refl

field_is : (every least most n : ℕ) → (n ≡ every → ⊥) → least ≤ n → n ≤ most → field every least most n ≡ Some (Some n)
field_is every least most n other low high =
    cond-false (eqb n every) _ _ (ne_eqb n every other)
    ∙ cond-true (leb least n && leb n most) _ _ (and_from (leb least n) (leb n most) (le-leb least n low) (le-leb n most high))

year_is : (hundreds n : ℕ) → n ≤ 99 → year_field hundreds n ≡ Some (Some (year_of hundreds n))
year_is hundreds n high =
    cond-false (eqb n 127) _ _ (ne_eqb n 127 (λ e. omega (arith, e, high))) ∙ cond-true (leb n 99) _ _ (le-leb n 99 high)

-- a day of the profile, by its parts
record IsDay (year month day : ℕ) : Type 0 where
  year_to : year ≤ 99
  month_from : 1 ≤ month
  month_to : month ≤ 12
  day_from : 1 ≤ day
  day_to : day ≤ 31

day_parts : (year month day : ℕ) → is_day year month day ≡ true → IsDay year month day
day_parts year month day is =
    let a = and_parts (leb year 99) _ is in
    let b = and_parts (leb 1 month) _ a.1 in
    let c = and_parts (leb month 12) _ b.1 in
    let d = and_parts (leb 1 day) (leb day 31) c.1 in
    record {
      year_to = leb-true year 99 a.0;
      month_from = leb-true 1 month b.0;
      month_to = leb-true month 12 c.0;
      day_from = leb-true 1 day d.0;
      day_to = leb-true day 31 d.1;
    }

days_in : (word from hundreds year month day : ℕ) → year ≡ bits word (from + 5) 3 + 8 * bits word (from + 12) 4
    → month ≡ bits word (from + 8) 4 → day ≡ bits word from 5 → IsDay year month day
    → day_in word from hundreds ≡ Some (day_of (Some (year_of hundreds year)) (Some month) (Some day))
unfolding day_in
days_in word from hundreds year month day y m d is =
    three _ _ _ _ _ _ (ap (year_field hundreds) (sym y) ∙ year_is hundreds year is.year_to)
    (ap (field 15 1 12) (sym m) ∙ field_is 15 1 12 month (λ e. omega (arith, e, is.month_to)) is.month_from is.month_to)
    (ap (field 0 1 31) (sym d) ∙ field_is 0 1 31 day (λ e. omega (arith, e, is.day_from)) is.day_from is.day_to)

day_agrees : (word : ℕ) (exponent : ℤ) → Agrees (profile_day word) exponent (found values.Day (day_in word 0 0))
day_agrees word exponent =
    cond_both _ _ _ (λ p. Agrees p exponent (found values.Day (day_in word 0 0)))
    (λ is. ap (found values.Day) (days_in word 0 0 _ _ _ refl refl refl (day_parts _ _ _ is))) (λ _. tt)

rest_of : (a : Option Day) (b c : Option (Option ℕ)) (day : Day) (h m : Option ℕ) (invalid summer : Bool) → a ≡ Some day → b ≡ Some h → c ≡ Some m
    → (a >>= (λ day. b >>= (λ hour. c >>= (λ minute. Some (record { day = day; hour = hour; minute = minute; invalid = invalid; summer = summer })))))
    ≡ Some (moment_of day h m invalid summer)
rest_of a b c day h m invalid summer e f g = rw (e, f, g) refl

moment_by : (test : Bool) (word year month day hour minute hundreds : ℕ) (exponent : ℤ)
    → (is_day year month day && (leb hour 23 && leb minute 59)) ≡ test
    → year ≡ bits word 21 3 + 8 * bits word 28 4 → month ≡ bits word 24 4 → day ≡ bits word 16 5
    → hour ≡ bits word 8 5 → minute ≡ bits word 0 6 → hundreds ≡ bits word 13 2
    → Agrees (cond test (profile.Moment (year_of hundreds year) month day hour minute (eqb (bits word 7 1) 1) (eqb (bits word 15 1) 1)) profile.Raw)
    exponent (found values.Moment (moment_in word))
unfolding moment_in
moment_by true word year month day hour minute hundreds exponent is y m d h n c =
    let parts = and_parts (is_day year month day) _ is in
    let times = and_parts (leb hour 23) (leb minute 59) parts.1 in
    let early : hour ≤ 23 = leb-true hour 23 times.0 in
    let short : minute ≤ 59 = leb-true minute 59 times.1 in
    ap (found values.Moment) (rest_of _ _ _ _ _ _ _ _
    (ap (day_in word 16) (sym c) ∙ days_in word 16 hundreds year month day y m d (day_parts year month day parts.0))
    (ap (field 31 0 23) (sym h) ∙ field_is 31 0 23 hour (λ e. omega (arith, e, early)) (omega arith) early)
    (ap (field 63 0 59) (sym n) ∙ field_is 63 0 59 minute (λ e. omega (arith, e, short)) (omega arith) short))
moment_by false word year month day hour minute hundreds exponent is y m d h n c = tt

moment_agrees : (word : ℕ) (exponent : ℤ) → Agrees (profile_moment word) exponent (found values.Moment (moment_in word))
moment_agrees word exponent = moment_by _ word _ _ _ _ _ _ exponent refl refl refl refl refl refl refl

empty_by : (two three four six : Bool) (exponent : ℤ) (type : ℕ) (lvar : Option ℕ)
    → value_as (cond two types.Date (cond three types.TimeOfDay (cond four types.DateTime (cond six types.DateTimeSeconds types.Untyped))))
    exponent type lvar [] ≡ values.Nothing
empty_by true three four six exponent type lvar = refl
empty_by false true four six exponent type lvar = refl
empty_by false false true six exponent type lvar = refl
empty_by false false false true exponent type lvar = refl
empty_by false false false false exponent type lvar = refl

empty_kept : (none : Bool) (exponent : ℤ) (type : ℕ) (lvar : Option ℕ)
    → value_as (cond none types.Untyped types.ZonedDateTime) exponent type lvar [] ≡ values.Nothing
empty_kept true exponent type lvar = refl
empty_kept false exponent type lvar = refl

empty_moment : (type : ℕ) (lvar : Option ℕ) (sent : List ℕ) (exponent : ℤ) → length sent ≡ 0
    → value_as (moment_type type lvar) exponent type lvar sent ≡ values.Nothing
empty_moment type None [] exponent none =
    empty_by (eqb type 2) (eqb type 3) (eqb type 4) (eqb type 6) exponent type None
empty_moment type (Some lvar) [] exponent none = empty_kept (is_empty type (Some lvar)) exponent type (Some lvar)
empty_moment type lvar (byte ∷ sent) exponent none = absurd (omega (arith, none))

-- an LVAR stands for the data field D alone
no_lvar : (dif n lvar len : ℕ) → dif % 16 ≡ n → eqb n 13 ≡ false → data_width dif (Some lvar) ≡ Some len → ⊥
no_lvar dif n lvar len is other width =
    let none : data_width dif (Some lvar) ≡ None = cond-false (eqb (dif % 16) 13) _ _ (subst (λ x. eqb x 13 ≡ false) (sym is) other) in
    none-some len (sym none ∙ width)

-- data of just as many bytes as the data field says, of which the profile reads one field
timed_by : (test : Bool) (n dif : ℕ) (lvar : Option ℕ) (sent : List ℕ) (exponent : ℤ) (p : Value) (v : FullValue) → field_width n ≡ Some n
    → eqb n 13 ≡ false → (eqb (length sent) n ≡ true → value_as (moment_type n None) exponent (dif % 16) None sent ≡ v)
    → Agrees p exponent v → eqb (dif % 16) n ≡ test → data_width dif lvar ≡ Some (length sent)
    → Agrees (cond test p (profile_unread sent)) exponent (value_as (moment_type (dif % 16) lvar) exponent (dif % 16) lvar sent)
timed_by true n dif None sent exponent p v wide plain whole agrees is width =
    let field : dif % 16 ≡ n = eqb-true (dif % 16) n is in
    let len : n ≡ length sent = same_Some n (length sent) (sym wide ∙ width_is dif n (length sent) width field) in
    subst (λ w. Agrees p exponent w) (sym (ap (λ x. value_as (moment_type x None) exponent (dif % 16) None sent) field
    ∙ whole (eq-eqb (length sent) n (sym len)))) agrees
timed_by true n dif (Some lvar) sent exponent p v wide plain whole agrees is width =
    absurd (no_lvar dif n lvar (length sent) (eqb-true (dif % 16) n is) plain width)
timed_by false n dif lvar sent exponent p v wide plain whole agrees is width =
    other_agrees sent exponent _ (λ none. empty_moment (dif % 16) lvar sent exponent none)

-- ---- all quantities

pub value_agrees : (q : Quantity) (dif : ℕ) (lvar : Option ℕ) (sent : List ℕ) (exponent : ℤ) → (q ≡ quantities.Unknown → ⊥)
    → (q ≡ quantities.ErrorFlags → ⊥) → data_width dif lvar ≡ Some (length sent)
    → Agrees (profile_value (reading_of q) (dif % 16) lvar sent) exponent
    (value_as (data_type (profile_kind q) (dif % 16) lvar) exponent (dif % 16) lvar sent)
value_agrees quantities.Unknown dif lvar sent exponent named other width = absurd (named refl)
value_agrees quantities.ErrorFlags dif lvar sent exponent named other width = absurd (other refl)
value_agrees quantities.Manufacturer dif lvar sent exponent named other width = unread_agrees sent exponent
value_agrees quantities.Date dif lvar sent exponent named other width =
    timed_by (eqb (dif % 16) 2) 2 dif lvar sent exponent (profile_day (low_first 256 sent)) _ refl refl
    (cond-true (eqb (length sent) 2) _ _) (day_agrees (low_first 256 sent) exponent) refl width
value_agrees quantities.DateTime dif lvar sent exponent named other width =
    timed_by (eqb (dif % 16) 4) 4 dif lvar sent exponent (profile_moment (low_first 256 sent)) _ refl refl
    (cond-true (eqb (length sent) 4) _ _) (moment_agrees (low_first 256 sent) exponent) refl width
value_agrees _ dif lvar sent exponent named other width = number_agrees dif lvar sent exponent width
