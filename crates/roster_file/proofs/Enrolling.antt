-- What holds of the rosters that are read.
use Rattle.std.proofs.Common.{◌≡◌, ℕ, ◌+◌, ◌-◌, ◌^◌, ◌<◌, ◌≤◌, ◌&&◌, List, [], ◌∷◌, ◌++◌, Bool, true, false, cond, nat_le, length, codes, Option, Some, None, Result, Ok, Err, ◌⊎◌, inl, inr, refl, ap, sym, ◌∙◌, arith}
use Rattle.std.specs.Prelude.{option_map}
use Rattle.std.specs.Option.{ForSome, ok_or}
use Rattle.std.specs.Str.Lines.{lines}
use Rattle.std.specs.Str.Parse.{digits_value}
use Rattle.std.proofs.lemmas.Bool.{and_parts, cond-true, lt-ltb}
use Rattle.std.proofs.lemmas.Bool.Decides.{nat_tests}
use Rattle.lists.proofs.Choices.{some_if}
use Rattle.plain_text.specs.Numbers.{is_plain, number_of}
use Rattle.plain_text.specs.Parts.{fields_of, is_word}
use Rattle.meter_address.specs.declared.address.Address.{Address}
use Rattle.meter_address.specs.declared.commission.Mode.{Mode}
use Rattle.meter_address.specs.declared.commission.Mode.TheVariants.{Five, Seven}
use Rattle.meter_address.specs.Address.{address_of}
use Rattle.meter_address.specs.Commission.{Commissioned, IsCommission, IsKey, key_of, most_last}
use Rattle.meter_address.proofs.Texts.{read_fits}
use Rattle.meter_address.proofs.Keys.{read_key_is}
use Rattle.roster_file.specs.declared.fields.Version.{Version}
use Rattle.roster_file.specs.declared.roster.LineCause.{LineCause}
use Rattle.roster_file.specs.declared.roster.LineCause.TheVariants as causes
use Rattle.roster_file.specs.declared.roster.RosterFault.{RosterFault}
use Rattle.roster_file.specs.declared.roster.RosterFault.TheVariants.{Line}
use Rattle.roster_file.specs.Roster.{Columns, Enrolled, at_line, columns_of, counter_of, enlisted, enlisted_from, entries_from, head_of, headed, last_of, meter_of, meter_of_columns, meter_of_kind, meters_of, mode_of, other_of, own_of, own_of_fields, owned, roster_of, second_key_of, with_own}
use Rattle.lists.specs.Steps.{◌>>=◌}
use Rattle.roster_file.specs.Enrolled.{IsEnrolled}
use Rattle.roster_file.proofs.Gives.{Gives, gives_ok, gives_err, gives_where, gives_then, gives_some, gives_field, line_gives}
use Rattle.roster_file.proofs.Apart.{CanStand, none_stand, enlisted_stand}

-- ---- a field

pub number_within : (most : ℕ) (text : List ℕ) (n : ℕ) → number_of most text ≡ Some n → n ≤ most
unfolding number_of
number_within most text n h =
    let test = some_if (is_plain text && nat_le (digits_value 10 text) most) (digits_value 10 text) n h in
    let small = (and_parts (is_plain text) _ test.0).1 in
    let same = test.1 in
    grind (arith, nat_tests)

-- a dash for none, or what is read
dash_or : {A : Type 0} (b : Bool) (o found : Option A) → cond b (Some None) (option_map Some o) ≡ Some found
    → (found ≡ None) ⊎ (o ≡ found)
dash_or true o found h = inl cc
dash_or false (Some x) found h = inr cc
dash_or false None found h = absurd cc

key_fits : (mode : Mode) (text key : List ℕ) → second_key_of mode text ≡ Some key → IsKey key
key_fits Five text key h = absurd cc
key_fits Seven text key h = read_key_is text key h

other_fits : (mode : Mode) (text : List ℕ) (other : Option (List ℕ)) → other_of mode text ≡ Some other
    → ForSome other IsKey × (mode ≡ Five → other ≡ None)
other_fits mode text other h =
    elim (dash_or (is_word text (codes "-")) (second_key_of mode text) other h) [
      | inl none ↦ (λ key is. absurd cc, λ five. none)
      | inr read ↦ (λ key is. key_fits mode text key (read ∙ is), λ five. sym read ∙ ap (λ m. second_key_of m text) five)
    ]

last_fits : (mode : Mode) (text : List ℕ) (last : Option ℕ) → last_of mode text ≡ Some last → ForSome last (λ n. n ≤ most_last mode)
last_fits mode text last h n is =
    elim (dash_or (is_word text (codes "-")) (number_of (most_last mode) text) last h) [
      | inl none ↦ absurd cc
      | inr read ↦ number_within (most_last mode) text n (read ∙ is)
    ]

counter_fits : (text : List ℕ) (n : ℕ) → counter_of text ≡ Some n → n < 2 ^ 32
counter_fits text n h = let within = number_within (2 ^ 32 - 1) text n h in omega arith

-- ---- a line

columns_fit : (t : Columns) → Gives IsCommission (meter_of_columns t)
unfolding meter_of_columns
columns_fit t =
    gives_field IsCommission (address_of t.address) causes.Address _ (λ address is_address.
    gives_field IsCommission (mode_of t.mode) causes.Mode _ (λ mode is_mode.
    gives_field IsCommission (key_of t.key) causes.Key _ (λ key is_key.
    gives_field IsCommission (other_of mode t.other) causes.Other _ (λ other is_other.
    gives_field IsCommission (last_of mode t.last) causes.Last _ (λ last is_last.
    gives_field IsCommission (counter_of t.down) causes.Down _ (λ down is_down.
    gives_field IsCommission (counter_of t.ids) causes.Ids _ (λ ids is_ids.
    let fits = other_fits mode t.other other is_other in
    gives_ok IsCommission
    (record { address = address; mode = mode; key = key; other = other; last = last; down = down; ids = ids })
    (record {
      address = read_fits t.address address is_address;
      key = read_key_is t.key key is_key;
      other = fits.0;
      fits = record { one_key = fits.1; in_range = last_fits mode t.last last is_last };
      down = counter_fits t.down down is_down;
      ids = counter_fits t.ids ids is_ids;
    }))))))))

kind_fits : (version : Version) (fields : List (List ℕ)) → Gives IsCommission (meter_of_kind version fields)
kind_fits version [] = gives_err IsCommission causes.Kind
kind_fits version (kind ∷ fields) =
    gives_where IsCommission (is_word kind (codes "meter")) _ _
    (gives_field IsCommission (columns_of version fields) causes.Fields meter_of_columns (λ columns is. columns_fit columns))
    (gives_err IsCommission causes.Kind)

pub meter_fits : (version : Version) (line : List ℕ) → Gives IsCommission (meter_of version line)
meter_fits version line = kind_fits version (fields_of line)

abbrev IsOwn : Address → Type 0
IsOwn own = own.0 < 2 ^ 64

own_fields_fit : (fields : List (List ℕ)) → Gives IsOwn (own_of_fields fields)
own_fields_fit [] = gives_err IsOwn causes.Own
own_fields_fit (kind ∷ []) = gives_err IsOwn causes.Own
own_fields_fit (kind ∷ a ∷ []) =
    gives_where IsOwn (is_word kind (codes "own")) _ _ (gives_some IsOwn (address_of a) causes.Own (read_fits a))
    (gives_err IsOwn causes.Own)
own_fields_fit (kind ∷ a ∷ b ∷ more) = gives_err IsOwn causes.Own

pub own_fits : (line : List ℕ) → Gives (λ (own : Address). own.0 < 2 ^ 64) (own_of line)
own_fits line = own_fields_fit (fields_of line)

-- ---- the meters

abbrev Stand : List Commissioned → Type 0
Stand meters = CanStand (λ c. c.address) IsCommission meters

stands_from : (version : Version) (meters : List Commissioned) (e : ℕ × List ℕ) → Stand meters → Gives Stand (enlisted_from version meters e)
stands_from version meters e stand =
    line_gives Stand e.0 (meter_of version e.1 >>= enlisted meters)
    (gives_then Stand (meter_of version e.1) (enlisted meters) (λ c is.
    enlisted_stand (λ c. c.address) IsCommission Stand meters c (meters ++ c ∷ []) causes.Same causes.TooMany stand
    (meter_fits version e.1 c is) (λ all. all)))

all_stand : (version : Version) (meters : List Commissioned) (entries : List (ℕ × List ℕ)) → Stand meters
    → Gives Stand (meters_of version meters entries)
unfolding meters_of
all_stand version meters [] stand = gives_ok Stand meters stand
all_stand version meters (e ∷ entries) stand =
    gives_then Stand (enlisted_from version meters e) (λ more. meters_of version more entries) (λ more is.
    all_stand version more entries (stands_from version meters e stand more is))

-- ---- the roster

own_gives : (own : Address) (r : Result (List Commissioned) RosterFault) → own.0 < 2 ^ 64 → Gives Stand r → Gives IsEnrolled (with_own own r)
own_gives own (Ok meters) small stand =
    let all = stand meters refl in
    gives_ok IsEnrolled (record { own = own; meters = meters })
    (record { own = small; few = all.few; apart = all.apart; each = all.each })
own_gives own (Err fault) small stand = gives_err IsEnrolled fault

owned_is : (version : Version) (entries : List (ℕ × List ℕ)) (end : ℕ) → Gives IsEnrolled (owned version entries end)
unfolding owned
owned_is version [] end = gives_err IsEnrolled _
owned_is version (e ∷ entries) end =
    gives_then IsEnrolled (at_line e.0 (own_of e.1)) (λ own. with_own own (meters_of version [] entries)) (λ own is.
    own_gives own (meters_of version [] entries) (line_gives IsOwn e.0 (own_of e.1) (own_fits e.1) own is)
    (all_stand version [] entries (none_stand (λ c. c.address) IsCommission)))

headed_is : (entries : List (ℕ × List ℕ)) (end : ℕ) → Gives IsEnrolled (headed entries end)
unfolding headed
headed_is [] end = gives_err IsEnrolled _
headed_is (e ∷ entries) end =
    gives_then IsEnrolled (at_line e.0 (ok_or (head_of e.1) causes.Head)) (λ version. owned version entries end) (λ version is.
    owned_is version entries end)

pub read_is_enrolled : (bytes : List ℕ) (r : Enrolled) → roster_of bytes ≡ Ok r → IsEnrolled r
unfolding roster_of
read_is_enrolled bytes =
    gives_where IsEnrolled _ _ _ (gives_err IsEnrolled _) (headed_is (entries_from 1 (lines bytes)) (length (lines bytes) + 1))

-- a text with more bytes is none
pub too_long : (bytes : List ℕ) → 1048576 < length bytes → roster_of bytes ≡ Err (Line 0 causes.TooLong)
unfolding roster_of
too_long bytes long = cond-true _ _ _ (lt-ltb 1048576 (length bytes) long)

pub first_line : (bytes : List ℕ) (line : ℕ) (cause : LineCause) → 1048576 < length bytes → (0 ≡ line) × (causes.TooLong ≡ cause)
    → roster_of bytes ≡ Err (Line line cause)
first_line bytes line cause long is = rw (← is.0, ← is.1) (too_long bytes long)
