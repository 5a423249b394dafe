-- A roster's text is read back.
use Rattle.std.proofs.Common.{◌≡◌, ℕ, ◌+◌, ◌-◌, ◌*◌, ◌/◌, ◌^◌, ◌<◌, ◌≤◌, ◌==◌, ◌&&◌, nat_lt, true, false, cond, List, [], ◌∷◌, ◌++◌, length, map, get_or, codes, Option, Some, None, Ok, refl, ap, sym, ◌∙◌, arith, append_assoc, length-append}
use Rattle.std.specs.Prelude.{option_map}
use Rattle.std.specs.Option.{ForSome, ok_or}
use Rattle.std.specs.List.{flat_map, join_with_byte, list_all}
use Rattle.std.specs.Fmt.{decimal}
use Rattle.std.specs.Str.Lines.{lines}
use Rattle.std.proofs.lemmas.Bool.{and_parts, and_right, cond-false, le-ltb}
use Rattle.std.proofs.lemmas.Bool.Decides.{nat_tests}
use Rattle.std.proofs.lemmas.List.{append-nil}
use Rattle.std.proofs.lemmas.Fmt.{length-decimal-le}
use Rattle.hex.specs.Hex.{encode_lower, encode_with, lower_digits}
use Rattle.hex.proofs.HexLemmas.{length-encode_with}
use Rattle.lists.specs.Each.{Each}
use Rattle.plain_text.specs.Numbers.{number_of}
use Rattle.plain_text.specs.Parts.{is_word}
use Rattle.meter_address.specs.declared.address.Address.{Address}
use Rattle.meter_address.specs.declared.commission.Mode.{Mode}
use Rattle.meter_address.specs.declared.commission.Mode.TheVariants.{Five, Seven}
use Rattle.meter_address.specs.Address.{AreApart, bytes_of, text_of}
use Rattle.meter_address.specs.Commission.{Commissioned, IsCommission, IsKey, most_last, key_of}
use Rattle.meter_address.proofs.Texts.{IsBytes-bytes_of, length-bytes_of, written_address}
use Rattle.meter_address.proofs.Keys.{written_key}
use Rattle.roster_file.specs.declared.fields.Version.TheVariants.{Two}
use Rattle.roster_file.specs.declared.roster.LineCause.TheVariants as causes
use Rattle.roster_file.specs.Roster.{Columns, Enrolled, columns_of, counter_of, enlisted, enlisted_from, entries_from, headed, last_of, meter_of, meter_of_columns, meter_of_kind, meters_of, mode_of, other_of, own_of, own_of_fields, owned, roster_of}
use Rattle.lists.specs.Steps.{◌>>=◌}
use Rattle.roster_file.specs.Text.{mode_text, other_text, last_text, meter_fields, meter_text, own_text, roster_text}
use Rattle.roster_file.specs.Enrolled.{IsEnrolled}
use Rattle.roster_file.proofs.Apart.{new_behind, room_before}
use Rattle.roster_file.proofs.RosterLines.{counted, meters_by, meters_end, none_left}
use Rattle.written_words.specs.Words.{IsAbove, IsWord, IsPrinted}
use Rattle.written_words.proofs.Words.{number_above, hex_word, fields_joined, joined_printed, ended_line}
use Rattle.written_words.proofs.Numbers.{number_back}

-- ---- a field

mode_back : (mode : Mode) → mode_of (mode_text mode) ≡ Some mode
mode_back Five = refl
mode_back Seven = refl

-- a dash is no number and no key
no_dash : (text : List ℕ) → IsAbove 45 text → is_word text (codes "-") ≡ false
no_dash [] is = refl
no_dash (b ∷ text) is =
    let first : nat_lt 45 b ≡ true = (and_parts (nat_lt 45 b) (list_all (nat_lt 45) text) is.passed).0 in
    let other : (b == 45) ≡ false = grind (arith, nat_tests) in
    ap (λ t. t && is_word text []) other

no_dash_key : (key : List ℕ) → length key ≡ 16 → is_word (encode_lower key) (codes "-") ≡ false
unfolding encode_with
no_dash_key [] long = absurd (omega arith)
no_dash_key (b ∷ key) long = and_right (get_or lower_digits (b / 16) 0 == 45) false refl

other_back : (mode : Mode) (other : Option (List ℕ)) → (mode ≡ Five → other ≡ None) → ForSome other IsKey
    → other_of mode (other_text other) ≡ Some other
other_back mode None one_key keys = refl
other_back Five (Some key) one_key keys = absurd (let none = one_key refl in cc)
other_back Seven (Some key) one_key keys =
    let is = keys key refl in
    ap (λ b. cond b (Some None) (option_map Some (key_of (encode_lower key)))) (no_dash_key key is.long)
    ∙ ap (option_map Some) (written_key key is)

most_fits : (mode : Mode) → most_last mode < 2 ^ 32
most_fits Five = omega arith
most_fits Seven = omega arith

last_back : (mode : Mode) (last : Option ℕ) → ForSome last (λ n. n ≤ most_last mode) → last_of mode (last_text last) ≡ Some last
last_back mode None fits = refl
last_back mode (Some n) fits =
    ap (λ b. cond b (Some None) (option_map Some (number_of (most_last mode) (decimal n))))
    (no_dash (decimal n) (number_above 45 n (omega arith)))
    ∙ ap (option_map Some) (number_back (most_last mode) n (let most = most_fits mode in omega arith) (fits n refl))

counter_back : (n : ℕ) → n < 2 ^ 32 → counter_of (decimal n) ≡ Some n
counter_back n small = number_back (2 ^ 32 - 1) n (omega arith) (omega arith)

-- ---- a meter's line

abbrev columns_for : Commissioned → Columns
columns_for c = record {
  address = text_of c.address;
  mode = mode_text c.mode;
  key = encode_lower c.key;
  other = other_text c.other;
  last = last_text c.last;
  down = decimal c.down;
  ids = decimal c.ids;
}

columns_back : (c : Commissioned) → IsCommission c → meter_of_columns (columns_for c) ≡ Ok c
unfolding meter_of_columns
columns_back c is =
    rw (
      written_address c.address is.address,
      mode_back c.mode,
      written_key c.key is.key,
      other_back c.mode c.other is.fits.one_key is.other,
      last_back c.mode c.last is.fits.in_range,
      counter_back c.down is.down,
      counter_back c.ids is.ids,
    ) refl

mode_word : (mode : Mode) → IsWord (mode_text mode)
mode_word Five = record { passed = refl }
mode_word Seven = record { passed = refl }

other_word : (other : Option (List ℕ)) → ForSome other IsKey → IsWord (other_text other)
other_word None keys = record { passed = refl }
other_word (Some key) keys = hex_word key (keys key refl).bytes

last_word : (last : Option ℕ) → IsWord (last_text last)
last_word None = record { passed = refl }
last_word (Some n) = number_above 32 n (omega arith)

abbrev pub behind_meter : Commissioned → List (List ℕ)
behind_meter c =
    text_of c.address ∷ mode_text c.mode ∷ encode_lower c.key ∷ other_text c.other ∷ last_text c.last ∷ decimal c.down ∷ decimal c.ids ∷ []

pub meter_word : IsWord (codes "meter")
meter_word = record { passed = refl }

pub meter_words : (c : Commissioned) → IsCommission c → Each IsWord (behind_meter c)
meter_words c is = (
  hex_word (bytes_of c.address) (IsBytes-bytes_of c.address),
  (
    mode_word c.mode,
    (
      hex_word c.key is.key.bytes,
      (
        other_word c.other is.other,
        (last_word c.last, (number_above 32 c.down (omega arith), (number_above 32 c.ids (omega arith), tt))),
      ),
    ),
  ),
)

abbrev pub meter_line : Commissioned → List ℕ
meter_line c = join_with_byte 32 (meter_fields c)

columns_behind : (c : Commissioned) → columns_of Two (behind_meter c) ≡ Some (columns_for c)
unfolding columns_of
columns_behind c = refl

pub meter_back : (c : Commissioned) → IsCommission c → meter_of Two (meter_line c) ≡ Ok c
meter_back c is =
    ap (meter_of_kind Two) (fields_joined (codes "meter") (behind_meter c) meter_word (meter_words c is))
    ∙ ap (λ o. ok_or o causes.Fields >>= meter_of_columns) (columns_behind c)
    ∙ columns_back c is

-- ---- the meters

enlisted_behind : (before : List Commissioned) (c : Commissioned) (after : List Commissioned)
    → AreApart (map (λ m. m.address) (before ++ c ∷ after)) → length (before ++ c ∷ after) ≤ 4096
    → enlisted before c ≡ Ok (before ++ c ∷ [])
enlisted_behind before c after apart few =
    cond-false _ _ _ (new_behind (λ c. c.address) before c after apart)
    ∙ cond-false _ _ _ (room_before (λ c. c.address) before c after few)

-- a line of words is neither empty nor a comment
pub meter_counts : (c : Commissioned) (n : ℕ) (texts : List (List ℕ))
    → entries_from n (meter_line c ∷ texts) ≡ (n, meter_line c) ∷ entries_from (n + 1) texts
meter_counts c n texts = counted n (meter_line c) texts (grind (arith, nat_tests))

meters_back : (n : ℕ) (before after : List Commissioned) → AreApart (map (λ m. m.address) (before ++ after))
    → length (before ++ after) ≤ 4096 → Each IsCommission after
    → meters_of Two before (entries_from n (map meter_line after)) ≡ Ok (before ++ after)
meters_back n before [] apart few each = ap (meters_of Two before) (none_left n) ∙ meters_end Two before ∙ ap Ok (sym (append-nil before))
meters_back n before (c ∷ after) apart few each =
    let step : enlisted_from Two before (n, meter_line c) ≡ Ok (before ++ c ∷ []) =
    rw (meter_back c each.0, enlisted_behind before c after apart few) refl in
    let same : (before ++ c ∷ []) ++ after ≡ before ++ c ∷ after = append_assoc before (c ∷ []) after in
    ap (meters_of Two before) (meter_counts c n (map meter_line after))
    ∙ meters_by Two before (Ok (before ++ c ∷ [])) (n, meter_line c) (entries_from (n + 1) (map meter_line after)) step
    ∙ meters_back (n + 1) (before ++ c ∷ []) after (rw same apart) (rw same few) each.1
    ∙ ap Ok same

-- ---- the roster

pub own_word : IsWord (codes "own")
own_word = record { passed = refl }

abbrev pub own_line : Address → List ℕ
own_line own = join_with_byte 32 (codes "own" ∷ text_of own ∷ [])

pub own_words : (own : Address) → Each IsWord (text_of own ∷ [])
own_words own = (hex_word (bytes_of own) (IsBytes-bytes_of own), tt)

pub own_back : (own : Address) → own.0 < 2 ^ 64 → own_of (own_line own) ≡ Ok own
own_back own fits =
    ap own_of_fields (fields_joined (codes "own") (text_of own ∷ []) own_word (own_words own))
    ∙ ap (λ o. ok_or o causes.Own) (written_address own fits)

meter_lines : (meters : List Commissioned) → Each IsCommission meters → lines (flat_map meter_text meters) ≡ map meter_line meters
unfolding meter_text
meter_lines [] each = refl
meter_lines (c ∷ meters) each =
    ended_line (meter_line c) (flat_map meter_text meters)
    (joined_printed (codes "meter") (behind_meter c) meter_word (meter_words c each.0))
    ∙ ap (λ ls. meter_line c ∷ ls) (meter_lines meters each.1)

abbrev head_line : List ℕ
head_line = codes "wmbus-roster 2"

head_printed : IsPrinted head_line
head_printed = record { passed = refl }

roster_lines : (r : Enrolled) → IsEnrolled r → lines (roster_text r) ≡ head_line ∷ own_line r.own ∷ map meter_line r.meters
unfolding roster_text own_text
roster_lines r is =
    ap lines (append_assoc (head_line ++ 10 ∷ []) (own_text r.own) (flat_map meter_text r.meters))
    ∙ ended_line head_line (own_text r.own ++ flat_map meter_text r.meters) head_printed
    ∙ ap (λ ls. head_line ∷ ls) (ended_line (own_line r.own) (flat_map meter_text r.meters)
    (joined_printed (codes "own") (text_of r.own ∷ []) own_word (own_words r.own)))
    ∙ ap (λ ls. head_line ∷ own_line r.own ∷ ls) (meter_lines r.meters is.each)

-- ---- its length

mode_len : (mode : Mode) → length (mode_text mode) ≤ 1
mode_len Five = omega arith
mode_len Seven = omega arith

other_len : (other : Option (List ℕ)) → ForSome other IsKey → length (other_text other) ≤ 32
other_len None keys = omega arith
other_len (Some key) keys = let long = (keys key refl).long in omega (arith, length-encode_with lower_digits key)

pub number_len : (n : ℕ) → n < 2 ^ 32 → length (decimal n) ≤ 10
number_len n small = length-decimal-le 10 n (omega arith) (omega arith) (omega arith)

last_len : (mode : Mode) (last : Option ℕ) → ForSome last (λ n. n ≤ most_last mode) → length (last_text last) ≤ 10
last_len mode None fits = omega arith
last_len mode (Some n) fits = let within = fits n refl in let most = most_fits mode in number_len n (omega arith)

-- the bytes of words, with one more for each
abbrev pub total : List (List ℕ) → ℕ
total [] = 0
total (word ∷ words) = length word + 1 + total words

pub words_len : (word : List ℕ) (words : List (List ℕ)) → length (join_with_byte 32 (word ∷ words)) + 1 ≡ length word + 1 + total words
words_len word [] = omega arith
words_len word (next ∷ words) =
    let others = words_len next words in omega (arith, length-append word (32 ∷ join_with_byte 32 (next ∷ words)))

pub meter_len : (c : Commissioned) → IsCommission c → length (meter_text c) ≤ 200
unfolding meter_text
meter_len c is =
    let all = words_len (codes "meter") (behind_meter c) in
    let whole = length-append (meter_line c) (10 ∷ []) in
    let address = length-encode_with lower_digits (bytes_of c.address) in
    let eight = length-bytes_of c.address in
    let mode = mode_len c.mode in
    let key = length-encode_with lower_digits c.key in
    let sixteen = is.key.long in
    let other = other_len c.other is.other in
    let last = last_len c.mode c.last is.fits.in_range in
    let down = number_len c.down is.down in
    let ids = number_len c.ids is.ids in
    omega arith

meters_len : (meters : List Commissioned) → Each IsCommission meters → length (flat_map meter_text meters) ≤ 200 * length meters
meters_len [] each = omega arith
meters_len (c ∷ meters) each =
    let one = meter_len c each.0 in
    let others = meters_len meters each.1 in
    let all = length-append (meter_text c) (flat_map meter_text meters) in
    omega arith

-- the own line with its newline
pub own_len : (own : Address) → length (own_text own) ≡ 21
unfolding own_text
own_len own =
    omega (
      arith,
      words_len (codes "own") (text_of own ∷ []),
      length-append (own_line own) (10 ∷ []),
      length-encode_with lower_digits (bytes_of own),
      length-bytes_of own,
    )

roster_len : (r : Enrolled) → IsEnrolled r → length (roster_text r) ≤ 1048576
unfolding roster_text
roster_len r is =
    let front = length-append (head_line ++ 10 ∷ []) (own_text r.own) in
    let all = length-append ((head_line ++ 10 ∷ []) ++ own_text r.own) (flat_map meter_text r.meters) in
    let own = own_len r.own in
    let meters = meters_len r.meters is.each in
    let few = is.few in
    omega arith

-- ---- the whole

pub own_counts : (own : Address) (n : ℕ) (texts : List (List ℕ))
    → entries_from n (own_line own ∷ texts) ≡ (n, own_line own) ∷ entries_from (n + 1) texts
own_counts own n texts = counted n (own_line own) texts (grind (arith, nat_tests))

owned_back : (r : Enrolled) (n end : ℕ) → IsEnrolled r
    → owned Two ((n, own_line r.own) ∷ entries_from (n + 1) (map meter_line r.meters)) end ≡ Ok r
unfolding owned
owned_back r n end is = rw (own_back r.own is.own, meters_back (n + 1) [] r.meters is.apart is.few is.each) refl

headed_back : (r : Enrolled) (end : ℕ) → IsEnrolled r
    → headed (entries_from 1 (head_line ∷ own_line r.own ∷ map meter_line r.meters)) end ≡ Ok r
unfolding headed
headed_back r end is =
    rw (counted 1 head_line (own_line r.own ∷ map meter_line r.meters) refl, own_counts r.own 2 (map meter_line r.meters)) (owned_back r 2 end is)

pub written_is_read : (r : Enrolled) → IsEnrolled r → roster_of (roster_text r) ≡ Ok r
unfolding roster_of
written_is_read r is =
    cond-false _ _ _ (le-ltb 1048576 (length (roster_text r)) (roster_len r is))
    ∙ ap (λ ls. headed (entries_from 1 ls) (length (lines (roster_text r)) + 1)) (roster_lines r is)
    ∙ headed_back r (length (lines (roster_text r)) + 1) is
