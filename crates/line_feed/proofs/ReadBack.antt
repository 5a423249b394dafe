-- What is heard is a telegram, and its line is read back.
use Rattle.std.proofs.Common.{◌≡◌, ◌==◌, ◌-◌, ℕ, Bool, true, false, cond, List, [], ◌∷◌, ◌++◌, length, drop, slice_index}
use Rattle.std.proofs.Common.{◌+◌, ◌≤◌, ◌<◌, arith, Option, Some, None, Result, Ok, Err, refl, sym, ap, ◌∙◌, subst, inl, inr}
use Rattle.std.specs.Prelude.{nat_lt, codes}
use Rattle.std.specs.Option.{ok_or}
use Rattle.std.specs.Result.{result_ok}
use Rattle.std.specs.Str.{is_utf8}
use Rattle.std.specs.Str.Lines.{lines}
use Rattle.hex.specs.Hex.{decode_of}
use Rattle.hex.specs.declared.error.FromHexError.{FromHexError}
use Rattle.hex.proofs.HexLemmas.{decode_of-ok}
use Rattle.serde_json.specs.Data.{Data}
use Rattle.serde_json.specs.Read.{read}
use Rattle.lists.specs.Steps.{◌>>=◌}
use Rattle.lists.proofs.Choices.{chosen, guard_ok, guard_ok_if}
use Rattle.lists.proofs.StepLaws.{bind_ok}
use Rattle.plain_text.specs.Parts.{is_word}
use Rattle.line_reader.specs.Grammar.{bytes_of}
use Rattle.frame_formats.specs.Crc.{IsBytes}
use Rattle.frame_formats.specs.declared.fault.FrameFault.{FrameFault}
use Rattle.frame_formats.specs.declared.format.Format.{Format}
use Rattle.frame_formats.specs.declared.format.Format.TheVariants as formats
use Rattle.frame_formats.specs.Frames.{IsTelegram, Frame}
use Rattle.frame_formats.specs.Decoding.{frame_a, decoded}
use Rattle.frame_formats.proofs.Checked.{bytes-take, bytes-drop}
use Rattle.frame_formats.proofs.Division.{each_byte}
use Rattle.frame_formats.proofs.FrameLaws.{one_frame_a}
use Rattle.frame_formats.proofs.EitherFormat.{frames_are_decoded, telegrams_are_bytes}
use Rattle.frame_lines.specs.Laws.{IsWhole}
use Rattle.frame_lines.proofs.ReadBack.{lines_stand_alone}
use Rattle.frame_lines.proofs.ReadBack as frame_lines_read
use Rattle.line_feed.specs.declared.heard.Reception.{Reception}
use Rattle.line_feed.specs.declared.printings.Printing.{Printing}
use Rattle.line_feed.specs.declared.printings.Printing.TheVariants as printings
use Rattle.line_feed.specs.declared.reasons.NotTaken.{NotTaken}
use Rattle.line_feed.specs.declared.reasons.NotTaken.TheVariants as reasons
use Rattle.line_feed.specs.Digits.{bytes_in, is_telegram, telegram_of, telegram_in}
use Rattle.line_feed.specs.Heard.{heard_some_time, heard_at}
use Rattle.line_feed.specs.Cul.{without_quality, is_length, or_shorter, decoded_heard, heard_framed, framed, behind_letter, cul_heard}
use Rattle.line_feed.specs.Columns.{columns_of}
use Rattle.line_feed.specs.RtlWmbus.{known_mode, checked, prefixed, columns_heard}
use Rattle.line_feed.specs.Rtl433.{restored, last_crc, with_last_crc, telegram_in_data, data_telegram}
use Rattle.line_feed.specs.Rtl433.{passes, has_text, time_in, data_in, json_heard, read_heard}
use Rattle.line_feed.specs.Moments.{moment_in}
use Rattle.line_feed.specs.Hex.{unmarked}
use Rattle.line_feed.specs.Lines.{heard_in}
use Rattle.line_feed.specs.Laws.{LinesAreReadBack, TelegramsAreWhole}
use Rattle.line_feed.proofs.Telegrams.{is_found}

-- one answer has one value
taken : {A E : Type 0} (x z : A) (r : Result A E) → r ≡ Ok x → r ≡ Ok z → x ≡ z
taken x z r one other = cc

-- ---- digits

bytes_found : (digits : List ℕ) (r : Result (List ℕ) FromHexError) (bytes : List ℕ) → decode_of digits ≡ r
    → ok_or (result_ok r) reasons.Hex ≡ Ok bytes → IsBytes bytes
bytes_found digits (Ok found) bytes is ok =
    subst IsBytes (taken found bytes (ok_or (Some found) reasons.Hex) refl ok) (each_byte found ((decode_of-ok digits found is).3))
bytes_found digits (Err e) bytes is ok = absurd cc

bytes_read : (digits bytes : List ℕ) → bytes_in digits ≡ Ok bytes → IsBytes bytes
bytes_read digits bytes is =
    bytes_found digits (decode_of digits) bytes refl
    (guard_ok (nat_lt 1024 (length digits)) reasons.Hex (ok_or (bytes_of digits) reasons.Hex) bytes is).1

telegram_is : (bytes t : List ℕ) → IsBytes bytes → telegram_of bytes ≡ Ok t → IsWhole t
telegram_is bytes t all is =
    let found = guard_ok_if (is_telegram bytes) reasons.Length (Ok bytes) t is in
    subst IsWhole (taken bytes t (Ok bytes) refl found.1) (record { telegram = is_found bytes found.0; bytes = all })

telegram_read : (digits t : List ℕ) → telegram_in digits ≡ Ok t → IsWhole t
telegram_read digits t is =
    let bytes = bind_ok (bytes_in digits) telegram_of t is in
    telegram_is bytes.0 t (bytes_read digits bytes.0 bytes.1) bytes.2

-- a reader of digits that reads telegrams
abbrev ReadsWhole : (List ℕ → Result (List ℕ) NotTaken) → Type 0
ReadsWhole reader = (digits t : List ℕ) → reader digits ≡ Ok t → IsWhole t

-- the telegram is the last that is read
last_read : (reader : List ℕ → Result (List ℕ) NotTaken) → ReadsWhole reader → (f : List ℕ → Reception) → ((t : List ℕ) → (f t).telegram ≡ t)
    → (digits : List ℕ) (heard : Reception) → (reader digits >>= λ t. Ok (f t)) ≡ Ok heard → IsWhole heard.telegram
last_read reader whole f keeps digits heard is =
    let t = bind_ok (reader digits) (λ t. Ok (f t)) heard is in
    subst IsWhole (sym (keeps t.0) ∙ ap (λ (h : Reception). h.telegram) (taken (f t.0) heard (Ok (f t.0)) refl t.2)) (whole digits t.0 t.1)

-- where all that is read in front of it was read
steps_read : {M : Type 0} (reader : List ℕ → Result (List ℕ) NotTaken) → ReadsWhole reader → (f : M → List ℕ → Reception)
    → ((m : M) (t : List ℕ) → (f m t).telegram ≡ t)
    → (known passed : Result (Unit {0}) NotTaken) (moment : Result M NotTaken) (digits : Result (List ℕ) NotTaken) (heard : Reception)
    → (known >>= λ k. passed >>= λ p. moment >>= λ m. digits >>= λ d. reader d >>= λ t. Ok (f m t)) ≡ Ok heard → IsWhole heard.telegram
steps_read reader whole f keeps (Ok known) (Ok passed) (Ok moment) (Ok digits) heard is =
    last_read reader whole (f moment) (keeps moment) digits heard is
steps_read reader whole f keeps (Ok known) (Ok passed) (Ok moment) (Err e) heard is = absurd cc
steps_read reader whole f keeps (Ok known) (Ok passed) (Err e) digits heard is = absurd cc
steps_read reader whole f keeps (Ok known) (Err e) moment digits heard is = absurd cc
steps_read reader whole f keeps (Err e) passed moment digits heard is = absurd cc

-- ---- culfw

telegram_in_frame : (format : Format) (bytes t : List ℕ) → Frame format bytes t → IsTelegram t
telegram_in_frame formats.A bytes t is = is.telegram
telegram_in_frame formats.B bytes t is = is.telegram

frame_whole : (format : Format) (bytes t : List ℕ) → IsBytes bytes → decoded format bytes ≡ Ok t → IsWhole t
frame_whole format bytes t all is =
    let frame : Frame format bytes t = (frames_are_decoded format bytes t all).0 is in
    record { telegram = telegram_in_frame format bytes t frame; bytes = telegrams_are_bytes format bytes t all frame }

shorter_whole : (format : Format) (bytes t : List ℕ) → IsBytes bytes → (r : Result (List ℕ) FrameFault) → decoded format bytes ≡ r
    → or_shorter r (decoded format (without_quality bytes)) ≡ Ok t → IsWhole t
shorter_whole format bytes t all (Ok found) is ok = frame_whole format bytes t all (is ∙ ok)
shorter_whole format bytes t all (Err fault) is ok =
    frame_whole format (without_quality bytes) t (bytes-take (length bytes - 2) bytes all)
    (guard_ok_if (is_length fault) fault (decoded format (without_quality bytes)) t ok).1

framed_whole : (format : Format) (bytes : List ℕ) (heard : Reception) → IsBytes bytes → (r : Result (List ℕ) FrameFault)
    → decoded_heard format bytes ≡ r → heard_framed r ≡ Ok heard → IsWhole heard.telegram
framed_whole format bytes heard all (Ok t) is ok =
    subst IsWhole (ap (λ (h : Reception). h.telegram) (taken (heard_some_time t) heard (heard_framed (Ok t)) refl ok))
    (shorter_whole format bytes t all (decoded format bytes) refl is)
framed_whole format bytes heard all (Err fault) is ok = absurd cc

framed_read : (format : Format) (digits : List ℕ) (heard : Reception) → framed format digits ≡ Ok heard → IsWhole heard.telegram
unfolding framed
framed_read format digits heard is =
    let bytes = bind_ok (bytes_in digits) (λ bytes. heard_framed (decoded_heard format bytes)) heard is in
    framed_whole format bytes.0 heard (bytes_read digits bytes.0 bytes.1) (decoded_heard format bytes.0) refl bytes.2

behind_read : (text : List ℕ) (heard : Reception) → behind_letter text ≡ Ok heard → IsWhole heard.telegram
behind_read [] heard is = framed_read formats.A [] heard is
behind_read (letter ∷ rest) heard is =
    elim (chosen (letter == 89) (framed formats.B rest) (framed formats.A (letter ∷ rest)) (Ok heard) is) [
      | inl x ↦ framed_read formats.B rest heard x.1
      | inr x ↦ framed_read formats.A (letter ∷ rest) heard x.1
    ]

cul_read : (line : List ℕ) (heard : Reception) → cul_heard line ≡ Ok heard → IsWhole heard.telegram
cul_read [] heard is = absurd cc
cul_read (letter ∷ rest) heard is =
    behind_read rest heard (guard_ok_if (letter == 98) reasons.Letter (behind_letter rest) heard is).1

-- ---- rtl_wmbus

no_columns : (heard : Reception) → Err reasons.Columns ≡ Ok heard → IsWhole heard.telegram
no_columns heard is = absurd cc

columns_read : (columns : List (List ℕ)) (heard : Reception) → columns_heard columns ≡ Ok heard → IsWhole heard.telegram
unfolding columns_heard
columns_read [] heard is = no_columns heard is
columns_read (a ∷ []) heard is = no_columns heard is
columns_read (a ∷ b ∷ []) heard is = no_columns heard is
columns_read (a ∷ b ∷ c ∷ []) heard is = no_columns heard is
columns_read (a ∷ b ∷ c ∷ d ∷ []) heard is = no_columns heard is
columns_read (a ∷ b ∷ c ∷ d ∷ e ∷ []) heard is = no_columns heard is
columns_read (a ∷ b ∷ c ∷ d ∷ e ∷ f ∷ []) heard is = no_columns heard is
columns_read (a ∷ b ∷ c ∷ d ∷ e ∷ f ∷ g ∷ []) heard is = no_columns heard is
columns_read (a ∷ b ∷ c ∷ d ∷ e ∷ f ∷ g ∷ h ∷ i ∷ more) heard is = no_columns heard is
columns_read (a ∷ b ∷ c ∷ d ∷ e ∷ f ∷ g ∷ h ∷ []) heard is =
    steps_read telegram_in telegram_read heard_at (λ m t. refl) (known_mode a) (checked b) (moment_in d) (prefixed h) heard is

-- ---- rtl_433

restored_is : (bytes t : List ℕ) → IsBytes bytes → telegram_of (restored bytes) ≡ Ok t → IsWhole t
restored_is bytes t all is =
    let found = guard_ok_if (is_telegram (restored bytes)) reasons.Length (Ok (restored bytes)) t is in
    let telegram = is_found (restored bytes) found.0 in
    subst IsWhole (taken (restored bytes) t (Ok (restored bytes)) refl found.1) (record {
      telegram = telegram;
      bytes = (
        few (slice_index bytes 0) (length (restored bytes)) telegram.counted telegram.most,
        bytes-take (length bytes - 3) (drop 1 bytes) (bytes-drop 1 bytes all),
      );
    })
  where
    few : (first n : ℕ) → first + 2 + 1 ≡ n → n ≤ 256 → first + 2 < 256
    few first n counted most = omega arith

data_is : (bytes t : List ℕ) → IsBytes bytes → telegram_in_data bytes ≡ Ok t → IsWhole t
data_is bytes t all is =
    elim (chosen (is_telegram bytes) (Ok bytes) (telegram_of (restored bytes) >>= with_last_crc bytes) (Ok t) is) [
      | inl x ↦ subst IsWhole (taken bytes t (Ok bytes) refl x.1) (record { telegram = is_found bytes x.0; bytes = all })
      | inr x ↦
          let known = bind_ok (telegram_of (restored bytes)) (with_last_crc bytes) t x.1 in
          let same = guard_ok_if (is_word (drop (length bytes - 2) bytes) (last_crc known.0)) reasons.Length (Ok known.0) t known.2 in
          subst IsWhole (taken known.0 t (Ok known.0) refl same.1) (restored_is bytes known.0 all known.1)
    ]

data_read : (digits t : List ℕ) → data_telegram digits ≡ Ok t → IsWhole t
data_read digits t is =
    let bytes = bind_ok (bytes_in digits) telegram_in_data t is in
    data_is bytes.0 t (bytes_read digits bytes.0 bytes.1) bytes.2

json_read : (d : Data) (heard : Reception) → json_heard d ≡ Ok heard → IsWhole heard.telegram
unfolding json_heard
json_read d heard is =
    steps_read data_telegram data_read (λ m t. record { telegram = t; moment = m }) (λ m t. refl)
    (passes (has_text (codes "model") (codes "Wireless-MBus") d) reasons.Model)
    (passes (has_text (codes "mic") (codes "CRC") d) reasons.Unchecked) (time_in d) (data_in d) heard is

text_read : (found : Option Data) (heard : Reception) → read_heard found ≡ Ok heard → IsWhole heard.telegram
text_read None heard is = absurd cc
text_read (Some d) heard is = json_read d heard is

-- ---- each format

read_in : (printing : Printing) (line : List ℕ) (heard : Reception) → heard_in printing line ≡ Ok heard → IsWhole heard.telegram
read_in printings.Cul line heard is = cul_read line heard is
read_in printings.RtlWmbus line heard is = columns_read (columns_of line) heard is
read_in printings.Rtl433 line heard is =
    text_read (read line) heard (guard_ok_if (is_utf8 line) reasons.Json (read_heard (read line)) heard is).1
read_in printings.Hex line heard is = last_read telegram_in telegram_read heard_some_time (λ t. refl) (unmarked line) heard is

pub telegrams_are_whole : TelegramsAreWhole
telegrams_are_whole printing line heard is =
    read_in printing line heard (guard_ok (nat_lt 4096 (length line)) reasons.TooLong (heard_in printing line) heard is).1

-- ---- what is printed

pub lines_are_read_back : LinesAreReadBack
lines_are_read_back printing line heard text is printed =
    let whole = telegrams_are_whole printing line heard is in
    record {
      at = printed.at;
      moment = printed.moment;
      first = λ rest. ap (λ t. lines (t ++ rest)) printed.text_is ∙ (lines_stand_alone printed.at heard.telegram printed.below whole).first rest;
      read = frame_lines_read.lines_are_read_back printed.at heard.telegram printed.below whole;
    }
