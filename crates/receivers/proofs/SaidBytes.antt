-- Closes `lines_say_bytes`: hexadecimal digits say bytes, and so does the telegram of a frame of these.
use Rattle.std.proofs.Common.{◌≡◌, ℕ, Bool, true, false, cond, List, [], ◌∷◌, length, Result, Ok, Err, refl}
use Rattle.std.specs.Prelude.{◌-◌, ◌^◌, nat_lt, codes}
use Rattle.std.specs.Option.{ok_or}
use Rattle.std.specs.Result.{result_ok}
use Rattle.hex.specs.Hex.{decode_of}
use Rattle.hex.specs.declared.error.FromHexError.{FromHexError}
use Rattle.hex.proofs.HexLemmas.{decode_of-ok}
use Rattle.lists.specs.Steps.{◌>>=◌}
use Rattle.plain_text.specs.Numbers.{number_of}
use Rattle.plain_text.specs.Parts.{fields_of, is_word}
use Rattle.meter_address.specs.declared.address.Address.{Address}
use Rattle.meter_address.specs.Address.{address_of}
use Rattle.meter_address.specs.Commission.{key_of}
use Rattle.frame_formats.specs.Crc.{IsBytes}
use Rattle.frame_formats.specs.Decoding.{decoded}
use Rattle.frame_formats.specs.declared.fault.FrameFault.{FrameFault}
use Rattle.frame_formats.specs.declared.format.Format.{Format}
use Rattle.frame_formats.specs.declared.format.Format.TheVariants as formats
use Rattle.frame_formats.proofs.Division.{each_byte}
use Rattle.frame_formats.proofs.EitherFormat.{frames_are_decoded, telegrams_are_bytes}
use Rattle.line_reader.specs.declared.line.BadLine.{BadLine}
use Rattle.line_reader.specs.declared.line.BadLine.TheVariants as bads
use Rattle.line_reader.specs.declared.line.Line.{Line}
use Rattle.line_reader.specs.declared.line.Line.TheVariants as lines
use Rattle.line_reader.specs.Grammar.{bytes_of, frame_line, tick_line, payload_of, put_line, cancel_line, key_line, by_word, line_of}
use Rattle.meter_slots.specs.Telling.{heard_in}
use Rattle.receivers.specs.Told.{told_by_event, told_by, told_by_reading, told_of}
use Rattle.receivers.specs.MacLaw.{SaysBytes, LinesSayBytes}

abbrev HasBytes : Line → Type 0
HasBytes (lines.Frame format at bytes) = IsBytes bytes
HasBytes _ = Unit {0}

abbrev Holds : {A : Type 0} → (A → Type 0) → Result A BadLine → Type 0
Holds P (Ok x) = P x
Holds P (Err bad) = Unit {0}

-- ---- along a chain

by_bind : {A B : Type 0} (P : A → Type 0) (Q : B → Type 0) (r : Result A BadLine) (f : A → Result B BadLine) → Holds P r
    → ((x : A) → P x → Holds Q (f x)) → Holds Q (r >>= f)
by_bind P Q (Ok x) f holds then_holds = then_holds x holds
by_bind P Q (Err bad) f holds then_holds = tt

anything : {A : Type 0} → A → Type 0
anything x = Unit {0}

by_any : {A B : Type 0} (Q : B → Type 0) (r : Result A BadLine) (f : A → Result B BadLine) → ((x : A) → Holds Q (f x)) → Holds Q (r >>= f)
by_any Q (Ok x) f then_holds = then_holds x
by_any Q (Err bad) f then_holds = tt

by_cond : {A : Type 0} (Q : A → Type 0) (b : Bool) (r s : Result A BadLine) → Holds Q r → Holds Q s → Holds Q (cond b r s)
by_cond Q true r s one other = one
by_cond Q false r s one other = other

-- ---- each word

digits_say : (digits : List ℕ) (r : Result (List ℕ) FromHexError) (bad : BadLine) → decode_of digits ≡ r → Holds IsBytes (ok_or (result_ok r) bad)
digits_say digits (Ok bytes) bad is = each_byte bytes ((decode_of-ok digits bytes is).3)
digits_say digits (Err e) bad is = tt

frame_says : (format : Format) (fields : List (List ℕ)) → Holds HasBytes (frame_line format fields)
unfolding frame_line
frame_says format (moment ∷ digits ∷ []) =
    by_any HasBytes (ok_or (number_of (2 ^ 64 - 1) moment) bads.Number) _
    (λ at. by_bind IsBytes HasBytes (ok_or (bytes_of digits) bads.Hex) _ (digits_say digits (decode_of digits) bads.Hex refl) (λ bytes all. all))
frame_says format _ = tt

tick_says : (fields : List (List ℕ)) → Holds HasBytes (tick_line fields)
unfolding tick_line
tick_says (text ∷ []) = by_any HasBytes (ok_or (address_of text) bads.Address) (λ address. Ok (lines.Tick address)) (λ address. tt)
tick_says _ = tt

put_says : (fields : List (List ℕ)) → Holds HasBytes (put_line fields)
unfolding put_line
put_says (text ∷ digits ∷ []) =
    by_any HasBytes (ok_or (address_of text) bads.Address) _
    (λ address. by_any HasBytes (ok_or (bytes_of digits) bads.Hex) _ (λ bytes. by_any HasBytes (payload_of bytes) _ (λ payload. tt)))
put_says _ = tt

cancel_says : (fields : List (List ℕ)) → Holds HasBytes (cancel_line fields)
unfolding cancel_line
cancel_says (text ∷ number ∷ []) =
    by_any HasBytes (ok_or (number_of (2 ^ 32 - 1) number) bads.Number) _
    (λ id. by_any HasBytes (ok_or (address_of text) bads.Address) _ (λ address. tt))
cancel_says _ = tt

key_says : (fields : List (List ℕ)) → Holds HasBytes (key_line fields)
unfolding key_line
key_says (text ∷ digits ∷ []) =
    by_any HasBytes (ok_or (address_of text) bads.Address) _ (λ address. by_any HasBytes (ok_or (key_of digits) bads.Key) _ (λ key. tt))
key_says _ = tt

word_says : (fields : List (List ℕ)) → Holds HasBytes (by_word fields)
unfolding by_word
word_says [] = tt
word_says (word ∷ fields) =
    by_cond HasBytes (is_word word (codes "A")) (frame_line formats.A fields) _ (frame_says formats.A fields)
    (by_cond HasBytes (is_word word (codes "B")) (frame_line formats.B fields) _ (frame_says formats.B fields)
    (by_cond HasBytes (is_word word (codes "T")) (tick_line fields) _ (tick_says fields)
    (by_cond HasBytes (is_word word (codes "Q")) (put_line fields) _ (put_says fields)
    (by_cond HasBytes (is_word word (codes "X")) (cancel_line fields) _ (cancel_says fields)
    (by_cond HasBytes (is_word word (codes "K")) (key_line fields) (Err bads.Word) (key_says fields) tt)))))

line_says : (text : List ℕ) → Holds HasBytes (line_of text)
unfolding line_of
line_says text = by_cond HasBytes (nat_lt 1024 (length text)) (Err bads.TooLong) (by_word (fields_of text)) tt (word_says (fields_of text))

-- ---- what it tells

telegram_says : (format : Format) (at : ℕ) (bytes : List ℕ) (r : Result (List ℕ) FrameFault) → IsBytes bytes → decoded format bytes ≡ r
    → SaysBytes (told_by_event (heard_in format at r))
telegram_says format at bytes (Ok t) all is = telegrams_are_bytes format bytes t all ((frames_are_decoded format bytes t all).0 is)
telegram_says format at bytes (Err fault) all is = tt

event_says : (line : Line) → HasBytes line → SaysBytes (told_by line)
event_says (lines.Frame format at bytes) all = telegram_says format at bytes (decoded format bytes) all refl
event_says _ all = tt

reading_says : (r : Result Line BadLine) → Holds HasBytes r → SaysBytes (told_by_reading r)
reading_says (Ok line) all = event_says line all
reading_says (Err bad) all = tt

pub lines_say_bytes : LinesSayBytes
unfolding told_of
lines_say_bytes text = reading_says (line_of text) (line_says text)
