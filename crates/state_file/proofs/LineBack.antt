-- A line of a meter is read back.
use Rattle.std.proofs.Common.{◌≡◌, ℕ, ◌-◌, ◌/◌, ◌^◌, ◌≤◌, ◌==◌, ◌&&◌, nat_le, true, false, cond, List, [], ◌∷◌, ◌++◌, length, drop, get_or, codes, Some, None, Ok, refl, ap, sym, ◌∙◌, arith}
use Rattle.std.specs.Option.{ok_or}
use Rattle.std.specs.Result.{result_ok}
use Rattle.std.specs.Fmt.{decimal}
use Rattle.std.proofs.lemmas.Bool.{and_from, and_right, cond-true, le-leb}
use Rattle.hex.specs.Hex.{encode_lower, encode_with, decode_of, lower_digits, IsBytes}
use Rattle.hex.proofs.HexLemmas.{decode_of-encode_lower}
use Rattle.lists.specs.Each.{Each}
use Rattle.lists.specs.Steps.{◌>>=◌}
use Rattle.plain_text.specs.Parts.{is_word}
use Rattle.afl_layer.specs.declared.header.Afl.{Afl}
use Rattle.afl_layer.specs.Fields.{is_fragment, fcl_of, fields_bytes}
use Rattle.afl_layer.specs.Header.{afl_bytes, afl_at}
use Rattle.std.specs.Int.{w16, to_le_bytes}
use Rattle.std.proofs.lemmas.List.{length-append}
use Rattle.afl_layer.proofs.FieldLaws.{length-two}
use Rattle.afl_layer.proofs.FclLaws.{written_again}
use Rattle.afl_fragments.specs.Fragment.{Fragment, IsFragment}
use Rattle.afl_fragments.specs.Held.{Told, Piece, Tick, Clear}
use Rattle.afl_fragments.specs.Short.{told_of, cut_down}
use Rattle.afl_fragments.proofs.Shortening.{cut_holds, held_goes_on}
use Rattle.command_queue.specs.declared.command.Command.{Command}
use Rattle.meter_slots.specs.declared.reading.Reading.{Reading}
use Rattle.meter_slots.specs.Journal.{Start}
use Rattle.written_words.specs.Words.{IsWord}
use Rattle.written_words.proofs.Words.{hex_word, number_above, fields_joined}
use Rattle.written_words.proofs.Numbers.{number_back}
use Rattle.state_file.specs.declared.cause.StateCause.TheVariants as causes
use Rattle.state_file.specs.State.{bytes_in, payload_in, reading_of, with_reading_in, fragment_with, fragment_of, fragment_in, part_of, with_part}
use Rattle.state_file.specs.State.{command_bytes, command_of, with_command, with_fields, with_line, with_lines}
use Rattle.state_file.specs.Text.{line_with, bytes_text, reading_line, spelt, mark_line, command_fields}
use Rattle.state_file.specs.Text.{IsSpeltReading, IsSpeltPart, IsSpeltMark, IsSpeltCommand}

pub next : (c d : Start) (line : List ℕ) (rest : List (List ℕ)) → with_line c line ≡ Ok d → with_lines c (line ∷ rest) ≡ with_lines d rest
unfolding with_lines
next c d line rest h = ap (λ r. r >>= λ e. with_lines e rest) h

-- ---- a reading

no_dash : (b : ℕ) (bytes : List ℕ) → is_word (encode_lower (b ∷ bytes)) (codes "-") ≡ false
unfolding encode_with
no_dash b bytes = and_right (get_or lower_digits (b / 16) 0 == 45) false refl

bytes_back : (bytes : List ℕ) → IsBytes bytes → bytes_in (bytes_text bytes) ≡ Some bytes
bytes_back [] is = refl
bytes_back (b ∷ bytes) is =
    ap (λ t. cond t (Some []) (result_ok (decode_of (encode_lower (b ∷ bytes))))) (no_dash b bytes)
    ∙ ap result_ok (decode_of-encode_lower (b ∷ bytes) is)

payload_back : (bytes : List ℕ) → IsBytes bytes → length bytes ≤ 4096 → payload_in (bytes_text bytes) (bytes_in (bytes_text bytes)) ≡ Some bytes
payload_back bytes is most =
    ap (payload_in (bytes_text bytes)) (bytes_back bytes is) ∙ cond-true _ _ None (le-leb (length bytes) 4096 most)

reading_of_back : (r : Reading) → IsSpeltReading r
    → reading_of (decimal r.at ∷ decimal r.counter ∷ bytes_text r.payload ∷ []) ≡ Ok r
unfolding reading_of
reading_of_back r is =
    let at = is.at in
    let counter = is.counter in
    rw (
      number_back (2 ^ 64 - 1) r.at (omega arith) (omega arith),
      number_back (2 ^ 32 - 1) r.counter (omega arith) (omega arith),
      payload_back r.payload is.bytes is.most,
    ) refl

bytes_word : (bytes : List ℕ) → IsBytes bytes → IsWord (bytes_text bytes)
bytes_word [] is = record { passed = refl }
bytes_word (b ∷ bytes) is = hex_word (b ∷ bytes) is

pub reading_words : (r : Reading) → IsSpeltReading r
    → Each IsWord (decimal r.at ∷ decimal r.counter ∷ bytes_text r.payload ∷ [])
reading_words r is = (number_above 32 r.at (omega arith), (number_above 32 r.counter (omega arith), (bytes_word r.payload is.bytes, tt)))

pub reading_back : (c : Start) (r : Reading) → c.reading ≡ None → IsSpeltReading r
    → with_line c (reading_line r) ≡ Ok (record c { reading = Some r })
reading_back c r none is =
    let fields = decimal r.at ∷ decimal r.counter ∷ bytes_text r.payload ∷ [] in
    ap (with_fields c) (fields_joined (codes "reading") fields (record { passed = refl }) (reading_words r is))
    ∙ ap (λ o. with_reading_in c o fields) none
    ∙ ap (λ x. x >>= λ s. Ok (record c { reading = Some s })) (reading_of_back r is)

-- ---- a fragment, and a tick

behind : (xs ys : List ℕ) → drop (length xs) (xs ++ ys) ≡ ys
behind [] ys = refl
behind (x ∷ xs) ys = behind xs ys

header_len : (a : Afl) → IsFragment a → a.len ≡ length (afl_bytes (fcl_of a) a)
header_len a is =
    let words = length-append (to_le_bytes w16 (fcl_of a)) (fields_bytes a) in
    let two = length-two (Some (fcl_of a)) in
    let all = is.len in
    omega arith

header_back : (part : Fragment) → IsSpeltPart part → afl_at (spelt part) ≡ Ok part.afl
header_back part is =
    let n = length (afl_bytes (fcl_of part.afl) part.afl) in
    written_again (afl_bytes (fcl_of part.afl) part.afl) part.bytes part.afl n refl refl is.fits
    (record { fields = is.fragment.placed; fid = is.fragment.numbered })
    ∙ ap (λ m. Ok (record part.afl { len = m })) (sym (header_len part.afl is.fragment))

piece_back : (part : Fragment) → IsSpeltPart part → drop part.afl.len (spelt part) ≡ part.bytes
piece_back part is =
    ap (λ m. drop m (spelt part)) (header_len part.afl is.fragment) ∙ behind (afl_bytes (fcl_of part.afl) part.afl) part.bytes

fragment_back : (part : Fragment) → IsSpeltPart part → fragment_of (spelt part) ≡ Some part
unfolding fragment_of
fragment_back part is =
    let a = part.afl in
    let tests = and_from _ _ (and_from _ _ is.fragment.fragment (le-leb a.fid 16 is.few)) (le-leb (length part.bytes) 242 is.most) in
    ap (fragment_with (spelt part)) (header_back part is)
    ∙ ap (λ b. cond (is_fragment a && nat_le a.fid 16 && nat_le (length b) 242) (Some (record { afl = a; bytes = b })) None)
    (piece_back part is)
    ∙ cond-true _ (Some part) None tests

part_back : (part : Fragment) → IsSpeltPart part → part_of (encode_lower (spelt part) ∷ []) ≡ Ok part
unfolding part_of
part_back part is =
    ap (λ o. ok_or (fragment_in o) causes.Part) (ap result_ok (decode_of-encode_lower (spelt part) is.bytes))
    ∙ ap (λ o. ok_or o causes.Part) (fragment_back part is)

-- what comes after a history that was cut down
short_on : (m : Told) (told before : List Told) → told ≡ cut_down before → cut_down (m ∷ told) ≡ cut_down (m ∷ before)
short_on m told before e =
    ap (λ t. cut_down (m ∷ t)) e ∙ ap told_of (held_goes_on (m ∷ []) (cut_down before) before (cut_holds before))

pub mark_words : (part : Fragment) → IsSpeltPart part → Each IsWord (encode_lower (spelt part) ∷ [])
mark_words part is = (hex_word (spelt part) is.bytes, tt)

pub mark_back : (c : Start) (before : List Told) (m : Told) → c.told ≡ cut_down before → IsSpeltMark m
    → with_line c (mark_line m) ≡ Ok (record c { told = cut_down (m ∷ before) })
mark_back c before (Piece part) e is =
    ap (with_fields c) (fields_joined (codes "part") (encode_lower (spelt part) ∷ []) (record { passed = refl }) (mark_words part is))
    ∙ ap (λ r. r >>= λ p. Ok (with_part c p)) (part_back part is)
    ∙ ap (λ t. Ok (record c { told = t })) (short_on (Piece part) c.told before e)
mark_back c before Tick e is =
    ap (with_fields c) (fields_joined (codes "tick") [] (record { passed = refl }) tt)
    ∙ ap (λ t. Ok (record c { told = t })) (short_on Tick c.told before e)
mark_back c before Clear e is = absurd is

-- ---- a command

command_of_back : (d : Command) → IsSpeltCommand d → command_of (command_fields d) ≡ Ok d
unfolding command_of
command_of_back d is =
    let small = is.id in
    let read : command_bytes (result_ok (decode_of (encode_lower d.payload))) ≡ Some d.payload =
    ap (λ r. command_bytes (result_ok r)) (decode_of-encode_lower d.payload is.bytes)
    ∙ cond-true _ _ None (and_from _ _ (le-leb 1 (length d.payload) is.least) (le-leb (length d.payload) 94 is.most)) in
    rw (number_back (2 ^ 32 - 1) d.id (omega arith) (omega arith), number_back 3 d.tries (omega arith) is.tries, read) refl

pub command_words : (d : Command) → IsSpeltCommand d → Each IsWord (command_fields d)
command_words d is = (number_above 32 d.id (omega arith), (number_above 32 d.tries (omega arith), (hex_word d.payload is.bytes, tt)))

pub waits_back : (c : Start) (d : Command) → IsSpeltCommand d → with_line c (line_with (codes "waits") (command_fields d)) ≡ with_command c true d
waits_back c d is =
    ap (with_fields c) (fields_joined (codes "waits") (command_fields d) (record { passed = refl }) (command_words d is))
    ∙ ap (λ r. r >>= with_command c true) (command_of_back d is)

pub command_back : (c : Start) (d : Command) → IsSpeltCommand d
    → with_line c (line_with (codes "command") (command_fields d)) ≡ with_command c false d
command_back c d is =
    ap (with_fields c) (fields_joined (codes "command") (command_fields d) (record { passed = refl }) (command_words d is))
    ∙ ap (λ r. r >>= with_command c false) (command_of_back d is)
