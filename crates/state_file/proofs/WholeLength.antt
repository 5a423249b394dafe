-- How long the text of a state is.
use Rattle.std.proofs.Common.{◌≡◌, ℕ, ◌+◌, ◌*◌, ◌≤◌, Bool, true, false, List, [], ◌∷◌, ◌++◌, length, map, reverse, codes, Option, Some, None, ap, ◌∙◌, arith, length-append}
use Rattle.std.specs.Prelude.{IfSome, is_some}
use Rattle.std.specs.List.{flat_map}
use Rattle.std.specs.Fmt.{decimal}
use Rattle.std.proofs.lemmas.Fmt.{length-decimal-le}
use Rattle.std.proofs.lemmas.Grind.{flat_map-append}
use Rattle.std.proofs.lemmas.List.{length-map, length-reverse}
use Rattle.hex.specs.Hex.{encode_lower, lower_digits}
use Rattle.hex.proofs.HexLemmas.{length-encode_with}
use Rattle.lists.specs.Each.{Each}
use Rattle.std.specs.Int.{w16, w32, to_le_bytes}
use Rattle.afl_layer.specs.Fields.{where_so, field_bytes, one_byte, fcl_of, fields_bytes}
use Rattle.afl_layer.specs.Header.{afl_bytes}
use Rattle.afl_layer.proofs.FieldLaws.{length-one, length-two, length-four, length-eight}
use Rattle.afl_fragments.specs.Fragment.{Fragment}
use Rattle.afl_fragments.specs.Held.{Told, Piece, Tick, Clear}
use Rattle.command_queue.specs.declared.command.Command.{Command}
use Rattle.meter_slots.specs.declared.reading.Reading.{Reading}
use Rattle.meter_slots.specs.Journal.{Start, commission_of}
use Rattle.roster_file.specs.Text.{own_text, meter_text}
use Rattle.roster_file.proofs.ReadBack.{words_len, number_len, meter_len, own_len}
use Rattle.state_file.specs.Text.{line_with, bytes_text, spelt, reading_line, reading_lines, mark_line, command_fields, commands_lines, start_lines}
use Rattle.state_file.specs.Text.{IsSpeltReading, IsSpeltPart, IsSpeltMark, IsSpeltCommand}
use Rattle.state_file.specs.Whole.{Known}
use Rattle.state_file.specs.Written.{ended_text, block_text, state_text, IsStart, IsState, WrittenAreRead}
use Rattle.state_file.proofs.ReadBack.{each_reverse}
use Rattle.state_file.proofs.StatePieces.{commands_count}
use Rattle.state_file.proofs.Telling.{each_made}
use Rattle.state_file.proofs.WholeBack.{commands_each, read_where_short}

-- ---- lines

where_le : (b : Bool) (n : ℕ) → where_so b n ≤ n
where_le true n = omega arith
where_le false n = omega arith

spelt_len : (part : Fragment) → IsSpeltPart part → length (spelt part) ≤ 263
spelt_len part is =
    let a = part.afl in
    let mcl = field_bytes one_byte a.mcl in
    let ki = field_bytes (to_le_bytes w16) a.ki in
    let mcr = field_bytes (to_le_bytes w32) a.mcr in
    let mac = field_bytes (λ (m : List ℕ). m) a.mac in
    let ml = field_bytes (to_le_bytes w16) a.ml in
    let l1 = length-one a.mcl in
    let l2 = length-two a.ki in
    let l3 = length-four a.mcr in
    let l4 = length-eight a.mac is.fits.mac in
    let l5 = length-two a.ml in
    let w1 = where_le (is_some a.mcl) 1 in
    let w2 = where_le (is_some a.ki) 2 in
    let w3 = where_le (is_some a.mcr) 4 in
    let w4 = where_le (is_some a.mac) 8 in
    let w5 = where_le (is_some a.ml) 2 in
    let a1 = length-append mcl (ki ++ (mcr ++ (mac ++ ml))) in
    let a2 = length-append ki (mcr ++ (mac ++ ml)) in
    let a3 = length-append mcr (mac ++ ml) in
    let a4 = length-append mac ml in
    let word = length-two (Some (fcl_of a)) in
    let a5 = length-append (to_le_bytes w16 (fcl_of a)) (fields_bytes a) in
    let a6 = length-append (afl_bytes (fcl_of a) a) part.bytes in
    let most = is.most in
    omega arith

mark_len : (m : Told) → IsSpeltMark m → length (mark_line m) ≤ 531
mark_len (Piece part) is =
    omega (arith, words_len (codes "part") (encode_lower (spelt part) ∷ []), length-encode_with lower_digits (spelt part), spelt_len part is)
mark_len Tick is = omega arith
mark_len Clear is = absurd is

bytes_len : (bytes : List ℕ) → length bytes ≤ 4096 → length (bytes_text bytes) ≤ 8192
bytes_len [] few = omega arith
bytes_len (b ∷ bytes) few = omega (arith, length-encode_with lower_digits (b ∷ bytes))

reading_len : (r : Reading) → IsSpeltReading r → length (reading_line r) ≤ 8240
reading_len r is =
    let all = words_len (codes "reading") (decimal r.at ∷ decimal r.counter ∷ bytes_text r.payload ∷ []) in
    let small = is.at in
    let at = length-decimal-le 20 r.at (omega arith) (omega arith) (omega arith) in
    let counter = number_len r.counter is.counter in
    let payload = bytes_len r.payload is.most in
    omega arith

command_len : (word : List ℕ) (d : Command) → length word ≤ 7 → IsSpeltCommand d → length (line_with word (command_fields d)) ≤ 531
command_len word d short is =
    let all = words_len word (command_fields d) in
    let id = number_len d.id is.id in
    let few = is.tries in
    let tries = number_len d.tries (omega arith) in
    let digits = length-encode_with lower_digits d.payload in
    let most = is.most in
    omega arith

-- ---- lines with their newlines

ended_len : (line : List ℕ) (rest : List ℕ) → length (ended_text line ++ rest) ≡ length line + 1 + length rest
ended_len line rest = let one = length-append (line ++ 10 ∷ []) rest in let two = length-append line (10 ∷ []) in omega arith

texts_split : (xs ys : List (List ℕ)) → length (flat_map ended_text (xs ++ ys)) ≡ length (flat_map ended_text xs) + length (flat_map ended_text ys)
texts_split xs ys = ap length (flat_map-append ended_text xs ys) ∙ length-append (flat_map ended_text xs) (flat_map ended_text ys)

readings_len : (o : Option Reading) → IfSome o IsSpeltReading → length (flat_map ended_text (reading_lines o)) ≤ 8241
readings_len None is = omega arith
readings_len (Some r) is = let one = ended_len (reading_line r) [] in let most = reading_len r is in omega arith

lines_len : (ls : List (List ℕ)) → Each (λ l. length l ≤ 531) ls → length (flat_map ended_text ls) ≤ 532 * length ls
lines_len [] each = omega arith
lines_len (l ∷ ls) each =
    let one = ended_len l (flat_map ended_text ls) in
    let most = each.0 in
    let rest = lines_len ls each.1 in
    omega arith

-- ---- meters

block_len : (c : Start) → IsStart c → length (block_text c) ≤ 21800
unfolding block_text
block_len c is =
    let marks = map mark_line (reverse c.told) in
    let commands = commands_lines c.orders.window c.orders.queue.commands in
    let whole = length-append (meter_text (commission_of c)) (flat_map ended_text (start_lines c)) in
    let line = meter_len (commission_of c) is.commission in
    let one = texts_split (reading_lines c.reading ++ marks) commands in
    let two = texts_split (reading_lines c.reading) marks in
    let read = readings_len c.reading is.told.reading in
    let told = lines_len marks (each_made IsSpeltMark _ mark_line mark_len (reverse c.told) (each_reverse c.told is.told.marks)) in
    let same = length-map (reverse c.told) mark_line in
    let turned = length-reverse c.told in
    let few = is.few in
    let put = lines_len commands (commands_each (λ l. length l ≤ 531)
    (λ d spelt. (command_len (codes "waits") d (omega arith) spelt, command_len (codes "command") d (omega arith) spelt))
    c.orders.window c.orders.queue.commands is.told.commands) in
    let as_many = commands_count c.orders.window c.orders.queue.commands in
    let eight = is.told.sound.few in
    omega arith

blocks_len : (cs : List Start) → Each IsStart cs → length (flat_map block_text cs) ≤ 21800 * length cs
blocks_len [] each = omega arith
blocks_len (c ∷ cs) each =
    let one = block_len c each.0 in
    let others = blocks_len cs each.1 in
    let all = length-append (block_text c) (flat_map block_text cs) in
    omega arith

-- 90 million bytes at most
state_len : (s : Known) → IsState s → length (state_text s) ≤ 134217728
unfolding state_text
state_len s is =
    let blocks = flat_map block_text s.starts in
    let front = length-append (codes "wmbus-state 1\n") (own_text s.own) in
    let most = length-append (codes "wmbus-state 1\n" ++ own_text s.own) blocks in
    let all = length-append ((codes "wmbus-state 1\n" ++ own_text s.own) ++ blocks) (codes "end\n") in
    let own = own_len s.own in
    let meters = blocks_len s.starts is.each in
    let few = is.few in
    omega arith

pub written_is_read : WrittenAreRead
written_is_read s is = read_where_short s is (state_len s is)
