-- A whole state is read back from its text.
use Rattle.std.proofs.Common.{◌≡◌, ℕ, ◌+◌, ◌≤◌, true, false, List, [], ◌∷◌, ◌++◌, length, map, reverse, codes, Option, Some, None, Result, Ok, refl, ap, sym, ◌∙◌, arith, append_assoc}
use Rattle.std.specs.Prelude.{IfSome}
use Rattle.std.specs.List.{flat_map}
use Rattle.std.specs.Fmt.{decimal}
use Rattle.std.specs.Str.Lines.{lines}
use Rattle.std.proofs.lemmas.Bool.{cond-false, le-ltb}
use Rattle.std.proofs.lemmas.Bool.Decides.{nat_tests}
use Rattle.std.proofs.lemmas.List.{append-nil}
use Rattle.hex.specs.Hex.{encode_lower}
use Rattle.lists.specs.Each.{Each}
use Rattle.lists.proofs.Members.{each_append}
use Rattle.lists.proofs.StepLaws.{bind_ok}
use Rattle.plain_text.specs.Parts.{fields_of, is_word}
use Rattle.meter_address.specs.Address.{text_of}
use Rattle.meter_address.specs.Commission.{Commissioned}
use Rattle.afl_fragments.specs.Held.{Told, Piece, Tick, Clear}
use Rattle.command_queue.specs.declared.command.Command.{Command}
use Rattle.command_queue.specs.declared.window.Window.{Window}
use Rattle.command_queue.specs.declared.window.Window.TheVariants.{Idle, Waiting}
use Rattle.meter_slots.specs.declared.reading.Reading.{Reading}
use Rattle.meter_slots.specs.Journal.{Start, commission_of}
use Rattle.roster_file.specs.declared.fields.Version.TheVariants.{Two}
use Rattle.roster_file.specs.Roster.{entries_from, is_passed_over, meter_of, roster_of}
use Rattle.roster_file.specs.Text.{own_text, meter_text}
use Rattle.roster_file.proofs.RosterLines.{counted, none_left}
use Rattle.roster_file.proofs.ReadBack.{meter_back, meter_counts, meter_line, meter_word, meter_words, behind_meter, own_line, own_word, own_words, own_back, own_counts}
use Rattle.roster_file.proofs.Apart.{new_behind, room_before}
use Rattle.written_words.specs.Words.{IsWord, IsPrinted}
use Rattle.written_words.proofs.Words.{fields_joined, joined_printed, ended_line}
use Rattle.state_file.specs.declared.fault.StateFault.{StateFault}
use Rattle.state_file.specs.Rooms.{HasRoom}
use Rattle.state_file.specs.State.{with_line, with_lines}
use Rattle.state_file.specs.Text.{line_with, bytes_text, spelt, reading_line, reading_lines, mark_line, command_fields, commands_lines, start_lines, bare}
use Rattle.state_file.specs.Text.{IsSpeltReading, IsSpeltMark, IsSpeltCommand, IsTold}
use Rattle.state_file.specs.Whole.{Known, Progress, all_of, enlisted, headed, no_meters, of_roster, opens_meter, owned, read_more, starts_of, state_of}
use Rattle.state_file.specs.Written.{ended_text, block_text, state_text, IsStart, IsState}
use Rattle.state_file.proofs.LineBack.{reading_words, mark_words, command_words}
use Rattle.state_file.proofs.Telling.{each_made}
use Rattle.state_file.proofs.ReadBack.{lines_back, each_reverse}

-- ---- a line below a meter's line

-- it counts, it is neither a meter's line nor the end, and no newline is in it
record IsBelow (line : List ℕ) : Type 0 where
  counts : is_passed_over line ≡ false
  below : opens_meter (fields_of line) ≡ false
  more : is_word line (codes "end") ≡ false
  printed : IsPrinted line

line_below : (word : List ℕ) (fields : List (List ℕ)) → IsWord word → Each IsWord fields → is_word word (codes "meter") ≡ false
    → is_passed_over (line_with word fields) ≡ false → is_word (line_with word fields) (codes "end") ≡ false
    → IsBelow (line_with word fields)
line_below word fields is each other counts more = record {
  counts = counts;
  below = ap opens_meter (fields_joined word fields is each) ∙ other;
  more = more;
  printed = joined_printed word fields is each;
}

reading_below : (r : Reading) → IsSpeltReading r → IsBelow (reading_line r)
reading_below r is =
    line_below (codes "reading") (decimal r.at ∷ decimal r.counter ∷ bytes_text r.payload ∷ []) (record { passed = refl })
    (reading_words r is) refl (grind (arith, nat_tests)) refl

mark_below : (m : Told) → IsSpeltMark m → IsBelow (mark_line m)
mark_below (Piece part) is =
    line_below (codes "part") (encode_lower (spelt part) ∷ []) (record { passed = refl }) (mark_words part is) refl (grind (arith, nat_tests)) refl
mark_below Tick is = line_below (codes "tick") [] (record { passed = refl }) tt refl refl refl
mark_below Clear is = absurd is

waits_below : (d : Command) → IsSpeltCommand d → IsBelow (line_with (codes "waits") (command_fields d))
waits_below d is =
    line_below (codes "waits") (command_fields d) (record { passed = refl }) (command_words d is) refl (grind (arith, nat_tests)) refl

command_below : (d : Command) → IsSpeltCommand d → IsBelow (line_with (codes "command") (command_fields d))
command_below d is =
    line_below (codes "command") (command_fields d) (record { passed = refl }) (command_words d is) refl (grind (arith, nat_tests)) refl

-- ---- all of them

readings_below : (c : Start) (o : Option Reading) → IfSome o IsSpeltReading → Each IsBelow (reading_lines o)
readings_below c None is = tt
readings_below c (Some r) is = (reading_below r is, tt)

-- what holds of each line of a command holds of all these lines
pub commands_each : (P : List ℕ → Type 0)
    → ((d : Command) → IsSpeltCommand d → P (line_with (codes "waits") (command_fields d)) × P (line_with (codes "command") (command_fields d)))
    → (w : Window) (ds : List Command) → Each IsSpeltCommand ds → Each P (commands_lines w ds)
commands_each P one w [] each = tt
commands_each P one Idle (d ∷ ds) each = each_made IsSpeltCommand P (λ e. line_with (codes "command") (command_fields e)) (λ e is. (one e is).1) (d ∷ ds) each
commands_each P one (Waiting id) (d ∷ ds) each =
    ((one d each.0).0, each_made IsSpeltCommand P (λ e. line_with (codes "command") (command_fields e)) (λ e is. (one e is).1) ds each.1)

start_below : (c : Start) → IsTold c → Each IsBelow (start_lines c)
start_below c is =
    each_append IsBelow (reading_lines c.reading ++ map mark_line (reverse c.told)) (commands_lines c.orders.window c.orders.queue.commands)
    (each_append IsBelow (reading_lines c.reading) (map mark_line (reverse c.told)) (readings_below c c.reading is.reading)
    (each_made IsSpeltMark IsBelow mark_line mark_below (reverse c.told) (each_reverse c.told is.marks)))
    (commands_each IsBelow (λ d spelt. (waits_below d spelt, command_below d spelt)) c.orders.window c.orders.queue.commands is.commands)

-- ---- reading them one after another

first_read : (c e : Start) (line : List ℕ) (later : List (List ℕ)) → with_lines c (line ∷ later) ≡ Ok e
    → (d : Start) × (with_line c line ≡ Ok d) × (with_lines d later ≡ Ok e)
unfolding with_lines
first_read c e line later h = bind_ok (with_line c line) (λ d. with_lines d later) e h

abbrev at_meter : List Start → Start → Progress
at_meter before c = record { before = before; last = Some c }

more_read : (before : List Start) (c d : Start) (line : List ℕ) → IsBelow line → with_line c line ≡ Ok d
    → read_more (at_meter before c) line ≡ Ok (at_meter before d)
unfolding read_more
more_read before c d line is read = rw (is.below, read) refl

one_read : (n : ℕ) (p q : Progress) (line : List ℕ) (entries : List (ℕ × List ℕ)) (end : ℕ) → is_word line (codes "end") ≡ false
    → read_more p line ≡ Ok q → starts_of p ((n, line) ∷ entries) end ≡ starts_of q entries end
unfolding starts_of
one_read n p q line entries end is read = rw (is, read) refl

below_read : (before : List Start) (c e : Start) (ls rest : List (List ℕ)) (end : ℕ) (answer : Result (List Start) StateFault)
    → Each IsBelow ls → with_lines c ls ≡ Ok e
    → ((m : ℕ) → starts_of (at_meter before e) (entries_from m rest) end ≡ answer)
    → (n : ℕ) → starts_of (at_meter before c) (entries_from n (ls ++ rest)) end ≡ answer
unfolding with_lines
below_read before c e [] rest end answer each read later n =
    let same : c ≡ e = cc in
    ap (λ x. starts_of (at_meter before x) (entries_from n rest) end) same ∙ later n
below_read before c e (line ∷ ls) rest end answer each read later n =
    let first = first_read c e line ls read in
    ap (λ es. starts_of (at_meter before c) es end) (counted n line (ls ++ rest) each.0.counts)
    ∙ one_read n (at_meter before c) (at_meter before first.0) line (entries_from (n + 1) (ls ++ rest)) end each.0.more
    (more_read before c first.0 line each.0 first.1)
    ∙ below_read before first.0 e ls rest end answer each.1 first.2 later (n + 1)

-- ---- a meter's line

enlisted_behind : (before : List Start) (c : Start) (after : List Start) → HasRoom (before ++ c ∷ after)
    → enlisted before (commission_of c) ≡ Ok (at_meter before (bare c))
enlisted_behind before c after room =
    cond-false _ _ _ (new_behind (λ c. c.address) before c after room.apart)
    ∙ cond-false _ _ _ (room_before (λ c. c.address) before c after room.few)

opening_read : (p q : Progress) (line : List ℕ) (c : Commissioned) → opens_meter (fields_of line) ≡ true → meter_of Two line ≡ Ok c
    → enlisted (all_of p) c ≡ Ok q → read_more p line ≡ Ok q
unfolding read_more
opening_read p q line c opens is more = rw (opens, is, more) refl

opened_read : (p : Progress) (before : List Start) (c : Start) (after : List Start) → all_of p ≡ before → IsStart c
    → HasRoom (before ++ c ∷ after) → read_more p (meter_line (commission_of c)) ≡ Ok (at_meter before (bare c))
opened_read p before c after all is room =
    let k = commission_of c in
    opening_read p (at_meter before (bare c)) (meter_line k) k
    (ap opens_meter (fields_joined (codes "meter") (behind_meter k) meter_word (meter_words k is.commission)))
    (meter_back k is.commission) (ap (λ cs. enlisted cs k) all ∙ enlisted_behind before c after room)

abbrev block_lines : Start → List (List ℕ)
block_lines c = meter_line (commission_of c) ∷ start_lines c

-- ---- all meters

end_read : (n : ℕ) (p : Progress) (end : ℕ) → starts_of p (entries_from n (codes "end" ∷ [])) end ≡ Ok (all_of p)
unfolding starts_of
end_read n p end =
    ap (λ es. starts_of p es end) (counted n (codes "end") [] refl ∙ ap (λ es. (n, codes "end") ∷ es) (none_left (n + 1)))

meters_back : (p : Progress) (before after : List Start) (end : ℕ) → all_of p ≡ before → HasRoom (before ++ after) → Each IsStart after
    → (n : ℕ) → starts_of p (entries_from n (flat_map block_lines after ++ codes "end" ∷ [])) end ≡ Ok (before ++ after)
meters_back p before [] end all room each n = end_read n p end ∙ ap Ok (all ∙ sym (append-nil before))
meters_back p before (c ∷ after) end all room each n =
    let k = commission_of c in
    let rest = flat_map block_lines after ++ codes "end" ∷ [] in
    let same : (before ++ c ∷ []) ++ after ≡ before ++ c ∷ after = append_assoc before (c ∷ []) after in
    let lines_of : flat_map block_lines (c ∷ after) ++ codes "end" ∷ [] ≡ meter_line k ∷ (start_lines c ++ rest) =
    append_assoc (block_lines c) (flat_map block_lines after) (codes "end" ∷ []) in
    ap (λ ls. starts_of p (entries_from n ls) end) lines_of
    ∙ ap (λ es. starts_of p es end) (meter_counts k n (start_lines c ++ rest))
    ∙ one_read n p (at_meter before (bare c)) (meter_line k) (entries_from (n + 1) (start_lines c ++ rest)) end refl
    (opened_read p before c after all each.0 room)
    ∙ below_read before (bare c) c (start_lines c) rest end (Ok (before ++ c ∷ after)) (start_below c each.0.told) (lines_back c each.0.told)
    (λ m. meters_back (at_meter before c) (before ++ c ∷ []) after end refl (rw same room) each.1 m ∙ ap Ok same)
    (n + 1)

-- ---- the lines of the text

texts_lines : (ls : List (List ℕ)) (rest : List ℕ) → Each IsBelow ls → lines (flat_map ended_text ls ++ rest) ≡ ls ++ lines rest
texts_lines [] rest each = refl
texts_lines (l ∷ ls) rest each =
    ap lines (append_assoc (l ++ 10 ∷ []) (flat_map ended_text ls) rest)
    ∙ ended_line l (flat_map ended_text ls ++ rest) each.0.printed
    ∙ ap (λ x. l ∷ x) (texts_lines ls rest each.1)

block_read : (c : Start) (rest : List ℕ) → IsStart c → lines (block_text c ++ rest) ≡ block_lines c ++ lines rest
unfolding block_text meter_text
block_read c rest is =
    let k = commission_of c in
    ap lines (append_assoc (meter_line k ++ 10 ∷ []) (flat_map ended_text (start_lines c)) rest)
    ∙ ended_line (meter_line k) (flat_map ended_text (start_lines c) ++ rest)
    (joined_printed (codes "meter") (behind_meter k) meter_word (meter_words k is.commission))
    ∙ ap (λ x. meter_line k ∷ x) (texts_lines (start_lines c) rest (start_below c is.told))

blocks_read : (cs : List Start) (rest : List ℕ) → Each IsStart cs
    → lines (flat_map block_text cs ++ rest) ≡ flat_map block_lines cs ++ lines rest
blocks_read [] rest each = refl
blocks_read (c ∷ cs) rest each =
    ap lines (append_assoc (block_text c) (flat_map block_text cs) rest)
    ∙ block_read c (flat_map block_text cs ++ rest) each.0
    ∙ ap (λ x. block_lines c ++ x) (blocks_read cs rest each.1)
    ∙ sym (append_assoc (block_lines c) (flat_map block_lines cs) (lines rest))

abbrev head_line : List ℕ
head_line = codes "wmbus-state 1"

end_lines : lines (codes "end\n") ≡ codes "end" ∷ []
end_lines = ended_line (codes "end") [] (record { passed = refl })

state_lines : (s : Known) → IsState s
    → lines (state_text s) ≡ head_line ∷ own_line s.own ∷ (flat_map block_lines s.starts ++ codes "end" ∷ [])
unfolding state_text own_text
state_lines s is =
    let blocks = flat_map block_text s.starts in
    ap lines (append_assoc ((head_line ++ 10 ∷ []) ++ (own_line s.own ++ 10 ∷ [])) blocks (codes "end\n")
    ∙ append_assoc (head_line ++ 10 ∷ []) (own_line s.own ++ 10 ∷ []) (blocks ++ codes "end\n"))
    ∙ ended_line head_line ((own_line s.own ++ 10 ∷ []) ++ (blocks ++ codes "end\n")) (record { passed = refl })
    ∙ ap (λ ls. head_line ∷ ls) (ended_line (own_line s.own) (blocks ++ codes "end\n")
    (joined_printed (codes "own") (text_of s.own ∷ []) own_word (own_words s.own)))
    ∙ ap (λ ls. head_line ∷ own_line s.own ∷ ls) (blocks_read s.starts (codes "end\n") is.each
    ∙ ap (λ ls. flat_map block_lines s.starts ++ ls) end_lines)

-- ---- the whole

owned_back : (s : Known) (n end : ℕ) → IsState s
    → owned ((n, own_line s.own) ∷ entries_from (n + 1) (flat_map block_lines s.starts ++ codes "end" ∷ [])) end ≡ Ok s
unfolding owned
owned_back s n end is = rw (own_back s.own is.own, meters_back no_meters [] s.starts end refl (record { few = is.few; apart = is.apart }) is.each (n + 1)) refl

headed_back : (s : Known) (end : ℕ) (otherwise : Result Known StateFault) → IsState s
    → headed (entries_from 1 (head_line ∷ own_line s.own ∷ (flat_map block_lines s.starts ++ codes "end" ∷ []))) end otherwise ≡ Ok s
unfolding headed
headed_back s end otherwise is =
    let rest = flat_map block_lines s.starts ++ codes "end" ∷ [] in
    rw (counted 1 head_line (own_line s.own ∷ rest) refl, own_counts s.own 2 rest) (owned_back s 2 end is)

pub read_where_short : (s : Known) → IsState s → length (state_text s) ≤ 134217728 → state_of (state_text s) ≡ Ok s
unfolding state_of
read_where_short s is few =
    let n : ℕ = length (lines (state_text s)) + 1 in
    let otherwise = of_roster (roster_of (state_text s)) in
    cond-false _ _ _ (le-ltb 134217728 (length (state_text s)) few)
    ∙ ap (λ ls. headed (entries_from 1 ls) n otherwise) (state_lines s is)
    ∙ headed_back s n otherwise is
