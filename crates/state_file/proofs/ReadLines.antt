-- A line below a meter's line leaves what can be told.
use Rattle.std.proofs.Common.{◌≡◌, ℕ, ◌-◌, ◌^◌, ◌≤◌, ◌==◌, ◌&&◌, nat_le, zero, suc, Bool, true, false, cond, List, [], ◌∷◌, ◌++◌, length, drop, codes, Option, Some, None, Result, Ok, Err, refl, ap, sym, subst, ◌∙◌, arith, inl, inr}
use Rattle.std.specs.Prelude.{slice_get, slice_index}
use Rattle.std.specs.Result.{result_ok}
use Rattle.std.proofs.lemmas.Bool.{and_parts, cond-true, eqb-true, leb-true}
use Rattle.std.proofs.lemmas.Bool.Decides.{nat_tests}
use Rattle.std.proofs.lemmas.List.{drop_at}
use Rattle.std.proofs.lemmas.Option.{same_Some}
use Rattle.hex.specs.Hex.{decode_of, IsBytes}
use Rattle.hex.specs.declared.error.FromHexError.{FromHexError}
use Rattle.hex.proofs.HexLemmas.{decode_of-ok}
use Rattle.lists.proofs.Choices.{chosen, some_if}
use Rattle.lists.proofs.Members.{each_push}
use Rattle.plain_text.specs.Numbers.{number_of}
use Rattle.plain_text.specs.Parts.{fields_of, is_word}
use Rattle.afl_layer.specs.declared.header.Afl.{Afl}
use Rattle.afl_layer.specs.declared.header.AflFault.{AflFault}
use Rattle.afl_layer.specs.Fields.{is_fragment, fcl_of}
use Rattle.afl_layer.specs.Header.{BeginsWithAfl, afl_at, afl_bytes}
use Rattle.afl_layer.proofs.HeaderLaws.{takes}
use Rattle.afl_fragments.specs.Fragment.{Fragment}
use Rattle.afl_fragments.specs.Held.{Told, Piece, Tick, held}
use Rattle.afl_fragments.specs.Short.{told_of, cut_down}
use Rattle.afl_fragments.proofs.Shortening.{cut_holds}
use Rattle.command_queue.specs.declared.command.Command.{Command}
use Rattle.command_queue.specs.Pending.{IsSound, may_follow, with_follower}
use Rattle.command_queue.proofs.Moves.{sound_follower}
use Rattle.meter_slots.specs.declared.reading.Reading.{Reading}
use Rattle.meter_slots.specs.Journal.{Start}
use Rattle.meter_slots.specs.Restoring.{window_fits, window_for, may_restore, with_restored, restored}
use Rattle.meter_slots.proofs.Restorings.{agrees_waiting, agrees_still}
use Rattle.command_queue.specs.Orders.{Orders, Agrees}
use Rattle.state_file.specs.declared.cause.StateCause.TheVariants as causes
use Rattle.state_file.specs.State.{bytes_in, payload_in, reading_of, with_reading_in, fragment_with, fragment_of, fragment_in, part_of, with_part, with_part_in, with_tick, command_bytes, command_of, with_command, with_command_in, with_fields, with_line}
use Rattle.state_file.specs.Text.{spelt, IsSpeltReading, IsSpeltPart, IsSpeltMark, IsSpeltCommand}
use Rattle.state_file.specs.Written.{IsStart}
use Rattle.state_file.proofs.Telling.{marks_told, told_len}
use Rattle.roster_file.proofs.Gives.{Gives, gives_ok, gives_err, gives_where, gives_then, gives_some, gives_field}
use Rattle.roster_file.proofs.Enrolling.{number_within}
use Rattle.state_file.proofs.ReadHeld.{held_spelt, few_held}

-- it can be told, and has the address of another
pub record Stays (c d : Start) : Type 0 where
  pub start : IsStart d
  pub same : d.address ≡ c.address

-- what is read of hexadecimal digits are bytes
decoded : (text bytes : List ℕ) (d : Result (List ℕ) FromHexError) → decode_of text ≡ d → result_ok d ≡ Some bytes → IsBytes bytes
decoded text bytes (Ok read) is h = let same : read ≡ bytes = cc in subst IsBytes same (decode_of-ok text read is).3
decoded text bytes (Err e) is h = absurd cc

-- ---- a reading

bytes_fit : (text bytes : List ℕ) → bytes_in text ≡ Some bytes → IsBytes bytes
bytes_fit text bytes h = elim (chosen (is_word text (codes "-")) (Some []) (result_ok (decode_of text)) (Some bytes) h) [
  | inl none ↦ subst IsBytes (same_Some _ _ none.1) (λ i. omega arith)
  | inr given ↦ decoded text bytes (decode_of text) refl given.1
]

payload_fits : (text payload : List ℕ) (o : Option (List ℕ)) → bytes_in text ≡ o → payload_in text o ≡ Some payload
    → IsBytes payload × (length payload ≤ 4096)
payload_fits text payload None is h = absurd cc
payload_fits text payload (Some bytes) is h =
    let test = some_if (nat_le (length bytes) 4096) bytes payload h in
    subst (λ xs. IsBytes xs × (length xs ≤ 4096)) test.1 (bytes_fit text bytes is, leb-true (length bytes) 4096 test.0)

reading_fits : (fields : List (List ℕ)) → Gives IsSpeltReading (reading_of fields)
unfolding reading_of
reading_fits [] = gives_err IsSpeltReading _
reading_fits (a ∷ []) = gives_err IsSpeltReading _
reading_fits (a ∷ n ∷ []) = gives_err IsSpeltReading _
reading_fits (a ∷ n ∷ p ∷ []) =
    gives_field IsSpeltReading (number_of (2 ^ 64 - 1) a) causes.At _ (λ at is_at.
    gives_field IsSpeltReading (number_of (2 ^ 32 - 1) n) causes.Counter _ (λ counter is_counter.
    gives_field IsSpeltReading (payload_in p (bytes_in p)) causes.Payload _ (λ payload is_payload.
    let at_within = number_within (2 ^ 64 - 1) a at is_at in
    let counter_within = number_within (2 ^ 32 - 1) n counter is_counter in
    let fits = payload_fits p payload (bytes_in p) refl is_payload in
    gives_ok IsSpeltReading (record { at = at; counter = counter; payload = payload })
    (record { at = omega arith; counter = omega arith; bytes = fits.0; most = fits.1 }))))
reading_fits (a ∷ n ∷ p ∷ q ∷ more) = gives_err IsSpeltReading _

start_read : (c : Start) (r : Reading) → IsStart c → IsSpeltReading r → IsStart (record c { reading = Some r })
start_read c r is reading = record {
  commission = is.commission;
  told = record {
    reading = reading;
    marks = is.told.marks;
    short = is.told.short;
    commands = is.told.commands;
    sound = is.told.sound;
    agrees = is.told.agrees;
  };
  few = is.few;
}

reading_leaves : (c : Start) (o : Option Reading) (fields : List (List ℕ)) → IsStart c → Gives (Stays c) (with_reading_in c o fields)
reading_leaves c None fields is =
    gives_then (Stays c) (reading_of fields) _ (λ r h.
    gives_ok (Stays c) (record c { reading = Some r }) (record { start = start_read c r is (reading_fits fields r h); same = refl }))
reading_leaves c (Some before) fields is = gives_err (Stays c) _

-- ---- a fragment, and a tick

-- the same header with other unused bits, before the same bytes
other_bits : (fcl other : ℕ) (a : Afl) (rest : List ℕ) → IsBytes (afl_bytes fcl a ++ rest) → IsBytes (afl_bytes other a ++ rest)
other_bits fcl other a rest is zero = is zero
other_bits fcl other a rest is (suc zero) = is (suc zero)
other_bits fcl other a rest is (suc (suc zero)) = omega arith
other_bits fcl other a rest is (suc (suc (suc zero))) = omega arith
other_bits fcl other a rest is (suc (suc (suc (suc i)))) = is (suc (suc (suc (suc i))))

spelt_bytes : (bytes : List ℕ) (a : Afl) → IsBytes bytes → BeginsWithAfl bytes a
    → IsBytes (spelt (record { afl = a; bytes = drop a.len bytes }))
spelt_bytes bytes a is begins =
    let behind : drop a.len bytes ≡ begins.rest =
    ap (drop a.len) begins.parts ∙ drop_at (afl_bytes begins.fcl a) begins.rest a.len (sym begins.len) in
    subst (λ rest. IsBytes (afl_bytes (fcl_of a) a ++ rest)) (sym behind)
    (other_bits begins.fcl (fcl_of a) a begins.rest (subst IsBytes begins.parts is))

spelt_part : (bytes : List ℕ) (a : Afl) → IsBytes bytes → BeginsWithAfl bytes a → is_fragment a ≡ true → a.fid ≤ 16
    → length (drop a.len bytes) ≤ 242 → IsSpeltPart (record { afl = a; bytes = drop a.len bytes })
spelt_part bytes a is begins fragment few most = record {
  fragment = record {
    fragment = fragment;
    numbered = begins.placed.fid;
    placed = begins.placed.fields;
    len = (let len = begins.len in omega arith);
  };
  few = few;
  fits = begins.fits;
  most = most;
  bytes = spelt_bytes bytes a is begins;
}

first_is : (bytes : List ℕ) → (slice_index bytes 0 == 0x90) ≡ true → slice_get bytes 0 ≡ Some 0x90
first_is [] h = absurd (grind (arith, nat_tests))
first_is (x ∷ xs) h = ap Some (eqb-true x 0x90 h)

with_header : (bytes : List ℕ) (part : Fragment) (r : Result Afl AflFault) → afl_at bytes ≡ r → IsBytes bytes
    → slice_get bytes 0 ≡ Some 0x90 → fragment_with bytes r ≡ Some part → IsSpeltPart part
with_header bytes part (Err fault) at is first given = absurd cc
with_header bytes part (Ok a) at is first given =
    let made : Fragment = record { afl = a; bytes = drop a.len bytes } in
    let test = some_if (is_fragment a && nat_le a.fid 16 && nat_le (length (drop a.len bytes)) 242) made part given in
    let most = and_parts (is_fragment a && nat_le a.fid 16) (nat_le (length (drop a.len bytes)) 242) test.0 in
    let few = and_parts (is_fragment a) (nat_le a.fid 16) most.0 in
    subst IsSpeltPart test.1
    (spelt_part bytes a is (takes bytes a first is at) few.0 (leb-true a.fid 16 few.1) (leb-true (length (drop a.len bytes)) 242 most.1))

fragment_fits : (bytes : List ℕ) (part : Fragment) → IsBytes bytes → fragment_of bytes ≡ Some part → IsSpeltPart part
unfolding fragment_of
fragment_fits bytes part is h =
    elim (chosen (slice_index bytes 0 == 0x90) (fragment_with bytes (afl_at bytes)) None (Some part) h) [
      | inl begins ↦ with_header bytes part (afl_at bytes) refl is (first_is bytes begins.0) begins.1
      | inr other ↦ cc other.1
    ]

fragment_in_fits : (text : List ℕ) (part : Fragment) (o : Option (List ℕ)) → result_ok (decode_of text) ≡ o → fragment_in o ≡ Some part
    → IsSpeltPart part
fragment_in_fits text part None read h = absurd cc
fragment_in_fits text part (Some bytes) read h = fragment_fits bytes part (decoded text bytes (decode_of text) refl read) h

part_fits : (fields : List (List ℕ)) → Gives IsSpeltPart (part_of fields)
unfolding part_of
part_fits [] = gives_err IsSpeltPart _
part_fits (text ∷ []) = gives_some IsSpeltPart _ causes.Part (λ part h. fragment_in_fits text part (result_ok (decode_of text)) refl h)
part_fits (text ∷ next ∷ more) = gives_err IsSpeltPart _

start_told : (c : Start) (m : Told) → IsStart c → IsSpeltMark m → IsStart (record c { told = cut_down (m ∷ c.told) })
start_told c m is mark =
    let spelt = held_spelt (m ∷ c.told) (mark, is.told.marks) in
    record {
      commission = is.commission;
      told = record {
        reading = is.told.reading;
        marks = marks_told (held (m ∷ c.told)) spelt;
        short = ap told_of (cut_holds (m ∷ c.told));
        commands = is.told.commands;
        sound = is.told.sound;
        agrees = is.told.agrees;
      };
      few = told_len (held (m ∷ c.told)) (few_held (m ∷ c.told) spelt);
    }

part_leaves : (c : Start) (fields : List (List ℕ)) → IsStart c → Gives (Stays c) (with_part_in c fields)
part_leaves c fields is =
    gives_then (Stays c) (part_of fields) _ (λ part h.
    gives_ok (Stays c) (with_part c part) (record { start = start_told c (Piece part) is (part_fits fields part h); same = refl }))

tick_leaves : (c : Start) (fields : List (List ℕ)) → IsStart c → Gives (Stays c) (with_tick c fields)
tick_leaves c [] is =
    gives_ok (Stays c) (record c { told = cut_down (Tick ∷ c.told) }) (record { start = start_told c Tick is tt; same = refl })
tick_leaves c (f ∷ fields) is = gives_err (Stays c) _

-- ---- a command

abbrev IsSaid : List ℕ → Type 0
IsSaid bytes = IsBytes bytes × (1 ≤ length bytes) × (length bytes ≤ 94)

said_fits : (text payload : List ℕ) (o : Option (List ℕ)) → result_ok (decode_of text) ≡ o → command_bytes o ≡ Some payload → IsSaid payload
said_fits text payload None is h = absurd cc
said_fits text payload (Some bytes) is h =
    let test = some_if (nat_le 1 (length bytes) && nat_le (length bytes) 94) bytes payload h in
    let tests = and_parts (nat_le 1 (length bytes)) (nat_le (length bytes) 94) test.0 in
    subst IsSaid test.1
    (decoded text bytes (decode_of text) refl is, leb-true 1 (length bytes) tests.0, leb-true (length bytes) 94 tests.1)

command_fits : (fields : List (List ℕ)) → Gives IsSpeltCommand (command_of fields)
unfolding command_of
command_fits [] = gives_err IsSpeltCommand _
command_fits (i ∷ []) = gives_err IsSpeltCommand _
command_fits (i ∷ t ∷ []) = gives_err IsSpeltCommand _
command_fits (i ∷ t ∷ p ∷ []) =
    gives_field IsSpeltCommand (number_of (2 ^ 32 - 1) i) causes.Id _ (λ id is_id.
    gives_field IsSpeltCommand (number_of 3 t) causes.Tries _ (λ tries is_tries.
    gives_field IsSpeltCommand (command_bytes (result_ok (decode_of p))) causes.Payload _ (λ payload is_payload.
    let id_within = number_within (2 ^ 32 - 1) i id is_id in
    let fits = said_fits p payload (result_ok (decode_of p)) refl is_payload in
    gives_ok IsSpeltCommand (record { id = id; tries = tries; payload = payload })
    (record { id = omega arith; tries = number_within 3 t tries is_tries; least = fits.1; most = fits.2; bytes = fits.0 }))))
command_fits (i ∷ t ∷ p ∷ q ∷ more) = gives_err IsSpeltCommand _

followed : (k : Orders) (d : Command) → may_follow k.queue d ≡ true
    → record k.queue { commands = k.queue.commands ++ d ∷ [] } ≡ with_follower k.queue d
unfolding with_follower
followed k d may = sym (cond-true _ _ k.queue may)

window_agrees : (k : Orders) (d : Command) (waits : Bool) → IsSound k.queue → Agrees k.window k.queue → may_follow k.queue d ≡ true
    → window_fits k.queue.commands d waits ≡ true
    → Agrees (window_for d waits k.window) (record k.queue { commands = k.queue.commands ++ d ∷ [] })
window_agrees k d true sound agrees may fits = agrees_waiting k.queue _ d sound (followed k d may) may fits
window_agrees k d false sound agrees may fits = agrees_still k.queue _ d sound (followed k d may) may k.window agrees fits

start_asked : (c : Start) (waits : Bool) (d : Command) → IsStart c → IsSpeltCommand d → window_fits c.orders.queue.commands d waits ≡ true
    → may_follow c.orders.queue d ≡ true → IsStart (record c { orders = with_restored c.orders d waits })
start_asked c waits d is command fits may = record {
  commission = is.commission;
  told = record {
    reading = is.told.reading;
    marks = is.told.marks;
    short = is.told.short;
    commands = each_push IsSpeltCommand c.orders.queue.commands d is.told.commands command;
    sound = sound_follower c.orders.queue d is.told.sound may;
    agrees = window_agrees c.orders d waits is.told.sound is.told.agrees may fits;
  };
  few = is.few;
}

command_leaves : (c : Start) (waits : Bool) (d : Command) → IsStart c → IsSpeltCommand d → Gives (Stays c) (with_command c waits d)
unfolding may_restore restored
command_leaves c waits d is command =
    by_test (window_fits c.orders.queue.commands d waits && may_follow c.orders.queue d) refl
  where
    by_test : (b : Bool) → (window_fits c.orders.queue.commands d waits && may_follow c.orders.queue d) ≡ b
        → Gives (Stays c) (cond b (Ok (record c { orders = cond b (with_restored c.orders d waits) c.orders })) (Err causes.Command))
    by_test true test =
        let tests = and_parts (window_fits c.orders.queue.commands d waits) (may_follow c.orders.queue d) test in
        gives_ok (Stays c) (record c { orders = with_restored c.orders d waits })
        (record { start = start_asked c waits d is command tests.0 tests.1; same = refl })
    by_test false test = gives_err (Stays c) _

asked_leaves : (c : Start) (waits : Bool) (fields : List (List ℕ)) → IsStart c → Gives (Stays c) (with_command_in c waits fields)
asked_leaves c waits fields is =
    gives_then (Stays c) (command_of fields) _ (λ d h. command_leaves c waits d is (command_fits fields d h))

-- ---- all

fields_leave : (c : Start) (fields : List (List ℕ)) → IsStart c → Gives (Stays c) (with_fields c fields)
fields_leave c [] is = gives_err (Stays c) _
fields_leave c (kind ∷ fields) is =
    gives_where (Stays c) (is_word kind (codes "reading")) _ _ (reading_leaves c c.reading fields is)
    (gives_where (Stays c) (is_word kind (codes "part")) _ _ (part_leaves c fields is)
    (gives_where (Stays c) (is_word kind (codes "tick")) _ _ (tick_leaves c fields is)
    (gives_where (Stays c) (is_word kind (codes "waits")) _ _ (asked_leaves c true fields is)
    (gives_where (Stays c) (is_word kind (codes "command")) _ _ (asked_leaves c false fields is) (gives_err (Stays c) _)))))

pub line_leaves : (c : Start) (line : List ℕ) → IsStart c → Gives (Stays c) (with_line c line)
line_leaves c line is = fields_leave c (fields_of line) is
