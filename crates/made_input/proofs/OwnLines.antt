-- The lines of made meters are their own, and the meters take turns.
use Rattle.std.proofs.Common.{◌≡◌, ℕ, ◌+◌, ◌^◌, ◌<◌, List, [], ◌∷◌, ◌++◌}
use Rattle.std.proofs.Common.{length, take, drop, slice_get, Some, Result, Ok, refl, ap, ◌∙◌, arith, append_assoc}
use Rattle.std.proofs.Common.{unwrap_or}
use Rattle.std.specs.Int.{w64, from_be_bytes}
use Rattle.std.proofs.lemmas.List.{take_at}
use Rattle.std.proofs.lemmas.List.FromFn.{length-map-range_with_len, get_or-map-range_with_len}
use Rattle.std.proofs.lemmas.Option.{slice_get-get_or, slice_get_past}
use Rattle.meter_address.specs.declared.address.Address.{Address}
use Rattle.meter_address.specs.Address.{bytes_of}
use Rattle.meter_address.specs.Commission.{Commissioned}
use Rattle.meter_address.proofs.Texts.{length-bytes_of, bytes_of-made}
use Rattle.frame_formats.specs.Crc.{IsBytes}
use Rattle.frame_formats.specs.declared.fault.FrameFault.{FrameFault}
use Rattle.frame_formats.specs.declared.format.Format.TheVariants.{A}
use Rattle.frame_formats.proofs.Checked.{byte_at}
use Rattle.message_check.specs.Target.{link_address, address_read, target_of}
use Rattle.meter_slots.specs.declared.entry.Event.{Event}
use Rattle.meter_slots.specs.declared.entry.Event.TheVariants.{Hear}
use Rattle.meter_slots.specs.Telling.{heard_in}
use Rattle.frame_lines.proofs.ReadBack.{lines_are_read_back}
use Rattle.made_input.specs.Meters.{bcd, address_at, meter_at, meters_of}
use Rattle.made_input.specs.Uplinks.{uplink}
use Rattle.made_input.specs.Lines.{turn_of, round_of, sent_by, telegram_of}
use Rattle.made_input.specs.Laws.{TurnsAreTaken, LinesAreOwn}
use Rattle.made_input.proofs.Genuine as genuine

-- ---- turns

at_turn : (count number k : ℕ)
    → telegram_of (meters_of count number) k ≡ sent_by (slice_get (meters_of count number) (turn_of count k)) (round_of count k) k
at_turn count number k =
    ap (λ n. sent_by (slice_get (meters_of count number) (turn_of n k)) (round_of n k) k)
    (length-map-range_with_len (meter_at number) 0 count)

pub turns_are_taken : TurnsAreTaken
turns_are_taken count number k =
    let meters : List Commissioned = meters_of count number in
    let turn : ℕ = turn_of count k in
    let round : ℕ = round_of count k in
    let long : length meters ≡ count = length-map-range_with_len (meter_at number) 0 count in
    record {
      meters = λ below. at_turn count number k
          ∙ ap (λ o. sent_by o round k) (slice_get-get_or meters turn (meter_at number 0) (omega (arith, below, long))
          ∙ ap Some (get_or-map-range_with_len (meter_at number) 0 count turn turn (meter_at number 0) below (omega arith)));
      strangers = λ last. at_turn count number k ∙ ap (λ o. sent_by o round k) (slice_get_past meters turn (omega (arith, last, long)));
    }

-- ---- the meter

-- the bytes of a made meter's address
abbrev pub made_bytes : ℕ → List ℕ
made_bytes place = 0x93 ∷ 0x15 ∷ bcd (place + 1) ++ 0x01 ∷ 0x07 ∷ []

made_are_bytes : (place : ℕ) → IsBytes (made_bytes place)
unfolding bcd
made_are_bytes place = search arith

length-made : (place : ℕ) → length (made_bytes place) ≡ 8
unfolding bcd
length-made place = refl

pub address_bytes : (place : ℕ) → bytes_of (address_at place) ≡ made_bytes place
address_bytes place = bytes_of-made (made_bytes place) (address_at place) (length-made place)
    (λ i. byte_at (made_bytes place) i (made_are_bytes place)) refl

link_bytes : (c : Commissioned) (n : ℕ) → take 8 (drop 2 (uplink c n)) ≡ bytes_of c.address
unfolding uplink
link_bytes c n = ap (take 8) (append_assoc (bytes_of c.address) _ _) ∙ take_at (bytes_of c.address) _ 8 (length-bytes_of c.address)

abbrev address_from : List ℕ → Address
address_from bytes = record { 0 = from_be_bytes w64 bytes }

target_is : (number place n : ℕ) → n < 2 ^ 32 → target_of (uplink (meter_at number place) n) ≡ address_at place
unfolding target_of
target_is number place n small =
    let c : Commissioned = meter_at number place in
    let t : List ℕ = uplink c n in
    ap (λ r. unwrap_or (address_read r) (link_address t)) (genuine.layers_of_uplink c n (genuine.IsBlock-drawn number place) small)
    ∙ ap address_from (link_bytes c n ∙ address_bytes place)

abbrev own_event : Address → ℕ → List ℕ → Result (Address × Event) FrameFault
own_event a k t = Ok (a, Hear A k t)

pub lines_are_own : LinesAreOwn
lines_are_own number place n k small moment =
    let c : Commissioned = meter_at number place in
    let t : List ℕ = uplink c n in
    let key = genuine.IsBlock-drawn number place in
    let telegram = genuine.telegram c n key small in
    let bytes = genuine.bytes c n key small in
    let back = lines_are_read_back k t moment (record { telegram = telegram; bytes = bytes }) in
    record {
      line = back.line;
      own = ap (heard_in A k) back.decoded_is ∙ ap (λ a. own_event a k t) (target_is number place n small);
    }
