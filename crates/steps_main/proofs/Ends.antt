-- What is told and left behind all lines, by the meters' slots.
use Rattle.std.proofs.Common.{◌≡◌, ◌<◌, ◌≤◌, ◌^◌, cond, List, [], ◌∷◌, ◌++◌, map, length, Ok, refl, sym, ap, ap₂, ◌∙◌, subst}
use Rattle.std.specs.List.{flat_map, All}
use Rattle.std.proofs.lemmas.List.{length-map}
use Rattle.std.proofs.lemmas.Simd.{map-map}
use Rattle.meter_address.specs.declared.address.Address.{Address}
use Rattle.meter_address.specs.Address.{AreApart}
use Rattle.meter_slots.specs.declared.counts.Counts.{Counts}
use Rattle.meter_worlds.specs.declared.passing_world.PassingMeter.{PassingMeter}
use Rattle.meter_slots.specs.Journal.{Start, SlotView}
use Rattle.meter_worlds.specs.PassingWorld.{ArePassing, IsPassing, has_steps, known_by, PassingIsKnown}
use Rattle.meter_slots.specs.Resuming.{known_now}
use Rattle.meter_slots.specs.World.{slot_of, world_of}
use Rattle.lists.proofs.Members.{with_fold}
use Rattle.receivers.specs.Alone.{steps_of}
use Rattle.state_file.specs.Rooms.{HasRoom}
use Rattle.state_file.specs.Whole.{state_of}
use Rattle.state_file.specs.Written.{IsStart, state_text}
use Rattle.state_file.proofs.Telling.{each_of, each_made}
use Rattle.state_file.proofs.WholeLength.{written_is_read}
use Rattle.step_text.specs.Lines.{block_line, counts_line}
use Rattle.steps_main.specs.declared.telling.Stepper.{Stepper}
use Rattle.steps_main.specs.Ending.{known_of, IsTellable, stepped_block, end_text}
use Rattle.steps_main.specs.Statuses.{ended_at}
use Rattle.steps_main.specs.Steps.{Heard, tellings, world_behind, block_told, end_told, next_known}
use Rattle.steps_main.proofs.Lines.{slots_behind, StandsBehind}

-- ---- what is left is read back

pub left_is_read : (own : Address) (ms : List PassingMeter) → own.0 < 2 ^ 64 → All IsTellable ms → HasRoom (known_of own ms).starts
    → state_of (state_text (known_of own ms)) ≡ Ok (known_of own ms)
left_is_read own ms few all room =
    written_is_read (known_of own ms) (record { own = few; few = room.few; apart = room.apart; each = each_made IsTellable IsStart known_by (λ m is. is) ms (each_of IsTellable ms all) })

-- ---- meters for their slots

known_are : PassingIsKnown → (slots : List SlotView) (ms : List PassingMeter) → ArePassing slots ms → map known_by ms ≡ map known_now slots
known_are knows =
    with_fold IsPassing (λ slots ms. map known_by ms ≡ map known_now slots) refl (λ b m slots ms p _ later. ap₂ ◌∷◌ (knows b m p).0 later)

block_is : PassingIsKnown → (b : SlotView) (m : PassingMeter) → IsPassing b m → stepped_block m ≡ block_told b
block_is knows b m p =
    ap (λ t. cond t (block_line (known_by m)) []) (knows b m p).1
    ∙ ap (λ c. cond (has_steps b.journal) (block_line c) []) (knows b m p).0

blocks_are : PassingIsKnown → (slots : List SlotView) (ms : List PassingMeter) → ArePassing slots ms
    → flat_map stepped_block ms ≡ flat_map block_told slots
blocks_are knows =
    with_fold IsPassing (λ slots ms. flat_map stepped_block ms ≡ flat_map block_told slots) refl
    (λ b m slots ms p _ later. ap₂ ◌++◌ (block_is knows b m p) later)

-- ---- behind all lines

slots_are : (h : Heard) → (world_behind h).slots ≡ slots_behind h.known (tellings h)
unfolding world_of
slots_are h = refl

pub left_is : PassingIsKnown → (h : Heard) (s : Stepper) → StandsBehind h.known (tellings h) s → known_of h.known.own s.world ≡ next_known h
left_is knows h s stands =
    ap (λ starts. record { own = h.known.own; starts = starts })
    (known_are knows (slots_behind h.known (tellings h)) s.world stands.meters
    ∙ ap (map known_now) (sym (slots_are h)))

pub end_is : PassingIsKnown → (h : Heard) (s : Stepper) → StandsBehind h.known (tellings h) s → end_text s h.end ≡ end_told h
unfolding end_text
end_is knows h s stands =
    ap (λ t. t ++ counts_line s.counts (ended_at h.end))
    (blocks_are knows (slots_behind h.known (tellings h)) s.world stands.meters ∙ ap (flat_map block_told) (sym (slots_are h)))
    ∙ ap (λ (n : Counts). flat_map block_told (world_behind h).slots ++ counts_line n (ended_at h.end)) stands.counts

-- ---- room for what is left

pub room_behind : (h : Heard) → HasRoom h.known.starts → HasRoom (next_known h).starts
room_behind h room =
    let steps = steps_of 1 (tellings h) in
    let its = slot_of h.known.own steps in
    let starts = h.known.starts in
    let address = λ (c : Start). c.address in
    subst (λ slots. HasRoom (map known_now slots)) (sym (slots_are h)) (record {
      few = subst (λ n. n ≤ 4096) (sym (length-map (map its starts) known_now ∙ length-map starts its)) room.few;
      apart = subst AreApart (sym (map-map address known_now (map its starts) ∙ map-map (λ (b : SlotView). address (known_now b)) its starts))
          room.apart;
    })
