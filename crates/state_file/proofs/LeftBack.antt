-- What slots leave is read back from its texts.
use Rattle.std.proofs.Common.{◌≡◌, ◌<◌, ◌≤◌, ◌^◌, List, length, map, Ok, sym, subst, ◌∙◌}
use Rattle.std.specs.List.{All}
use Rattle.std.proofs.lemmas.List.{length-map}
use Rattle.std.proofs.lemmas.Simd.{map-map}
use Rattle.meter_address.specs.declared.address.Address.{Address}
use Rattle.meter_address.specs.Address.{AreApart}
use Rattle.meter_address.specs.Commission.{Commissioned, IsCommission}
use Rattle.meter_slots.specs.Journal.{Start, SlotView}
use Rattle.meter_slots.specs.Resuming.{known_now}
use Rattle.roster_file.specs.Roster.{roster_of}
use Rattle.roster_file.specs.Text.{roster_text}
use Rattle.roster_file.proofs.ReadBack.{written_is_read as roster_is_read}
use Rattle.state_file.specs.Left.{IsLeft, commission_now, left_roster, left_state}
use Rattle.state_file.specs.Rooms.{HasRoom}
use Rattle.state_file.specs.Whole.{state_of}
use Rattle.state_file.specs.Written.{IsStart, state_text}
use Rattle.state_file.proofs.Telling.{each_of, each_made}
use Rattle.state_file.proofs.WholeLength.{written_is_read}

pub left_state_is_read : (own : Address) (bs : List SlotView) → own.0 < 2 ^ 64 → HasRoom (map known_now bs) → All IsLeft bs
    → state_of (state_text (left_state own bs)) ≡ Ok (left_state own bs)
left_state_is_read own bs few room all =
    written_is_read (left_state own bs) (record { own = few; few = room.few; apart = room.apart; each = each_made IsLeft IsStart known_now (λ b is. is) bs (each_of IsLeft bs all) })

pub left_roster_is_read : (own : Address) (bs : List SlotView) → own.0 < 2 ^ 64 → HasRoom (map known_now bs) → All IsLeft bs
    → roster_of (roster_text (left_roster own bs)) ≡ Ok (left_roster own bs)
left_roster_is_read own bs few room all =
    let many : length (map known_now bs) ≡ length (map commission_now bs) = length-map bs known_now ∙ sym (length-map bs commission_now) in
    roster_is_read (left_roster own bs) (record {
      own = few;
      few = subst (λ n. n ≤ 4096) many room.few;
      apart = subst AreApart (map-map (λ (c : Start). c.address) known_now bs ∙ sym (map-map (λ (c : Commissioned). c.address) commission_now bs))
          room.apart;
      each = each_made IsLeft IsCommission commission_now (λ b is. is.commission) bs (each_of IsLeft bs all);
    })
