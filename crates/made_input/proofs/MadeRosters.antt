-- The roster of a made session can be commissioned, and is read back from its text.
use Rattle.std.proofs.Common.{◌≡◌, ℕ, zero, suc, ◌+◌, ◌/◌, ◌^◌, ◌<◌, ◌≤◌, ◌==◌, false, List, map}
use Rattle.std.proofs.Common.{refl, sym, ap, subst, ◌∙◌, arith}
use Rattle.std.specs.List.{range_with_len, list_any}
use Rattle.std.specs.Int.{w64, to_be_bytes}
use Rattle.std.proofs.lemmas.Simd.{map-map}
use Rattle.std.proofs.lemmas.Bool.{ne_eqb}
use Rattle.std.proofs.lemmas.List.FromFn.{length-map-range_with_len}
use Rattle.lists.specs.Each.{Each}
use Rattle.aes_block.specs.Block.{IsBlock}
use Rattle.downlink_maker.proofs.Bytes.{all_bytes}
use Rattle.frame_formats.proofs.Checked.{byte_at}
use Rattle.meter_address.specs.Address.{bytes_of, AreApart}
use Rattle.meter_address.specs.Commission.{Commissioned, IsKey, IsCommission}
use Rattle.roster_file.specs.Enrolled.{IsEnrolled}
use Rattle.made_input.specs.Meters.{bcd_byte, bcd, address_at, meter_at, roster_of}
use Rattle.made_input.proofs.Genuine as genuine
use Rattle.made_input.proofs.OwnLines.{made_bytes, address_bytes}
use Rattle.made_input.specs.Made.{made}
use Rattle.made_input.specs.Laws.{MadeSessionsAreReadable}
use Rattle.roster_file.proofs.ReadBack.{written_is_read}
use Rattle.made_input.proofs.MadeTexts.{heard_lines}

-- ---- addresses differ

same_place : (p q : ℕ) → p < 1024 → q < 1024 → made_bytes p ≡ made_bytes q → p ≡ q
unfolding bcd
same_place p q few_p few_q same =
    let low : bcd_byte (p + 1) ≡ bcd_byte (q + 1) = cc in
    let high : bcd_byte ((p + 1) / 100) ≡ bcd_byte ((q + 1) / 100) = cc in
    omega arith

bytes_by : (p q : ℕ) → (address_at p).0 ≡ (address_at q).0 → bytes_of (address_at p) ≡ bytes_of (address_at q)
unfolding bytes_of
bytes_by p q same = ap (to_be_bytes w64) same

none_later : (p from count : ℕ) → p < from → from + count ≤ 1024
    → list_any (λ b. b.0 == (address_at p).0) (map address_at (range_with_len from count)) ≡ false
none_later p from zero less few = refl
none_later p from (suc n) less few =
    let other = ne_eqb (address_at from).0 (address_at p).0 (λ same. absurd (let here : from ≡ p =
    same_place from p (omega arith) (omega arith) (sym (address_bytes from) ∙ bytes_by from p same ∙ address_bytes p) in omega arith)) in
    rw other (none_later p (from + 1) n (omega arith) (omega arith))

apart : (from count : ℕ) → from + count ≤ 1024 → AreApart (map address_at (range_with_len from count))
apart from zero few = tt
apart from (suc n) few = (none_later from (from + 1) n (omega arith) (omega arith), apart (from + 1) n (omega arith))

-- ---- each meter can be commissioned

is_key : (key : List ℕ) → IsBlock key → IsKey key
is_key key block = record { long = block.count; bytes = λ i. byte_at key i (all_bytes key block.bytes) }

address_fits : (place : ℕ) → (address_at place).0 < 2 ^ 64
unfolding bcd
address_fits place = omega arith

is_commission : (number place : ℕ) → IsCommission (meter_at number place)
is_commission number place = record {
  address = address_fits place;
  key = is_key (meter_at number place).key (genuine.IsBlock-drawn number place);
  other = λ key none. absurd cc;
  fits = record { one_key = λ same. absurd cc; in_range = λ n none. absurd cc };
  down = omega arith;
  ids = omega arith;
}

each_of_range : {A : Type 0} (P : A → Type 0) (f : ℕ → A) → ((k : ℕ) → P (f k)) → (from count : ℕ)
    → Each P (map f (range_with_len from count))
each_of_range P f h from zero = tt
each_of_range P f h from (suc n) = (h from, each_of_range P f h (from + 1) n)

made_is_enrolled : (count number : ℕ) → count ≤ 1024 → IsEnrolled (roster_of count number)
made_is_enrolled count number few = record {
  own = omega arith;
  few = omega (arith, length-map-range_with_len (meter_at number) 0 count, few);
  apart = subst AreApart (sym (map-map (λ (c : Commissioned). c.address) (meter_at number) (range_with_len 0 count)))
      (apart 0 count (omega arith));
  each = each_of_range IsCommission (meter_at number) (is_commission number) 0 count;
}

-- ---- whole sessions

pub made_is_readable : MadeSessionsAreReadable
unfolding made
made_is_readable count telegrams number few_meters few_telegrams = record {
  enrolled = made_is_enrolled count number few_meters;
  roster = written_is_read (roster_of count number) (made_is_enrolled count number few_meters);
  first = heard_lines count telegrams number 0 few_telegrams;
  second = heard_lines count telegrams number 1 few_telegrams;
  third = heard_lines count telegrams number 2 few_telegrams;
  fourth = heard_lines count telegrams number 3 few_telegrams;
}
