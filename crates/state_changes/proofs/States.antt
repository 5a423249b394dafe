-- Changed states are states, and what stays in them.
use Rattle.std.proofs.Common.{◌≡◌, ℕ, ◌+◌, ◌^◌, ◌≤◌, ◌<◌, ◌==◌, max, Bool, true, false, cond, List, [], ◌∷◌, map, Option, Some, None, Ok, refl, sym, ap, ap₂, ◌∙◌, subst, inl, inr, arith}
use Rattle.std.proofs.lemmas.List.{length-map}
use Rattle.std.proofs.lemmas.Simd.{map-map}
use Rattle.std.proofs.lemmas.Option.{same_Some}
use Rattle.lists.specs.Each.{Each}
use Rattle.lists.proofs.Choices.{chosen}
use Rattle.meter_address.specs.declared.address.Address.{Address}
use Rattle.meter_address.specs.declared.commission.Mode.{Mode}
use Rattle.meter_address.specs.declared.commission.Mode.TheVariants.{Seven}
use Rattle.meter_address.specs.Address.{AreApart}
use Rattle.meter_address.specs.Commission.{Commissioned, IsCommission}
use Rattle.command_queue.specs.declared.command.Command.{Command}
use Rattle.command_queue.specs.Pending.{IsSound, IdsRise}
use Rattle.meter_slots.specs.Journal.{Start, commission_of}
use Rattle.meter_slots.specs.Resuming.{reserved}
use Rattle.state_file.specs.Text.{IsTold}
use Rattle.state_file.specs.Whole.{Known, state_of}
use Rattle.state_file.proofs.ReadStates.{fresh_is}
use Rattle.state_file.proofs.Telling.{each_made}
use Rattle.state_file.specs.Written.{IsStart, IsState, state_text}
use Rattle.state_file.specs.Recommissioning.{recommissioned}
use Rattle.state_file.proofs.WholeLength.{written_is_read}
use Rattle.state_changes.specs.Merging.{greater_of, last_kept, merged_commission, known_among, with_known, merged_meter}
use Rattle.state_changes.specs.Raising.{is_spent, first_spent}
use Rattle.state_changes.specs.Laws.{IsNotBelow, IsMerged, KnownStay, MergedAreStates, RaisedAreStates}
use Rattle.state_changes.proofs.Merges.{kept_fits}
use Rattle.state_changes.proofs.Raises.{parts, fits}

-- ---- a meter

ids_rise : (above low high : ℕ) (cs : List Command) → low ≤ high → IdsRise above cs low → IdsRise above cs high
ids_rise above low high [] more rise = omega (arith, more, rise)
ids_rise above low high (c ∷ cs) more rise = (rise.0, ids_rise c.id low high cs more rise.1)

sound_later : (low high : ℕ) (cs : List Command) → low ≤ high → IsSound (record { ids = low; commands = cs })
    → IsSound (record { ids = high; commands = cs })
sound_later low high cs more sound = record { few = sound.few; rising = ids_rise 0 low high cs more sound.rising; tries = sound.tries }

-- a known meter under another commission, whose ids aren't below those of its commands
told_under : (m : Start) (c : Commissioned) → m.orders.queue.ids ≤ c.ids → IsTold m → IsTold (recommissioned m c)
told_under m c more told = record {
  reading = told.reading;
  marks = told.marks;
  short = told.short;
  commands = told.commands;
  sound = sound_later m.orders.queue.ids c.ids m.orders.queue.commands more told.sound;
  agrees = told.agrees;
}

start_under : (m : Start) (c : Commissioned) → m.orders.queue.ids ≤ c.ids → IsCommission c → IsStart m → IsStart (recommissioned m c)
start_under m c more commission start =
    record { commission = commission; told = told_under m c more start.told; few = start.few }

merged_commission_is : (m c : Commissioned) → IsCommission m → IsCommission c → IsCommission (merged_commission m c)
merged_commission_is m c one two = record {
  address = two.address;
  key = two.key;
  other = two.other;
  fits = kept_fits m.mode c.mode m.other c.other m.last c.last (last_kept m.mode c.mode m.last c.last) one.fits two.fits refl;
  down = omega (arith, one.down, two.down);
  ids = omega (arith, one.ids, two.ids);
}

left_max : (a b : ℕ) → a ≤ max a b
left_max a b = omega arith

right_max : (a b : ℕ) → b ≤ max a b
right_max a b = omega arith

with_is_start : (o : Option Start) (c : Commissioned) → ((m : Start) → o ≡ Some m → IsStart m) → IsCommission c → IsStart (with_known o c)
with_is_start None c known commission = fresh_is c commission
with_is_start (Some m) c known commission =
    let start = known m refl in
    start_under m (merged_commission (commission_of m) c) (left_max m.orders.queue.ids c.ids)
    (merged_commission_is (commission_of m) c start.commission commission) start

-- the meter that is found is one of them
found_is_start : (a : Address) (xs : List Start) (m : Start) → Each IsStart xs → known_among a xs ≡ Some m → IsStart m
found_is_start a [] m each found = absurd (let no : None ≡ Some m = found in cc)
found_is_start a (x ∷ xs) m each found = elim (chosen (x.address.0 == a.0) (Some x) (known_among a xs) (Some m) found) [
  | inl here ↦ subst IsStart (same_Some x m here.1) each.0
  | inr later ↦ found_is_start a xs m each.1 later.1
]

-- ---- all meters

merged_address : (o : Option Start) (c : Commissioned) → (with_known o c).address ≡ c.address
merged_address None c = refl
merged_address (Some m) c = refl

same_addresses : (starts : List Start) (cs : List Commissioned)
    → map (λ (c : Start). c.address) (map (merged_meter starts) cs) ≡ map (λ (c : Commissioned). c.address) cs
same_addresses starts [] = refl
same_addresses starts (c ∷ cs) =
    ap₂ (λ (a : Address) (xs : List Address). a ∷ xs) (merged_address (known_among c.address starts) c) (same_addresses starts cs)

pub merged_are_states : MergedAreStates
merged_are_states s r state roster = record {
  own = roster.own;
  few = (let same = length-map r.meters (merged_meter s.starts) in let few = roster.few in omega arith);
  apart = subst AreApart (sym (same_addresses s.starts r.meters)) roster.apart;
  each = each_made IsCommission IsStart (merged_meter s.starts)
      (λ c is. with_is_start (known_among c.address s.starts) c (λ m found. found_is_start c.address s.starts m state.each found) is)
      r.meters roster.each;
}

-- ---- raised counters

raised_start : (n : ℕ) (c : Start) → is_spent n c ≡ false → IsStart c → IsStart (reserved n c)
raised_start n c off start =
    let room : c.orders.down + n < 2 ^ 32 = (let most = fits n c off in omega arith) in
    let k = start.commission in
    record {
      commission = record { address = k.address; key = k.key; other = k.other; fits = k.fits; down = room; ids = k.ids };
      told = record {
        reading = start.told.reading;
        marks = start.told.marks;
        short = start.told.short;
        commands = start.told.commands;
        sound = start.told.sound;
        agrees = start.told.agrees;
      };
      few = start.few;
    }

each_raised : (n : ℕ) (cs : List Start) → first_spent n cs ≡ None → Each IsStart cs → Each IsStart (map (reserved n) cs)
each_raised n [] none each = tt
each_raised n (c ∷ cs) none each =
    let both = parts n c cs none in (raised_start n c both.0 each.0, each_raised n cs both.1 each.1)

pub raised_are_states : RaisedAreStates
raised_are_states n s state none = record {
  own = state.own;
  few = (let same = length-map s.starts (reserved n) in let few = state.few in omega arith);
  apart = subst AreApart (sym (map-map (λ (c : Start). c.address) (reserved n) s.starts)) state.apart;
  each = each_raised n s.starts none state.each;
}

pub none_spent : (n : ℕ) (o : Option Address) (ss starts : List Start) → o ≡ first_spent n ss → o ≡ None → ss ≡ starts
    → first_spent n starts ≡ None
none_spent n o ss starts is none same = ap (first_spent n) (sym same) ∙ sym is ∙ none

pub read_back : (next value : Known) → next ≡ value → IsState value → state_of (state_text next) ≡ Ok next
read_back next value is state = written_is_read next (subst IsState (sym is) state)

-- ---- what stays

greater_left : (a b : Option ℕ) → IsNotBelow a (greater_of a b)
greater_left None b = tt
greater_left (Some n) None = omega arith
greater_left (Some n) (Some k) = left_max n k

greater_right : (a b : Option ℕ) → IsNotBelow b (greater_of a b)
greater_right None None = tt
greater_right None (Some k) = omega arith
greater_right (Some n) None = tt
greater_right (Some n) (Some k) = right_max n k

last_known : (m c : Mode) (a b : Option ℕ) → m ≡ Seven → c ≡ Seven → IsNotBelow a (last_kept m c a b)
last_known m c a b one two = rw (one, two) (greater_left a b)

last_enrolled : (m c : Mode) (a b : Option ℕ) → m ≡ Seven → c ≡ Seven → IsNotBelow b (last_kept m c a b)
last_enrolled m c a b one two = rw (one, two) (greater_right a b)

known_is_merged : (m : Start) (c : Commissioned) → IsMerged m c (with_known (Some m) c)
known_is_merged m c = record {
  address = refl;
  mode = refl;
  key = refl;
  other = refl;
  told = refl;
  commands = refl;
  window = refl;
  reading = refl;
  down_known = left_max m.orders.down c.down;
  down_enrolled = right_max m.orders.down c.down;
  ids_known = left_max m.orders.queue.ids c.ids;
  ids_enrolled = right_max m.orders.queue.ids c.ids;
  last_known = last_known m.mode c.mode m.last c.last;
  last_enrolled = last_enrolled m.mode c.mode m.last c.last;
}

pub known_stay : KnownStay
known_stay starts c m found = subst (λ (o : Option Start). IsMerged m c (with_known o c)) (sym found) (known_is_merged m c)
