-- What lines did so far, whatever slots they are for, and one line more.
use Rattle.std.proofs.Common.{◌≡◌, ◌≢◌, ℕ, ◌+◌, List, [], ◌∷◌, ◌++◌, length, take, Bool, Result, Ok, Err, IsTrue, refl, sym, subst, arith}
use Rattle.std.specs.List.{enumerate_from}
use Rattle.outer_io.specs.declared.failures.Failed.{Failed}
use Rattle.meter_address.specs.declared.address.Address.{Address}
use Rattle.meter_slots.specs.declared.counts.Counts.{Counts}
use Rattle.meter_slots.specs.declared.counts.Ended.{Ended}
use Rattle.meter_slots.specs.declared.counts.Ended.TheVariants as ends
use Rattle.meter_slots.specs.declared.entry.Event.{Event}
use Rattle.receivers.specs.declared.class.Class.{Class}
use Rattle.receivers.specs.declared.told.Told.{Told}
use Rattle.receivers.specs.Classes.{class_by}
use Rattle.receivers.specs.Counting.{with_class}
use Rattle.receivers.specs.Ending.{TellsNext}
use Rattle.receivers.specs.Receiver.{no_counts}
use Rattle.receivers.specs.Slots.{Hears, HearsAll, HearsUnsent, HearsTo}
use Rattle.receivers.proofs.Numbers.{numbered, lines_counted, HeardSo, heard_first, heard_next}

module _ {X : Type 0} (makes : ℕ → Address → Event → Result Unit Failed → X → X → Type 0) where
  one_more : (lines : List (ℕ × Told)) (line : ℕ) (t : Told) (x y z : X) → HearsAll makes lines x y → Hears makes line t (Ok tt) y z
      → HearsAll makes (lines ++ (line, t) ∷ []) x z
  one_more [] line t x y z e h = (z, subst (λ (w : X). Hears makes line t (Ok tt) w z) e h, refl)
  one_more (l ∷ lines) line t x y z r h = (r.0, r.1, one_more lines line t r.0 y z r.2 h)

  -- lines that were given, what they tell, and what they did; all downlinks were written
  pub record HeardSoFar (tells : Bool) (directory : List Address) (lines : List (List ℕ)) (counts : Counts) (x y : X) : Type 0 where
    pub heard : List Told
    pub so : HeardSo tells directory lines counts heard
    pub hears : HearsAll makes (enumerate_from 1 heard) x y

  pub far_first : (tells : Bool) (directory : List Address) (all : List (List ℕ)) (n : ℕ) (counts : Counts) (x : X) → n ≡ 0
      → counts ≡ no_counts → HeardSoFar tells directory (take n all) counts x x
  far_first tells directory all n counts x zero_is none =
      record { heard = []; so = heard_first tells directory all n counts zero_is none; hears = refl }

  module _ (tells : Bool) (directory : List Address) (old new : List (List ℕ)) (counts counts' : Counts) (x y z : X) (line : ℕ)
      (told : Told) (class : Class) (before : HeardSoFar tells directory old counts x y) (at : line ≡ counts.lines + 1)
      (next : IsTrue tells → TellsNext told old new) (class_is : class ≡ class_by directory told) (more : counts' ≡ with_class counts class)
      (sent : Result Unit Failed) (hears : Hears makes line told sent y z) where
    pub more_heard : HeardSo tells directory new counts' (before.heard ++ told ∷ [])
    more_heard = heard_next tells directory old new counts counts' before.heard told class before.so next class_is more

    hears_as : (s : Result Unit Failed) → sent ≡ s → Hears makes (1 + length before.heard) told s y z
    hears_as s is = let n = lines_counted directory before.heard counts before.so.counts_are in
        let number : line ≡ 1 + length before.heard = omega arith in
        subst (λ (k : ℕ). Hears makes k told s y z) number (subst (λ (r : Result Unit Failed). Hears makes line told r y z) is hears)

    pub far_next : (v : Unit {0}) → sent ≡ Ok v → HeardSoFar tells directory new counts' x z
    far_next v is = record {
      heard = before.heard ++ told ∷ [];
      so = more_heard;
      hears = subst (λ (ls : List (ℕ × Told)). HearsAll makes ls x z) (sym (numbered 1 before.heard told))
          (one_more (enumerate_from 1 before.heard) (1 + length before.heard) told x y z before.hears (hears_as (Ok v) is));
    }

    pub far_unsent : (fault : Failed) → sent ≡ Err fault → HearsUnsent makes (before.heard ++ told ∷ []) x z
    far_unsent fault is = record {
      sent = before.heard;
      last = told;
      heard_is = refl;
      between = y;
      all_sent = before.hears;
      fault = fault;
      unsent = hears_as (Err fault) is;
    }

  pub hears_to : (waits : X → X → Type 0) (how : Ended) (heard : List Told) (x z : X) → (how ≢ ends.TxFault) × (how ≢ ends.Memory)
      → HearsAll makes (enumerate_from 1 heard) x z → HearsTo makes waits how heard x z
  hears_to waits ends.TxFault heard x z never h = absurd (never.0 refl)
  hears_to waits ends.Memory heard x z never h = absurd (never.1 refl)
  hears_to waits _ heard x z never h = h
